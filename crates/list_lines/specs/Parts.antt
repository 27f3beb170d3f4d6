-- The parts of a list between `!#if` and `!#endif`, and the lines that they make live. An `endif` closes the `if` before it where
-- between them `if` and `endif` are equal in number, and no front of what is between has more `endif` than `if`. A part without
-- `endif` ends with the list.
use Rattle.std.specs.Prelude.{ℕ, zero, suc, ◌&&◌, ◌||◌, Bool, true, false, not, List, [], ◌∷◌, ◌++◌, Option, Some, None, if◌then◌else◌}
use Rattle.std.specs.List.{list_all}
use Rattle.std.specs.Option.{is_some}

-- what a line does to parts
pub data Sign : Type 0 where
  opens : (condition : Bool) → Sign
  divides : Sign
  closes : Sign
  plain : Sign

-- How many inner parts of a part are open behind some lines of it, where so many are before them: one more for each `if`, one
-- fewer for each `endif`. None where an `endif` among the lines closes the part itself.
abbrev pub inner : ℕ → List Sign → Option ℕ
inner n [] = Some n
inner n (opens condition ∷ signs) = inner (suc n) signs
inner n (divides ∷ signs) = inner n signs
inner zero (closes ∷ signs) = None
inner (suc n) (closes ∷ signs) = inner n signs
inner n (plain ∷ signs) = inner n signs

-- an `else` stands among the lines of a part, and in no inner part
abbrev pub has_else : ℕ → List Sign → Bool
has_else n [] = false
has_else n (opens condition ∷ signs) = has_else (suc n) signs
has_else zero (divides ∷ signs) = true
has_else (suc n) (divides ∷ signs) = has_else (suc n) signs
has_else zero (closes ∷ signs) = false
has_else (suc n) (closes ∷ signs) = has_else n signs
has_else n (plain ∷ signs) = has_else n signs

-- a part that holds a line: its condition, and whether its `else` stands before that line
pub record Part : Type 0 where
  pub condition : Bool
  pub divided : Bool

abbrev pub part_if : Option ℕ → Part → List Part
part_if (Some n) part = part ∷ []
part_if None part = []

-- the part that a line opens, if it holds the line behind these lines
abbrev pub part_over : Bool → List Sign → List Part
part_over condition signs = part_if (inner 0 signs) (record { condition = condition; divided = has_else 0 signs })

-- the parts that are opened in these lines and hold the line behind them, innermost first
abbrev pub parts_over : List Sign → List Part
parts_over [] = []
parts_over (opens condition ∷ signs) = parts_over signs ++ part_over condition signs
parts_over (divides ∷ signs) = parts_over signs
parts_over (closes ∷ signs) = parts_over signs
parts_over (plain ∷ signs) = parts_over signs

-- lines before the `else` are live where the condition is true, those behind it where it is false
abbrev pub makes_live : Part → Bool
makes_live part = if part.divided then not part.condition else part.condition

-- a line is live where each part that holds it makes it live
abbrev pub are_live : List Part → Bool
are_live parts = list_all makes_live parts

-- an `else` belongs to the innermost part, and is its first
abbrev pub takes_else : List Part → Bool
takes_else [] = false
takes_else (part ∷ parts) = not part.divided

-- some part holds the line
abbrev pub are_some : List Part → Bool
are_some [] = false
are_some (part ∷ parts) = true

-- the part of an `if` before these lines, the last of the list, has no `endif`
abbrev pub is_unclosed : List Sign → Bool
is_unclosed signs = is_some (inner 0 signs)
