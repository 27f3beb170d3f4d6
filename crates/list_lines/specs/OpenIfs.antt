-- The parts that hold the line that is read, as the reader keeps them.
use Rattle.std.specs.Prelude.{◌≡◌, ℕ, Bool, true, false, List, [], ◌∷◌, map, Option}
use Rattle.list_lines.specs.declared.nesting.OpenIf.{OpenIf}
use Rattle.list_lines.specs.declared.nesting.Unclosed.{Unclosed}
use Rattle.list_lines.specs.Parts.{Part, are_live}

abbrev pub part_of : OpenIf → Part
part_of part = record { condition = part.condition; divided = part.divided }

abbrev pub parts_of : List OpenIf → List Part
parts_of parts = map part_of parts

-- each knows whether the parts around it make it live
abbrev pub AreChained : List OpenIf → Type 0
AreChained [] = Unit {0}
AreChained (part ∷ parts) = (part.outside ≡ are_live (parts_of parts)) × AreChained parts

-- the innermost has its `else` behind it
abbrev pub divided_first : List OpenIf → List OpenIf
divided_first [] = []
divided_first (part ∷ parts) = record part { divided = true } ∷ parts

-- a part that is opened
abbrev pub open_if : Bool → ℕ → Option Unclosed → List OpenIf → OpenIf
open_if condition noticed unclosed parts = record {
  condition = condition;
  divided = false;
  outside = are_live (parts_of parts);
  noticed = noticed;
  unclosed = unclosed;
}
