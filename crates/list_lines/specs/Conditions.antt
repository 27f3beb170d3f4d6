-- What the condition of `!#if` says: names with `!`, `&&`, `||` and parentheses, of which 16 may stand in one another. White space
-- may stand between them.
use Rattle.std.specs.Prelude.{ℕ, zero, suc, ◌==◌, ◌+◌, ◌-◌, ◌&&◌, ◌||◌, Bool, true, false, not, List, [], ◌∷◌, codes, length, map, take, drop, slice_index, Option, Some, None, option_map, if◌then◌else◌}
use Rattle.std.specs.List.{list_all, list_any}
use Rattle.std.specs.Str.{bytes_eq}
use Rattle.cos_source.specs.Classes.{is_in}
use Rattle.cos_source.specs.declared.classes.Class.TheVariants.{Name}
use Rattle.cos_source.specs.Spaces.{is_space, trimmed}
use Rattle.list_lines.specs.Separators.{begins_with}

-- ---- parts between signs

-- how many parentheses are open behind a byte
abbrev pub depth_behind : ℕ → ℕ → ℕ
depth_behind b depth = if b == 40 then depth + 1 else if b == 41 then depth - 1 else depth

abbrev pub longer : ℕ → List (List ℕ) → List (List ℕ)
longer b [] = (b ∷ []) ∷ []
longer b (part ∷ parts) = (b ∷ part) ∷ parts

-- The text begins with a sign of two of the same bytes, as `||`, in no parentheses.
abbrev pub is_cut : ℕ → ℕ → List ℕ → Bool
is_cut sign depth text = depth == 0 && begins_with (sign ∷ sign ∷ []) text

-- The parts between such signs, behind so many open parentheses. `passes` says that the first byte is the second one of a sign.
abbrev pub parts_from : ℕ → Bool → ℕ → List ℕ → List (List ℕ)
parts_from sign passes depth [] = [] ∷ []
parts_from sign true depth (b ∷ text) = parts_from sign false 0 text
parts_from sign false depth (b ∷ text) =
    let cuts = is_cut sign depth (b ∷ text) in
    let others = parts_from sign cuts (depth_behind b depth) text in
    if cuts then [] ∷ others else longer b others

abbrev pub parts_between : ℕ → List ℕ → List (List ℕ)
parts_between sign text = parts_from sign false 0 text

-- ---- what they say; None where a part isn't read

abbrev pub either : Option Bool → Option Bool → Option Bool
either (Some a) (Some b) = Some (a || b)
either (Some a) None = None
either None b = None

abbrev pub both : Option Bool → Option Bool → Option Bool
both (Some a) (Some b) = Some (a && b)
both (Some a) None = None
both None b = None

-- some part is true, and all are read
abbrev pub any_true : List (Option Bool) → Option Bool
any_true [] = Some false
any_true (value ∷ values) = either value (any_true values)

-- all parts are true, and all are read
abbrev pub all_true : List (Option Bool) → Option Bool
all_true [] = Some true
all_true (value ∷ values) = both value (all_true values)

abbrev pub is_name : List ℕ → Bool
is_name text = not (length text == 0) && list_all (is_in Name) text

-- a text in parentheses, and what stands between these
abbrev pub is_nested : List ℕ → Bool
is_nested text = begins_with (codes "(") text && slice_index text (length text - 1) == 41

abbrev pub between : List ℕ → List ℕ
between text = take (length text - 2) (drop 1 text)

module _ (given : List (List ℕ)) where
  -- the name holds: it is `ext_ublock`, or it is given
  abbrev pub is_true : List ℕ → Bool
  is_true name = bytes_eq name (codes "ext_ublock") || list_any (λ g. bytes_eq g name) given

  module _ (nested : List ℕ → Option Bool) where
    -- a name or a text in parentheses, which `nested` reads
    abbrev pub base_of : List ℕ → Option Bool
    base_of text =
        if is_name text then Some (is_true text) else (elim (is_nested text) [ true ↦ nested (between text) | false ↦ None ])

    -- the same behind any number of `!`
    abbrev pub not_of : List ℕ → Option Bool
    not_of [] = base_of []
    not_of (b ∷ text) =
        elim (is_space b) [
          | true ↦ not_of text
          | false ↦ elim (b == 33) [ true ↦ option_map not (not_of text) | false ↦ base_of (trimmed (b ∷ text)) ]
        ]

    abbrev pub and_of : List ℕ → Option Bool
    and_of text = all_true (map not_of (parts_between 38 text))

    abbrev pub or_of : List ℕ → Option Bool
    or_of text = any_true (map and_of (parts_between 124 text))

  -- a text in parentheses, where so many more may stand in one another
  abbrev pub nested_in : ℕ → List ℕ → Option Bool
  nested_in zero text = None
  nested_in (suc levels) text = or_of (nested_in levels) text

  -- whether a condition holds, where it is read
  abbrev pub condition_of : List ℕ → Option Bool
  condition_of text = or_of (nested_in 16) text
