-- The first part of a text, and what stands behind its sign.
use Rattle.std.specs.Prelude.{ℕ, Bool, true, false, not, List, [], ◌∷◌, Option, Some, None, option_map}
use Rattle.list_lines.specs.Conditions.{parts_between}

-- the parts of a text, by its first one and what stands behind that, if it isn't the last
abbrev pub split_parts : ℕ → List ℕ → Option (List ℕ) → List (List ℕ)
split_parts sign part None = part ∷ []
split_parts sign part (Some behind) = part ∷ parts_between sign behind

-- a value behind an odd number of `!`, or an even one
abbrev pub turned : Bool → Option Bool → Option Bool
turned true value = option_map not value
turned false value = value
