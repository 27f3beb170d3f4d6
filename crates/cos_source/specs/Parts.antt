-- The parts of a text between separators. A separator is one byte.
use Rattle.std.specs.Prelude.{ℕ, ◌+◌, ◌==◌, List, [], ◌∷◌, length, Option, Some, None, if◌then◌else◌}
use Rattle.std.specs.List.{slice_split}

-- what stands before the first separator, or all where there is none
abbrev pub before : ℕ → List ℕ → List ℕ
before separator [] = []
before separator (b ∷ text) = if b == separator then [] else b ∷ before separator text

-- what stands behind the first separator, if there is one
abbrev pub behind : ℕ → List ℕ → Option (List ℕ)
behind separator [] = None
behind separator (b ∷ text) = if b == separator then Some text else behind separator text

-- the parts between the separators, one more than there are separators
abbrev pub parts : ℕ → List ℕ → List (List ℕ)
parts separator = slice_split (λ b. b == separator)

-- parts with the places where they begin, of which the first begins at this one, and each other one byte behind the end
-- of the part before it
abbrev pub placed : ℕ → List (List ℕ) → List (ℕ × List ℕ)
placed place [] = []
placed place (part ∷ parts) = (place, part) ∷ placed (place + (length part + 1)) parts

-- the parts of what is left of a text, which begins at this place of it
abbrev pub parts_left : ℕ → ℕ → Option (List ℕ) → List (ℕ × List ℕ)
parts_left separator place None = []
parts_left separator place (Some rest) = placed place (parts separator rest)
