-- A source is made of lines and of what ends them.
use Rattle.std.specs.Prelude.{ℕ, ◌≡◌, ◌⊎◌, List, [], ◌∷◌, ◌++◌}

-- LF, CR LF, or nothing where the source ends
abbrev pub EndsLine : List ℕ → List ℕ → Type 0
EndsLine end rest = (end ≡ 10 ∷ []) ⊎ (end ≡ 13 ∷ 10 ∷ []) ⊎ ((end ≡ []) × (rest ≡ []))

-- the source is the first line, what ends it, and a rest that is made of the other lines
abbrev pub IsMadeOf : List (List ℕ) → List ℕ → Type 0
IsMadeOf [] source = source ≡ []
IsMadeOf (line ∷ lines) source =
    (end : List ℕ) × (rest : List ℕ) × (source ≡ line ++ end ++ rest) × EndsLine end rest × IsMadeOf lines rest
