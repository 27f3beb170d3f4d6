-- Columns without answers.
use Rattle.std.proofs.Common.{◌≡◌, ℕ, zero, suc, Bool, List, [], ◌∷◌, ◌++◌, get_or, refl, ap}
use Rattle.std.proofs.Math.ListN.{replicate}

-- so many columns without answers
abbrev pub blanks : ℕ → List (List (ℕ × Bool))
blanks many = replicate many []

pub nothing_at : (many k : ℕ) → get_or (blanks many) k [] ≡ []
nothing_at zero k = refl
nothing_at (suc many) zero = refl
nothing_at (suc many) (suc k) = nothing_at many k

pub one_blank : (many : ℕ) → blanks many ++ ([] ∷ []) ≡ blanks (suc many)
one_blank zero = refl
one_blank (suc many) = ap (λ (l : List (List (ℕ × Bool))). [] ∷ l) (one_blank many)
