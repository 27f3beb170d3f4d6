-- A byte at the end of a text.
use Rattle.std.proofs.Common.{◌≡◌, ◌≢◌, ◌++◌, ◌==◌, ◌-◌, ℕ, zero, suc, Bool, true, false, cond, List, [], ◌∷◌, length, take, slice_index, refl, ap, arith, eqb-true}
use Rattle.address_patterns.specs.Pages.{without_dot}
use Rattle.address_patterns.specs.Patterns.{at_end_of, before_end}

ends_at : (c m : ℕ) (name : List ℕ) → length name ≡ suc m → (slice_index name m == c) ≡ true → name ≡ take m name ++ c ∷ []
ends_at c m [] len e = absurd (omega (arith, len))
ends_at c zero (b ∷ []) len e = ap (λ x. x ∷ []) (eqb-true b c e)
ends_at c zero (b ∷ d ∷ rest) len e = absurd (omega (arith, len))
ends_at c (suc m) (b ∷ name) len e = ap (λ l. b ∷ l) (ends_at c m name (omega (arith, len)) e)

-- a text that doesn't end with a byte has another one there
not_last : (c : ℕ) → (0 == c) ≡ false → (name : List ℕ) → ((front : List ℕ) → name ≢ front ++ c ∷ []) → (slice_index name (length name - 1) == c) ≡ false
not_last c zero_is [] other = zero_is
not_last c zero_is (b ∷ rest) other = go (slice_index (b ∷ rest) (length (b ∷ rest) - 1) == c) refl
  where
    go : (t : Bool) → (slice_index (b ∷ rest) (length (b ∷ rest) - 1) == c) ≡ t → t ≡ false
    go true e = absurd (other _ (ends_at c (length (b ∷ rest) - 1) (b ∷ rest) (omega arith) e))
    go false e = refl

-- a name that doesn't end with a dot stays
pub kept : (name : List ℕ) → ((front : List ℕ) → name ≢ front ++ 46 ∷ []) → name ≡ without_dot name
kept name other = rw (not_last 46 refl name other) refl

pub no_end : (text : List ℕ) → ((front : List ℕ) → text ≢ front ++ 124 ∷ []) → false ≡ at_end_of text
no_end text other = rw (not_last 124 refl text other) refl

pub whole : (text : List ℕ) → ((front : List ℕ) → text ≢ front ++ 124 ∷ []) → text ≡ before_end text
whole text other = rw (not_last 124 refl text other) refl
