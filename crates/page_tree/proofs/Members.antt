-- Numbers in lists of numbers.
use Rattle.std.proofs.Common.{◌≡◌, ℕ, Bool, true, ◌==◌, ◌&&◌, List, [], ◌∷◌, filter, refl, ap, ap₂, ◌∙◌, cond}
use Rattle.std.proofs.Math.Bool.{and_comm}
use Rattle.std.proofs.lemmas.Bool.{eqb-true, eq-eqb, or_left, or_right}
use Rattle.std.proofs.lemmas.Map.Views.{any-filter_same}
use Rattle.page_tree.specs.Directions.{is_in}

-- a number stands in a filtered list where it stands in the list and passes
pub is_in-filter : (p : ℕ → Bool) (xs : List ℕ) (x : ℕ) → is_in (filter p xs) x ≡ (is_in xs x && p x)
is_in-filter p xs x = any-filter_same (λ y. y == x) p (p x) (λ y h. ap p (eqb-true y x h)) xs ∙ and_comm (p x) (is_in xs x)

-- tests that agree on the members keep the same
pub filter-alike : (p q : ℕ → Bool) (xs : List ℕ) → ((x : ℕ) → is_in xs x ≡ true → p x ≡ q x) → filter p xs ≡ filter q xs
filter-alike p q [] h = refl
filter-alike p q (x ∷ xs) h =
    ap₂ (λ b ys. cond b (x ∷ ys) ys) (h x (or_left (x == x) (is_in xs x) (eq-eqb x x refl)))
    (filter-alike p q xs (λ y i. h y (or_right (x == y) (is_in xs y) i)))
