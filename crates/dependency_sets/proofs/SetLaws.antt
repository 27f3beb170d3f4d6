-- Lists that are sorted and have no repeats.
use Rattle.std.proofs.Common.{◌≡◌, ℕ, Bool, true, false, ◌||◌, List, [], ◌∷◌, cond, refl, sym, ap, ◌∙◌}
use Rattle.std.specs.declared.cmp.Ordering.{Ordering}
use Rattle.std.specs.declared.cmp.Ordering.TheVariants.{Less, Equal, Greater}
use Rattle.std.specs.List.{list_any, dedup, dedup_from}
use Rattle.std.specs.Ordering.{nat_cmp, is_eq, eq_by_cmp}
use Rattle.std.specs.Prelude.{nat_eq}
use Rattle.std.proofs.lemmas.Bool.{eqb-true, eq-eqb}
use Rattle.std.proofs.lemmas.Cmp.{nat_cmp_total, tied_itself}
use Rattle.std.proofs.lemmas.Map.Lookups.{exact_unsigned}

or_twice : (a b : Bool) → (a || b) ≡ (a || (a || b))
or_twice true b = refl
or_twice false b = refl

-- what stands twice is found as it is found once
module _ {X : Type 0} (E : X → X → Bool) (exact : (x y : X) → E x y ≡ true → x ≡ y) (p : X → Bool) where
  any-dedup_from : (k : X) (xs : List X) → list_any p (dedup_from E k xs) ≡ (p k || list_any p xs)
  any-dedup_from k [] = refl
  any-dedup_from k (x ∷ xs) = by (E x k) refl (any-dedup_from k xs) (any-dedup_from x xs)
    where
      by : (b : Bool) → E x k ≡ b → list_any p (dedup_from E k xs) ≡ (p k || list_any p xs) → list_any p (dedup_from E x xs) ≡ (p x || list_any p xs) →
          list_any p (cond b (dedup_from E k xs) (k ∷ dedup_from E x xs)) ≡ (p k || (p x || list_any p xs))
      by true e same other =
          same ∙ or_twice (p k) (list_any p xs)
          ∙ ap (λ (y : X). p k || (p y || list_any p xs)) (sym (exact x k e))
      by false e same other = ap (λ b. p k || b) other

  pub any-dedup : (xs : List X) → list_any p (dedup E xs) ≡ list_any p xs
  any-dedup [] = refl
  any-dedup (x ∷ xs) = any-dedup_from x xs

-- numbers are equal where they compare equal
pub ties : (x y : ℕ) → nat_eq x y ≡ eq_by_cmp nat_cmp x y
ties x y = sides (nat_eq x y) (nat_cmp x y) (λ h. tied h) (λ h. eq-eqb x y (exact_unsigned x y h))
  where
    tied : nat_eq x y ≡ true → nat_cmp x y ≡ Equal
    tied h = ap (λ (k : ℕ). nat_cmp k y) (eqb-true x y h) ∙ tied_itself nat_cmp_total y

    sides : (b : Bool) (o : Ordering) → (b ≡ true → o ≡ Equal) → (o ≡ Equal → b ≡ true) → b ≡ is_eq o
    sides true o f g = sym (ap is_eq (f refl))
    sides false Less f g = refl
    sides false Equal f g = g refl
    sides false Greater f g = refl
