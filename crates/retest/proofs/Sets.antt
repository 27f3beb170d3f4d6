-- Members of a list and of its front.
use Rattle.std.proofs.Common.{◌≡◌, ℕ, zero, suc, Bool, true, false, cond, List, [], ◌∷◌, filter, take, nat_eq}
use Rattle.std.specs.List.{IsDistinct, AllByRecursion}

unequal_take : (n : ℕ) (x : ℕ) (xs : List ℕ) → AllByRecursion (λ y. nat_eq x y ≡ false) xs → AllByRecursion (λ y. nat_eq x y ≡ false) (take n xs)
unequal_take zero x xs h = tt
unequal_take (suc n) x [] h = tt
unequal_take (suc n) x (y ∷ ys) h = (h.0, unequal_take n x ys h.1)

unequal_filter : (p : ℕ → Bool) (x : ℕ) (xs : List ℕ) → AllByRecursion (λ y. nat_eq x y ≡ false) xs → AllByRecursion (λ y. nat_eq x y ≡ false) (filter p xs)
unequal_filter p x [] h = tt
unequal_filter p x (y ∷ ys) h = pick (p y) (unequal_filter p x ys h.1)
  where
    pick : (b : Bool) → AllByRecursion (λ y. nat_eq x y ≡ false) (filter p ys) → AllByRecursion (λ y. nat_eq x y ≡ false) (cond b (y ∷ filter p ys) (filter p ys))
    pick true rest = (h.0, rest)
    pick false rest = rest

-- a front of a list without repeats, and what is kept of it, has none
pub distinct_take : (n : ℕ) (xs : List ℕ) → IsDistinct nat_eq xs → IsDistinct nat_eq (take n xs)
unfolding IsDistinct
distinct_take zero xs h = tt
distinct_take (suc n) [] h = tt
distinct_take (suc n) (x ∷ xs) h = (unequal_take n x xs h.0, distinct_take n xs h.1)

pub distinct_filter : (p : ℕ → Bool) (xs : List ℕ) → IsDistinct nat_eq xs → IsDistinct nat_eq (filter p xs)
unfolding IsDistinct
distinct_filter p [] h = tt
distinct_filter p (x ∷ xs) h = pick (p x) (distinct_filter p xs h.1)
  where
    pick : (b : Bool) → IsDistinct nat_eq (filter p xs) → IsDistinct nat_eq (cond b (x ∷ filter p xs) (filter p xs))
    pick true rest = (unequal_filter p x xs h.0, rest)
    pick false rest = rest
