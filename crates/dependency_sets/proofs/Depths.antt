-- A part of a list is no deeper than the list.
use Rattle.std.proofs.Common.{◌≡◌, ℕ, ◌≤◌, max, List, take, drop, sym, ap, ◌∙◌, arith}
use denote.Param.Weighed.{most, most-append}
use Rattle.std.proofs.lemmas.List.{take-append-drop}

halves : {X : Type 0} (μ : X → ℕ) (xs : List X) (k : ℕ) → most μ xs ≡ max (most μ (take k xs)) (most μ (drop k xs))
halves μ xs k = ap (most μ) (sym (take-append-drop k xs)) ∙ most-append μ (take k xs) (drop k xs)

pub most-take : {X : Type 0} (μ : X → ℕ) (xs : List X) (k : ℕ) → most μ (take k xs) ≤ most μ xs
most-take μ xs k = omega (arith, halves μ xs k)

pub most-part : {X : Type 0} (μ : X → ℕ) (xs : List X) (k n : ℕ) → most μ (take n (drop k xs)) ≤ most μ xs
most-part μ xs k n = omega (arith, halves μ xs k, most-take μ (drop k xs) n)
