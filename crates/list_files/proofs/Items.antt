-- What is left of a list in a loop.
use Rattle.std.proofs.Common.{◌≡◌, ◌∙◌, ◌+◌, ◌<◌, ℕ, suc, List, ◌∷◌, length, drop, get_or, add-one, drop-cons, ap, sym}

-- it begins with the item at hand
pub next_of : {A : Type 0} (items : List A) (i : ℕ) (item : A) → i < length items → item ≡ get_or items i item → drop i items ≡ item ∷ drop (i + 1) items
next_of items i item within is = rw add-one (drop-cons items i item within ∙ ap (λ x. x ∷ drop (suc i) items) (sym is))
