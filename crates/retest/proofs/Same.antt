-- When marks are those of before.
use Rattle.std.proofs.Common.{◌≡◌, ◌∙◌, ◌==◌, ◌&&◌, ◌||◌, ℕ, Bool, true, false, cond, List, sym, ap, inl, inr}
use Rattle.std.proofs.lemmas.Bool.{cases_Bool, eqb-true}
use Rattle.page_tree.specs.Directions.{is_in}
use Rattle.kept_marks.specs.Kept.{row, is_marked, IsSame}

-- one element was visited, and its row is the same
pub row_kept : (old new : List (ℕ × List ℕ)) (x : ℕ) (touched says : ℕ → ℕ → Bool) → row old x ≡ row new x →
    ((f y : ℕ) → is_marked new f y ≡ cond (y == x && touched f y) (says f y) (is_marked old f y)) → IsSame old new
row_kept old new x touched says same marks f y = elim (cases_Bool (y == x)) [
  | inl e ↦ ap (is_marked new f) (eqb-true y x e) ∙ ap (λ (l : List ℕ). is_in l f) (sym same) ∙ ap (is_marked old f) (sym (eqb-true y x e))
  | inr e ↦ marks f y ∙ ap (λ b. cond (b && touched f y) (says f y) (is_marked old f y)) e
]

-- neither of two answers was yes
pub neither : (a b : Bool) → (a || b) ≡ false → (a ≡ false) × (b ≡ false)
neither true b h = absurd (let no : true ≡ false = h in cc)
neither false b h = (cc, h)
