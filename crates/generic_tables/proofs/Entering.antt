-- Elements that come into tables, and go.
use Rattle.std.proofs.Common.{◌≡◌, ◌∙◌, ◌&&◌, ◌||◌, ◌==◌, not, ℕ, Bool, true, false, refl, sym, ap, inl, inr}
use Rattle.std.proofs.lemmas.Bool.{cases_Bool, eqb-true, false≢true}
use Rattle.page_tree.specs.Forest.{Tree}
use Rattle.generic_tables.specs.declared.keys.Key.{Key}
use Rattle.generic_tables.specs.declared.filed.Filed.{Filed}
use Rattle.generic_tables.specs.Keys.{carries}
use Rattle.generic_tables.specs.Filed.{holds, IsSame, IsBetween}
use Rattle.generic_tables.proofs.Written.{or_false}

-- an element that was put in halfway, and then taken out
pub undone : (t : Tree) (n : ℕ) (old halfway new : Filed) → ((k : Key) → holds old k n ≡ false) → IsBetween t n old halfway →
    ((k : Key) (x : ℕ) → holds new k x ≡ (holds halfway k x && not ((x == n) && carries t k n))) → IsSame old new
undone t n old halfway new absent between taken k x = taken k x ∙ elim (cases_Bool (x == n)) [
  | inl e ↦
      ap (λ b. holds halfway k x && not (b && carries t k n)) e
      ∙ here (holds halfway k x) (holds old k x) (carries t k n) (ap (holds old k) (eqb-true x n e) ∙ absent k)
      (λ h. ap (λ b. holds old k x || (b && carries t k n)) (sym e) ∙ between.came k x h)
  | inr e ↦
      ap (λ b. holds halfway k x && not (b && carries t k n)) e
      ∙ other (holds halfway k x) (holds old k x) (between.kept k x)
      (λ h. sym (ap (λ b. holds old k x || (b && carries t k n)) e ∙ or_false (holds old k x)) ∙ between.came k x h)
]
  where
    here : (m o c : Bool) → o ≡ false → (m ≡ true → (o || (true && c)) ≡ true) → (m && not (true && c)) ≡ o
    here m true c z f = absurd (false≢true (sym z))
    here true false true z f = refl
    here true false false z f = sym (f refl)
    here false false c z f = refl

    other : (m o : Bool) → (o ≡ true → m ≡ true) → (m ≡ true → o ≡ true) → (m && not (false && false)) ≡ o
    other true true f g = refl
    other true false f g = sym (g refl)
    other false true f g = f refl
    other false false f g = refl

-- an element that stood under its keys leaves all
pub left_all : (t : Tree) (n : ℕ) (old new : Filed) → ((k : Key) → holds old k n ≡ carries t k n) → ((k : Key) (x : ℕ) → holds new k x ≡ (holds old k x && not ((x == n) && carries t k n))) →
    (k : Key) (x : ℕ) → holds new k x ≡ (holds old k x && not (x == n))
left_all t n old new same taken k x = taken k x ∙ elim (cases_Bool (x == n)) [
  | inl e ↦
      ap (λ b. holds old k x && not (b && carries t k n)) e ∙ here (holds old k x) (carries t k n) (ap (holds old k) (eqb-true x n e) ∙ same k)
      ∙ sym (ap (λ b. holds old k x && not b) e)
  | inr e ↦ ap (λ b. holds old k x && not (b && carries t k n)) e ∙ sym (ap (λ b. holds old k x && not b) e)
]
  where
    here : (o c : Bool) → o ≡ c → (o && not (true && c)) ≡ (o && not true)
    here true true e = refl
    here true false e = e
    here false c e = refl
