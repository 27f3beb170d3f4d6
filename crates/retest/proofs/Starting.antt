-- The start goes on by one element.
use Rattle.std.proofs.Common.{◌≡◌, ◌∙◌, ◌&&◌, ◌||◌, ◌==◌, ◌+◌, ℕ, Bool, true, false, cond, List, ◌∷◌, refl, sym, ap, inl, inr}
use Rattle.std.proofs.lemmas.Bool.{cases_Bool, eqb-true}
use Rattle.std.proofs.lemmas.List.Sums.{sum_by-cons}
use Rattle.page_tree.specs.Directions.{is_in}
use Rattle.generic_tables.proofs.Written.{eq-turned}
use Rattle.retest_laws.specs.Pending.{Pairs, due_at, budget}

-- the element n was asked: what it carries no key of answers no
pub one_asked : (x n : ℕ) (all left rest : List ℕ) (now old answer carried : Bool) → is_in all n ≡ true → left ≡ n ∷ rest → (answer ≡ true → carried ≡ true) →
    now ≡ cond ((x == n) && true) (carried && answer) old → (old || (is_in left x && answer)) ≡ (is_in all x && answer) →
    (now || (is_in rest x && answer)) ≡ (is_in all x && answer)
one_asked x n all left rest now old answer carried here is key h before = elim (cases_Bool (x == n)) [
  | inl e ↦
      ap (λ b. b || (is_in rest x && answer)) (h ∙ ap (λ b. cond (b && true) (carried && answer) old) e)
      ∙ whole carried answer (is_in rest x) key ∙ sym (ap (λ b. b && answer) (ap (is_in all) (eqb-true x n e) ∙ here))
  | inr e ↦
      ap (λ b. b || (is_in rest x && answer)) (h ∙ ap (λ b. cond (b && true) (carried && answer) old) e)
      ∙ sym (ap (λ b. old || (b && answer)) (ap (λ (xs : List ℕ). is_in xs x) is ∙ ap (λ b. b || is_in rest x) (eq-turned n x ∙ e))) ∙ before
]
  where
    whole : (k a r : Bool) → (a ≡ true → k ≡ true) → ((k && a) || (r && a)) ≡ (true && a)
    whole true true r f = refl
    whole true false true f = refl
    whole true false false f = refl
    whole false true r f = (let e : false ≡ true = f refl in cc)
    whole false false true f = refl
    whole false false false f = refl

-- what is due at the elements that are left
pub one_due : (n : ℕ) (left rest : List ℕ) (x : ℕ) (carries pending : Pairs) → left ≡ x ∷ rest → budget n left carries pending ≡ due_at n carries pending x + budget n rest carries pending
one_due n left rest x carries pending is = ap (λ (xs : List ℕ). budget n xs carries pending) is ∙ sum_by-cons (due_at n carries pending) x rest
