-- What is noted at each change is enough, and asking it again makes the marks exact.
use Rattle.std.proofs.Common.{◌≡◌, ◌∙◌, ℕ, Bool, true, false, ◌&&◌, ◌||◌, not, inl, inr, List, [], ◌∷◌, cond, refl, sym, ap}
use Rattle.std.proofs.lemmas.Bool.{cases_Bool, false≢true}
use Rattle.page_tree.specs.Directions.{is_in}
use Rattle.retest_laws.specs.Pending.{Pairs, IsRightBut, SeesChange, among, either, last_elements, last_answers, dirtied, marks_left}
use Rattle.retest_laws.specs.Laws.{Noted, Retested, Resting, Starting, Dropped}

neither : (a b : Bool) → (a || b) ≡ false → (a ≡ false) × (b ≡ false)
neither true b h = absurd (false≢true (sym h))
neither false b h = (refl, h)

-- equal, as unequal gives what isn't so
same_else : (a b c : Bool) → ((a ≡ b → ⊥) → c ≡ true) → c ≡ false → a ≡ b
same_else true true c f h = refl
same_else false false c f h = refl
same_else true false c f h = absurd (false≢true (sym h ∙ f (λ e. false≢true (sym e))))
same_else false true c f h = absurd (false≢true (sym h ∙ f false≢true))

and_true : (b : Bool) → (b && true) ≡ b
and_true true = refl
and_true false = refl

and_false : (b : Bool) → (b && false) ≡ false
and_false true = refl
and_false false = refl

-- more may be pending
pub more : (elements : List ℕ) (answers marks pending others : Pairs) → ((f x : ℕ) → others f x ≡ false → pending f x ≡ false) →
    IsRightBut elements answers marks pending → IsRightBut elements answers marks others
more elements answers marks pending others h r = record {
  right = λ f x i o. r.right f x i (h f x o);
  gone = r.gone;
}

-- marks that are as others are as right
pub alike : (elements : List ℕ) (answers marks others pending : Pairs) → ((f x : ℕ) → others f x ≡ marks f x) →
    IsRightBut elements answers marks pending → IsRightBut elements answers others pending
alike elements answers marks others pending same r = record {
  right = λ f x i o. same f x ∙ r.right f x i o;
  gone = λ f x o. same f x ∙ r.gone f x o;
}

-- one change
pub noted : (old new : List ℕ) (before after dirty marks pending : Pairs) → SeesChange old new before after dirty → IsRightBut old before marks pending →
    IsRightBut new after (among new marks) (either pending dirty)
noted old new before after dirty marks pending sees r = record {
  right = λ f x here quiet.
      let parts = neither (pending f x) (dirty f x) quiet in
      ap (λ e. marks f x && e) here ∙ and_true (marks f x) ∙ elim (cases_Bool (is_in old x)) [
        | inl was ↦ r.right f x was parts.0 ∙ same_else (before f x) (after f x) (dirty f x) (sees.complete f x was here) parts.1
        | inr new ↦ absurd (false≢true (sym parts.1 ∙ sees.came f x new here))
      ];
  gone = λ f x h. ap (λ e. marks f x && e) h ∙ and_false (marks f x);
}

-- changes one after the other
pub noted_all : Noted
noted_all [] old before marks pending l r = more old before marks pending _ (λ f x h. (neither (pending f x) false h).0) r
noted_all (s ∷ stages) old before marks pending l r =
    more (last_elements s.elements stages) (last_answers s.answers stages) (marks_left stages (among s.elements marks)) _ _
    (λ f x h. moved (pending f x) (s.dirty f x) (dirtied stages f x) h)
    (noted_all stages s.elements s.answers (among s.elements marks) (either pending s.dirty) l.1 (noted old s.elements before s.answers s.dirty marks pending l.0 r))
  where
    moved : (a b c : Bool) → (a || (b || c)) ≡ false → ((a || b) || c) ≡ false
    moved true b c h = h
    moved false b c h = h

settled : (e p c a m : Bool) → (e ≡ true → a ≡ true → c ≡ true) → (e ≡ true → p ≡ false → m ≡ a) → (e ≡ false → m ≡ false) →
    cond (e && p) (c && a) m ≡ (e && a)
settled true true c true m k r g = ap (λ b. b && true) (k refl refl)
settled true true true false m k r g = refl
settled true true false false m k r g = refl
settled true false c a m k r g = r refl refl
settled false p c a m k r g = g refl

pub retested : Retested
retested elements answers carries marks pending keys r f x =
    settled (is_in elements x) (pending f x) (carries f x) (answers f x) (marks f x) (keys f x) (r.right f x) (r.gone f x)

pub at_rest : Resting
at_rest elements answers marks exact = record {
  right = λ f x i o. exact f x ∙ ap (λ e. e && answers f x) i;
  gone = λ f x i. exact f x ∙ ap (λ e. e && answers f x) i;
}

pub at_start : Starting
at_start elements answers pending every = record {
  right = λ f x i o. absurd (false≢true (sym o ∙ every f x i));
  gone = λ f x i. refl;
}

pub dropped : Dropped
dropped old now marks left gone leaves f x =
    ap (λ b. marks f x && not b) (leaves x) ∙ by (marks f x) (is_in old x) (is_in now x) (gone f x)
  where
    by : (m o n : Bool) → (o ≡ false → m ≡ false) → (m && not (o && not n)) ≡ (m && n)
    by m true true h = refl
    by m true false h = refl
    by m false n h = ap (λ b. b && true) (h refl) ∙ sym (ap (λ b. b && n) (h refl))
