-- Walks from element to element, each behind the one before it.
use Rattle.std.proofs.Common.{◌≡◌, ℕ, ◌<◌, ◌≤◌, ◌==◌, true, false, cond, List, [], ◌∷◌, filter, length, Option, Some, None, refl, sym, ◌∙◌, ap, inl, inr, ◌⊎◌, arith, subst}
use Rattle.std.proofs.lemmas.Bool.{eq-eqb, ne_eqb, or_left, or_right}
use Rattle.page_tree.specs.Forest.{Tree, rooted, find, first, children, first_in, behind}
use Rattle.page_tree.specs.Standings.{siblings_of, all}
use Rattle.page_tree.specs.Directions.{is_in}
use Rattle.page_tree.specs.Trees.{IsTree}
use Rattle.page_tree.proofs.Finding.{same_cases}
use Rattle.page_tree.proofs.Parts.{siblings_from, from_first_child}
use Rattle.page_tree.proofs.Walk.{times}
use Rattle.selector_match.proofs.SiblingLaws.{forth_from}
use Rattle.selector_match.specs.Walks.{after_in, elements_behind}

-- what is left of a walk that stands at a number, or at the end
abbrev pub left : Option ℕ → List ℕ → List ℕ
left None ns = []
left (Some m) ns = m ∷ after_in m ns

behind-first : (k : ℕ) (ns : List ℕ) → behind k ns ≡ first_in (after_in k ns)
behind-first k [] = refl
behind-first k (n ∷ ns) =
    elim (same_cases k n) [
      | inl p ↦ rw p.2 refl
      | inr p ↦ rw p.2 (behind-first k ns)
    ]

times_in : (m : ℕ) (ns : List ℕ) → 0 < times m ns → is_in ns m ≡ true
times_in m [] h = absurd (omega arith)
times_in m (n ∷ ns) h =
    elim (same_cases m n) [
      | inl p ↦ or_left (n == m) (is_in ns m) (eq-eqb n m (sym p.0))
      | inr p ↦ or_right (n == m) (is_in ns m) (times_in m ns (omega arith))
    ]

first_times : (m : ℕ) (ns : List ℕ) → 0 < times m (m ∷ ns)
first_times m ns = elim (same_cases m m) [ inl p ↦ omega arith | inr p ↦ absurd (p.0 refl) ]

-- behind a number stands the next one, and then what is behind that
after_in-next : (k m : ℕ) (ns more : List ℕ) → ((j : ℕ) → times j ns ≤ 1) → after_in k ns ≡ m ∷ more → (after_in m ns ≡ more) × (0 < times m ns)
after_in-next k m [] more once h = absurd (let no : [] ≡ m ∷ more = h in cc)
after_in-next k m (n ∷ ns) more once h =
    elim (same_cases k n) [
      | inl p ↦
          let e : ns ≡ m ∷ more = sym (rw p.2 refl) ∙ h in
          let there : 0 < times m ns = omega (arith, ap (times m) e, first_times m more) in
          let ne : m ≡ n → ⊥ = λ q. elim (same_cases m n) [ inl r ↦ omega (arith, once m, there, r.1) | inr r ↦ r.0 q ] in (
            rw (ne_eqb m n ne) (ap (after_in m) e ∙ rw (eq-eqb m m refl) refl),
            omega (arith, there),
          )
      | inr p ↦
          let r = after_in-next k m ns more (λ j. omega (arith, once j)) (sym (rw p.2 refl) ∙ h) in
          let ne : m ≡ n → ⊥ = λ q. elim (same_cases m n) [ inl s ↦ omega (arith, once m, r.1, s.1) | inr s ↦ s.0 q ] in
          (rw (ne_eqb m n ne) r.0, omega (arith, r.1))
    ]

split_first : (ns : List ℕ) (o : Option ℕ) → o ≡ first_in ns → ((o ≡ None) × (ns ≡ [])) ⊎ ((m : ℕ) × (more : List ℕ) × (o ≡ Some m) × (ns ≡ m ∷ more))
split_first [] o e = inl (e, refl)
split_first (m ∷ more) o e = inr (m, more, e, refl)

-- one step of a walk
pub step_on : (k : ℕ) (ns : List ℕ) → ((j : ℕ) → times j ns ≤ 1) → (o : Option ℕ) → o ≡ behind k ns →
    (after_in k ns ≡ left o ns) × ((m : ℕ) → o ≡ Some m → is_in ns m ≡ true)
step_on k ns once o e =
    elim (split_first (after_in k ns) o (e ∙ behind-first k ns)) [
      | inl n ↦ (n.1 ∙ ap (λ (p : Option ℕ). left p ns) (sym n.0), λ m q. absurd (let no : None ≡ Some m = sym n.0 ∙ q in cc))
      | inr s ↦
          let r = after_in-next k s.0 ns s.1 once s.3 in (
            s.3 ∙ ap (λ (more : List ℕ). s.0 ∷ more) (sym r.0) ∙ ap (λ (p : Option ℕ). left p ns) (sym s.2),
            λ m q. let same : s.0 ≡ m = (let both : Some s.0 ≡ Some m = sym s.2 ∙ q in cc) in times_in m ns (subst (λ (j : ℕ). 0 < times j ns) same r.1),
          )
    ]

module _ (t : Tree) (ns : List ℕ) where
  -- the elements that are left
  abbrev pub elements_left : Option ℕ → List ℕ
  elements_left o = filter (is_in (all t)) (left o ns)

  pub left_here : (o : Option ℕ) (n : ℕ) → o ≡ Some n → is_in (all t) n ≡ true → elements_left o ≡ n ∷ elements_behind t ns n
  left_here o n e here =
      ap elements_left e ∙ ap (λ b. cond b (n ∷ elements_behind t ns n) (elements_behind t ns n)) here

  pub left_other : (o : Option ℕ) (n : ℕ) → o ≡ Some n → is_in (all t) n ≡ false → elements_left o ≡ elements_behind t ns n
  left_other o n e other =
      ap elements_left e ∙ ap (λ b. cond b (n ∷ elements_behind t ns n) (elements_behind t ns n)) other

  pub left_falls : (o next : Option ℕ) (n : ℕ) → o ≡ Some n → after_in n ns ≡ left next ns → length (left next ns) < length (left o ns)
  left_falls o next n e on = omega (arith, ap length on, ap (λ (p : Option ℕ). length (left p ns)) e)

-- the walk over the children begins
pub child_start : (t : Tree) → IsTree t → (x : ℕ) (o : Option ℕ) → o ≡ first (children (find x (rooted t.nodes))) →
    (siblings_of (children (find x (rooted t.nodes))) ≡ forth_from t o) × (first (siblings_from o (rooted t.nodes)) ≡ o)
child_start t tree x o e =
    let r = from_first_child x (rooted t.nodes) tree.once o e in
    (ap siblings_of (sym r), ap first r ∙ sym e)
