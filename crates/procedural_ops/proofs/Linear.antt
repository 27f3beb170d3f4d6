-- Each step but Others leads from a list to what it leads to from some member.
use Rattle.std.proofs.Common.{◌≡◌, ℕ, Bool, true, false, not, List, [], ◌∷◌, ◌++◌, map, filter, refl, sym, ap, subst, ◌∙◌}
use Rattle.std.proofs.lemmas.Bool.{both_ways, and_parts}
use Rattle.std.proofs.lemmas.List.{map-append}
use Rattle.std.specs.List.{list_any, list_all}
use Rattle.selector_tree.specs.declared.selector.Step.{Step, out-Step}
use Rattle.selector_tree.specs.declared.selector.Step.TheOpen.{Step-F}
use Rattle.selector_tree.specs.declared.selector.Step.TheFolds.{fold_out-Step, map-Step}
use Rattle.selector_tree.specs.declared.selector.Test.{Test}
use Rattle.page_tree.specs.Forest.{Tree}
use Rattle.page_tree.specs.Standings.{all}
use Rattle.page_tree.specs.Directions.{is_in}
use Rattle.cos_patterns.specs.declared.written.Written.{Written}
use Rattle.cos_patterns.specs.Found.{pattern_found}
use Rattle.selector_meaning.specs.Texts.{Bytes, is_empty}
use Rattle.selector_meaning.specs.Meaning.{StepMeaning, TestMeaning, ChainMeaning, run, leads, holds, step_meaning, test_meaning, from_some, is_other}
use Rattle.proper_filters.specs.Proper.{inner_step, inner_test, is_inner, is_inner_test, are_inner}
use Rattle.procedural_ops.specs.Reaching.{meaning, chain_meaning, reached, leads_from}
use Rattle.procedural_ops.proofs.Any.{same_by_iff, here, any-made, any-found, kept, keeps, alone, filled}

module _ (t : Tree) (path : Bytes) where
  pub record IsLinear (m : StepMeaning) : Type 0 where
    pub linear : (s : List ℕ) (x : ℕ) → is_in (m.push s) x ≡ list_any (λ y. is_in (m.push (y ∷ [])) x) s

  linear-filter : (up : Bool) (p : ℕ → Bool) → IsLinear (record { goes_up = up; push = filter p })
  linear-filter up p = record {
    linear = λ s x. same_by_iff (is_in (filter p s) x) (list_any (λ y. is_in (filter p (y ∷ [])) x) s)
        (λ h. let k = kept p s x h in any-made (λ y. is_in (filter p (y ∷ [])) x) s x k.0 (keeps p (x ∷ []) x (here x []) k.1))
        (λ h. let r = any-found (λ y. is_in (filter p (y ∷ [])) x) s h in let k = kept p (r.0 ∷ []) x r.2 in
        keeps p s x (subst (λ z. is_in s z ≡ true) (alone r.0 x k.0) r.1) k.1);
  }

  linear-from : (up : Bool) (r : ℕ → ℕ → Bool) → IsLinear (record { goes_up = up; push = from_some t r })
  linear-from up r = record {
    linear = λ s x. same_by_iff (is_in (from_some t r s) x) (list_any (λ y. is_in (from_some t r (y ∷ [])) x) s)
        (λ h. let k = kept (λ z. list_any (λ y. r y z) s) (all t) x h in let f = any-found (λ y. r y x) s k.1 in
        any-made (λ y. is_in (from_some t r (y ∷ [])) x) s f.0 f.1
        (keeps (λ z. list_any (λ y. r y z) (f.0 ∷ [])) (all t) x k.0 (any-made (λ y. r y x) (f.0 ∷ []) f.0 (here f.0 []) f.2)))
        (λ h. let f = any-found (λ y. is_in (from_some t r (y ∷ [])) x) s h in
        let k = kept (λ z. list_any (λ y. r y z) (f.0 ∷ [])) (all t) x f.2 in
        let g = any-found (λ y. r y x) (f.0 ∷ []) k.1 in
        keeps (λ z. list_any (λ y. r y z) s) (all t) x k.0
        (any-made (λ y. r y x) s f.0 f.1 (subst (λ z. r z x ≡ true) (sym (alone f.0 g.0 g.1)) g.2)));
  }

  linear_layer : (patterns : List Written) (o : Step-F Step Test) → inner_step patterns (map-Step Step Test Bool Bool (is_inner patterns) (is_inner_test patterns) o) ≡ true →
      IsLinear (step_meaning pattern_found t path (map-Step Step Test StepMeaning TestMeaning (meaning t path) (holds pattern_found t path) o))
  linear_layer patterns (Step-F.Keep q) h = linear-filter false (holds pattern_found t path q)
  linear_layer patterns (Step-F.Move place) h = linear-from false _
  linear_layer patterns (Step-F.Upward n) h = linear-from true _
  linear_layer patterns (Step-F.UpwardTo l) h = linear-from true _
  linear_layer patterns Step-F.Others h = absurd (both_ways false refl h)

  pub linear_step : (patterns : List Written) (s : Step) → is_inner patterns s ≡ true → IsLinear (meaning t path s)
  linear_step patterns s h =
      subst IsLinear (sym (fold_out-Step StepMeaning TestMeaning (step_meaning pattern_found t path) (test_meaning pattern_found t path) s))
      (linear_layer patterns (out-Step s) (sym (fold_out-Step Bool Bool (inner_step patterns) (inner_test patterns) s) ∙ h))

  -- what a step leads to from elements are elements
  closed_layer : (o : Step-F StepMeaning TestMeaning) (s : List ℕ) → ((z : ℕ) → is_in s z ≡ true → is_in (all t) z ≡ true) →
      (x : ℕ) → is_in ((step_meaning pattern_found t path o).push s) x ≡ true → is_in (all t) x ≡ true
  closed_layer (Step-F.Keep q) s within x h = within x (kept q s x h).0
  closed_layer (Step-F.Move place) s within x h = (kept _ (all t) x h).0
  closed_layer (Step-F.Upward n) s within x h = (kept _ (all t) x h).0
  closed_layer (Step-F.UpwardTo l) s within x h = (kept _ (all t) x h).0
  closed_layer Step-F.Others s within x h = (kept (is_other t s) (all t) x h).0

  closed_step : (step : Step) (s : List ℕ) → ((z : ℕ) → is_in s z ≡ true → is_in (all t) z ≡ true) →
      (x : ℕ) → is_in ((meaning t path step).push s) x ≡ true → is_in (all t) x ≡ true
  closed_step step s within x h =
      closed_layer (map-Step Step Test StepMeaning TestMeaning (meaning t path) (holds pattern_found t path) (out-Step step)) s within x
      (sym (ap (λ (m : StepMeaning). is_in (m.push s) x) (fold_out-Step StepMeaning TestMeaning (step_meaning pattern_found t path) (test_meaning pattern_found t path) step)) ∙ h)

  run_stays : (steps : List Step) → (s : List ℕ) → ((z : ℕ) → is_in s z ≡ true → is_in (all t) z ≡ true) →
      (x : ℕ) → is_in (run (chain_meaning t path steps) s) x ≡ true → is_in (all t) x ≡ true
  run_stays [] s within x h = within x h
  run_stays (step ∷ steps) s within x h = run_stays steps ((meaning t path step).push s) (closed_step step s within) x h

  -- what steps reach are elements
  pub reached_elements : (steps : List Step) (x : ℕ) → is_in (reached t path steps) x ≡ true → is_in (all t) x ≡ true
  unfolding reached
  reached_elements steps x h = run_stays steps (all t) (λ z e. e) x h

  -- a chain leads from a list to something where it does so from some member
  pub run_filled : (patterns : List Written) (steps : List Step) → are_inner patterns steps ≡ true → (s : List ℕ) →
      not (is_empty (run (chain_meaning t path steps) s)) ≡ list_any (λ z. leads (chain_meaning t path steps) z) s
  unfolding are_inner
  run_filled patterns [] inner s = filled s
  run_filled patterns (step ∷ steps) inner s =
      let parts = and_parts (is_inner patterns step) (list_all (λ b. b) (map (is_inner patterns) steps)) inner in
      let l = linear_step patterns step parts.0 in
      let P : ℕ → Bool = λ z. leads (chain_meaning t path steps) z in
      let push = (meaning t path step).push in
      run_filled patterns steps parts.1 (push s)
      ∙ same_by_iff (list_any P (push s)) (list_any (λ y. not (is_empty (run (chain_meaning t path steps) (push (y ∷ []))))) s)
      (λ h. let f = any-found P (push s) h in
      let g = any-found (λ y. is_in (push (y ∷ [])) f.0) s (sym (l.linear s f.0) ∙ f.1) in
      any-made (λ y. not (is_empty (run (chain_meaning t path steps) (push (y ∷ []))))) s g.0 g.1
      (run_filled patterns steps parts.1 (push (g.0 ∷ [])) ∙ any-made P (push (g.0 ∷ [])) f.0 g.2 f.2))
      (λ h. let f = any-found (λ y. not (is_empty (run (chain_meaning t path steps) (push (y ∷ []))))) s h in
      let g = any-found P (push (f.0 ∷ [])) (sym (run_filled patterns steps parts.1 (push (f.0 ∷ []))) ∙ f.2) in
      any-made P (push s) g.0 (l.linear s g.0 ∙ any-made (λ y. is_in (push (y ∷ [])) g.0) s f.0 f.1 g.1) g.2)

  run-append : (front : ChainMeaning) (last : StepMeaning) (s : List ℕ) → run (front ++ last ∷ []) s ≡ last.push (run front s)
  run-append [] last s = refl
  run-append (step ∷ steps) last s = run-append steps last (step.push s)

  -- one more step behind others
  pub reached-last : (steps front : List Step) (last : Step) → steps ≡ front ++ last ∷ [] → reached t path steps ≡ (meaning t path last).push (reached t path front)
  unfolding reached
  reached-last steps front last is =
      ap (λ s. run (chain_meaning t path s) (all t)) is
      ∙ ap (λ s. run s (all t)) (map-append (meaning t path) front (last ∷ []))
      ∙ run-append (chain_meaning t path front) (meaning t path last) (all t)

  -- one step before others
  pub leads-first : (patterns : List Written) (steps more : List Step) (first : Step) → steps ≡ first ∷ more → are_inner patterns more ≡ true → (x : ℕ) →
      leads_from t path steps x ≡ list_any (leads_from t path more) ((meaning t path first).push (x ∷ []))
  unfolding leads_from
  leads-first patterns steps more first is inner x =
      ap (λ s. leads (chain_meaning t path s) x) is ∙ run_filled patterns more inner ((meaning t path first).push (x ∷ []))
