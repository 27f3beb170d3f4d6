-- Steps that look at what is below lead to nothing from all below an element from which they lead to nothing.
use Rattle.std.proofs.Common.{◌≡◌, ◌==◌, ◌&&◌, ◌++◌, ◌⊎◌, ℕ, length, true, false, inl, inr, List, [], ◌∷◌, All, refl, sym, ap, ◌∙◌}
use Rattle.std.specs.List.{list_any, list_all}
use Rattle.std.proofs.lemmas.Bool.{eqb-true, or_cases, or_left, or_right, and_from, and_parts, both_ways, false_from_ne_true}
use Rattle.std.proofs.lemmas.List.Elements.{All-head, All-tail}
use Rattle.cos_patterns.specs.declared.written.Written.{Written}
use Rattle.page_tree.specs.Forest.{Tree}
use Rattle.page_tree.specs.Standings.{all, above}
use Rattle.page_tree.specs.Directions.{is_in}
use Rattle.page_tree.specs.Trees.{IsTree}
use Rattle.page_tree.proofs.Around.{above-parent}
use Rattle.selector_tree.specs.declared.selector.Place.TheVariants.{Descendant}
use Rattle.selector_tree.specs.declared.selector.Step.{Step, out-Step}
use Rattle.selector_tree.specs.declared.selector.Step.TheOpen.{Step-F}
use Rattle.selector_tree.specs.declared.selector.Test.{Test}
use Rattle.selector_tree.specs.declared.selector.Step.TheVariants as step
use Rattle.selector_tree.specs.declared.selector.Test.TheVariants as test
use Rattle.selector_meaning.specs.Texts.{Bytes}
use Rattle.selector_meaning.specs.Meaning.{is_there}
use Rattle.selector_match.specs.Asked.{IsElement}
use Rattle.proper_filters.specs.Proper.{is_inner, are_inner, is_inner_selector}
use Rattle.procedural_ops.specs.Reaching.{leads_from, some_leads}
use Rattle.selector_match.specs.Walks.{targets}
use Rattle.procedural_ops.specs.Blocked.{Blocks, BeginsBelow, KeepsBelow, LooksBelow}
use Rattle.procedural_ops.specs.Count.{asks, asks_at, is_plain_step, is_plain_step_at}
use Rattle.procedural_ops.specs.Runs.{is_keep, keeps, single_keeps}
use Rattle.procedural_ops.proofs.Keeping.{leads_run, keeps_is}
use Rattle.procedural_ops.proofs.Simple.{plain_run}
use Rattle.procedural_ops.proofs.Any.{any-found, any-made}
use Rattle.procedural_ops.proofs.Duals.{is_in-targets}
use Rattle.procedural_ops.proofs.Steps as steps
use Rattle.procedural_ops.proofs.Weights as weights

module _ (t : Tree) (tree : IsTree t) where
  -- what is above an element that is above y is above y
  higher : (w f : ℕ) (l : List ℕ) (y : ℕ) → is_in (all t) y ≡ true → above t y ≡ l → is_in l w ≡ true → is_in (above t w) f ≡ true → is_in l f ≡ true
  higher w f [] y el e h g = absurd (both_ways false refl h)
  higher w f (p ∷ l) y el e h g =
      let r = above-parent t tree y el in
      elim r.2 [
        | inl top ↦ absurd (let no : [] ≡ p ∷ l = sym top.1 ∙ e in cc)
        | inr low ↦ (
            let both : p ∷ l ≡ r.0 ∷ above t r.0 = sym e ∙ low.2 in
            let first : p ≡ r.0 = cc (both) in
            let others : l ≡ above t r.0 = cc (both) in
            elim (or_cases (p == w) (is_in l w) h) [
              | inl q ↦ or_right (p == f) (is_in l f) (ap (λ (m : List ℕ). is_in m f) (others ∙ ap (above t) (sym first ∙ eqb-true p w q)) ∙ g)
              | inr q ↦ or_right (p == f) (is_in l f) (higher w f l r.0 low.1 (sym others) q g)
            ]
            )
      ]

  module _ (path : Bytes) (patterns : List Written) where
    -- where f is above w, what is below w is below f
    down_chain : (chain : List Step) → BeginsBelow chain → are_inner patterns chain ≡ true → (f w : ℕ) → IsElement t f → IsElement t w → is_in (above t w) f ≡ true
        → leads_from t path chain w ≡ true → leads_from t path chain f ≡ true
    down_chain chain begins inner f w f_is w_is up h =
        let p = leads_from t path begins.0 in
        let rest = (weights.inner_first patterns chain begins.0 (step.Move Descendant) begins.1 inner).1 in
        let at_w = steps.leads_moved t path tree patterns chain begins.0 (step.Move Descendant) w begins.1 rest w_is Descendant refl in
        let at_f = steps.leads_moved t path tree patterns chain begins.0 (step.Move Descendant) f begins.1 rest f_is Descendant refl in
        let found = any-found p (targets t Descendant w) (sym at_w ∙ h) in
        let there = and_parts (is_in (all t) found.0) (is_there t Descendant w found.0) (sym (is_in-targets t tree Descendant w found.0 w_is) ∙ found.1) in
        let further : is_in (above t found.0) f ≡ true = higher w f (above t found.0) found.0 there.0 refl there.1 up in
        at_f ∙ any-made p (targets t Descendant f) found.0
        (is_in-targets t tree Descendant f found.0 f_is ∙ and_from (is_in (all t) found.0) (is_there t Descendant f found.0) there.0 further) found.2

    down_some : (l : List (List Step)) → All BeginsBelow l → is_inner_selector patterns l ≡ true → (f w : ℕ) → IsElement t f → IsElement t w → is_in (above t w) f ≡ true
        → list_any (λ c. leads_from t path c w) l ≡ true → list_any (λ c. leads_from t path c f) l ≡ true
    unfolding is_inner_selector are_inner
    down_some [] begins inner f w f_is w_is up h = h
    down_some (c ∷ l) begins inner f w f_is w_is up h =
        let parts = and_parts (are_inner patterns c) (is_inner_selector patterns l) inner in
        elim (or_cases (leads_from t path c w) (list_any (λ d. leads_from t path d w) l) h) [
          | inl q ↦ or_left (leads_from t path c f) (list_any (λ d. leads_from t path d f) l) (down_chain c (All-head BeginsBelow c l begins) parts.0 f w f_is w_is up q)
          | inr q ↦ or_right (leads_from t path c f) (list_any (λ d. leads_from t path d f) l) (down_some l (All-tail BeginsBelow c l begins) parts.1 f w f_is w_is up q)
        ]

    down_selector : (l : List (List Step)) → All BeginsBelow l → is_inner_selector patterns l ≡ true → (f w : ℕ) → IsElement t f → IsElement t w → is_in (above t w) f ≡ true
        → some_leads t path l w ≡ true → some_leads t path l f ≡ true
    unfolding some_leads
    down_selector l begins inner f w f_is w_is up h = down_some l begins inner f w f_is w_is up h

    asks_plain : (s : Step) → asks s ≡ true → is_plain_step s ≡ true
    asks_plain s h = by (out-Step s) h
      where
        by : (o : Step-F Step Test) → asks_at o ≡ true → is_plain_step_at o ≡ true
        by (Step-F.Keep q) e = e
        by (Step-F.Move place) e = absurd (both_ways false refl e)
        by (Step-F.Upward n) e = absurd (both_ways false refl e)
        by (Step-F.UpwardTo l) e = absurd (both_ways false refl e)
        by Step-F.Others e = absurd (both_ways false refl e)

    -- a step of the run that keeps w keeps f
    keep_up : (s : Step) → KeepsBelow s → is_inner patterns s ≡ true → (f w : ℕ) → IsElement t f → IsElement t w → is_in (above t w) f ≡ true
        → single_keeps t path f s ≡ true → keeps t path w s ≡ true → keeps t path f s ≡ true
    keep_up s (inl plain) inner f w f_is w_is up single h =
        let one : list_all is_plain_step (s ∷ []) ≡ true = and_from (is_plain_step s) true (asks_plain s plain) refl in
        (and_parts (keeps t path f s) true (sym (plain_run t path f (s ∷ []) one) ∙ and_from (single_keeps t path f s) true single refl)).0
    keep_up s (inr below) inner f w f_is w_is up single h =
        let q = below.0 in
        let l = below.2.0 in
        let keep : s ≡ step.Keep q = below.1 in
        let has : q ≡ test.Has l = below.2.1 in
        let nested = weights.in_Has patterns q l l has refl (weights.in_Keep patterns s q keep inner).1 in
        sym (keeps_is t path f s q keep) ∙ steps.has_is t path q l f has
        ∙ down_selector l below.2.2 nested.1 f w f_is w_is up (sym (steps.has_is t path q l w has) ∙ keeps_is t path w s q keep ∙ h)

    keeps_up : (run : List Step) → All KeepsBelow run → are_inner patterns run ≡ true → (f w : ℕ) → IsElement t f → IsElement t w → is_in (above t w) f ≡ true
        → list_all (single_keeps t path f) run ≡ true → list_all (keeps t path w) run ≡ true → list_all (keeps t path f) run ≡ true
    keeps_up [] below inner f w f_is w_is up singles h = refl
    keeps_up (s ∷ run) below inner f w f_is w_is up singles h =
        let i = weights.inner_first patterns (s ∷ run) run s refl inner in
        let p = and_parts (single_keeps t path f s) (list_all (single_keeps t path f) run) singles in
        let k = and_parts (keeps t path w s) (list_all (keeps t path w) run) h in
        and_from (keeps t path f s) (list_all (keeps t path f) run) (keep_up s (All-head KeepsBelow s run below) i.0 f w f_is w_is up p.0 k.0)
        (keeps_up run (All-tail KeepsBelow s run below) i.1 f w f_is w_is up p.1 k.1)

    rest_up : (rest : List Step) → (rest ≡ []) ⊎ BeginsBelow rest → are_inner patterns rest ≡ true → (f w : ℕ) → IsElement t f → IsElement t w → is_in (above t w) f ≡ true
        → leads_from t path rest w ≡ true → leads_from t path rest f ≡ true
    rest_up rest (inl none) inner f w f_is w_is up h = sym (steps.leads_none t path rest f (ap (λ (l : List Step). length l) none))
    rest_up rest (inr begins) inner f w f_is w_is up h = down_chain rest begins inner f w f_is w_is up h

    -- where the tests of the run hold for f, and the steps lead to nothing from it, they lead to nothing from what is below
    pub blocked : (s run rest : List Step) → s ≡ run ++ rest → are_inner patterns s ≡ true → list_all is_keep run ≡ true → LooksBelow run rest → (f : ℕ) → IsElement t f
        → list_all (single_keeps t path f) run ≡ true → leads_from t path s f ≡ false → Blocks t path s f
    blocked s run rest is inner kept looks f f_is singles fails w w_is up =
        let whole : are_inner patterns (run ++ rest) ≡ true = sym (ap (are_inner patterns) is) ∙ inner in
        let i = and_parts (are_inner patterns run) (are_inner patterns rest) (sym (weights.inner-append patterns run rest) ∙ whole) in
        let split : (x : ℕ) → IsElement t x → leads_from t path s x ≡ (list_all (keeps t path x) run && leads_from t path rest x) =
        λ x x_is. ap (λ (l : List Step). leads_from t path l x) is ∙ leads_run t path tree patterns run rest x kept whole x_is in
        false_from_ne_true (leads_from t path s w) (λ h.
        let p = and_parts (list_all (keeps t path w) run) (leads_from t path rest w) (sym (split w w_is) ∙ h) in
        let run_f = keeps_up run looks.0 i.0 f w f_is w_is up singles p.0 in
        let rest_f = rest_up rest looks.1 i.1 f w f_is w_is up p.1 in
        both_ways false refl (sym fails ∙ split f f_is ∙ and_from (list_all (keeps t path f) run) (leads_from t path rest f) run_f rest_f))
