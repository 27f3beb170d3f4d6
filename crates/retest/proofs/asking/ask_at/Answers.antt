use Rattle.std.proofs.Common.{◌≡◌, false, ◌≤◌, ℕ, List, ◌&&◌, nat_eq, length, arith, ap, ap₂, sym, subst, ◌∙◌}
use Rattle.std.specs.List.{IsDistinct}
use Rattle.std.proofs.lemmas.Bool.{and_parts}
use Rattle.page_tree.specs.Directions.{is_in}
use Rattle.kept_marks.specs.Kept.{is_marked}
use Rattle.retest_laws.specs.Pending.{due_at}
use Rattle.retest_laws.proofs.Counts.{sole_asking}
use Rattle.retest.specs.Asked.{answers, carried, group_in}
use Rattle.retest.proofs.Visits.{visited, due_members}
use Rattle.retest.proofs.Keys.{active_filter}
use Rattle.retest.proofs.Same.{row_kept}
use Rattle.retest.proofs.asking.ask_at.Goals as goal

pub ask_all-requires-clause-filters : goal.ask_all-requires-clause-filters
ask_all-requires-clause-filters g c = λ f h.
    let asking = c.args.asking.now in
    let pend = λ (f : ℕ). g.W.Pends.pends c.args.pending.now (group_in asking.groups.now f) c.args.x in
    let m = due_members c.in_ok-due.due.keys c.as_slice-2.result.now c.as_slice-2.ensures.keys in
    active_filter asking f c.args.x (and_parts (carried asking f c.args.x) (pend f) (c.in_ok-due.ensures.within f (sym (m f) ∙ h))).0

pub returns-clause-marks : goal.returns-clause-marks
returns-clause-marks g c =
    let asking = c.args.asking.now in
    let pend = λ (f y : ℕ). g.W.Pends.pends c.args.pending.now (group_in asking.groups.now f) y in
    let x = c.args.x in
    let m = due_members c.in_ok-due.due.keys c.as_slice-2.result.now c.as_slice-2.ensures.keys in
    λ h y. visited x y (is_marked c.ask_all.new.marks h) (is_marked c.clear_all.new.marks h) (is_marked c.args.marks.now h) (answers asking h)
    (carried asking h) (λ y. pend h y) (is_in c.as_slice-2.result.now h) (is_in c.as_slice.result.now h)
    (c.in_ok-ask_all.ensures.marks h y) (c.clear_all.ensures h y) (λ e. c.in_ok-due.ensures.within h (sym (m h) ∙ e)) (λ e. m h ∙ c.in_ok-due.ensures.enough h e)
    (ap (λ (l : List ℕ). is_in l h) c.as_slice.ensures ∙ c.in_ok-stale.ensures h ∙ ap (λ (l : List ℕ). is_in l h && pend h x) c.of.ensures.filters)

pub returns-clause-checks : goal.returns-clause-checks
returns-clause-checks g c =
    let asking = c.args.asking.now in
    let pend = λ (f y : ℕ). g.W.Pends.pends c.args.pending.now (group_in asking.groups.now f) y in
    let x = c.args.x in
    let asked = c.as_slice-2.result.now in
    let n = length asking.active.now in
    let m = due_members c.in_ok-due.due.keys asked c.as_slice-2.ensures.keys in
    let less : length asked ≤ due_at n (carried asking) pend x =
    sole_asking n (carried asking) pend x asked (subst (IsDistinct nat_eq) (sym c.as_slice-2.ensures.keys) c.as_slice-2.ensures.unique)
    (λ f h. let parts = and_parts (carried asking f x) (pend f x) (c.in_ok-due.ensures.within f (sym (m f) ∙ h)) in
    (active_filter asking f x parts.0, ap₂ (λ a b. a && b) parts.1 parts.0)) in
    omega (arith, less, c.in_ok-ask_all.ensures.checks)

pub returns-in_err-ask_all-clause-checks : goal.returns-in_err-ask_all-clause-checks
returns-in_err-ask_all-clause-checks g c =
    let asking = c.args.asking.now in
    let pend = λ (f y : ℕ). g.W.Pends.pends c.args.pending.now (group_in asking.groups.now f) y in
    let x = c.args.x in
    let asked = c.as_slice-2.result.now in
    let n = length asking.active.now in
    let m = due_members c.in_ok-due.due.keys asked c.as_slice-2.ensures.keys in
    let less : length asked ≤ due_at n (carried asking) pend x =
    sole_asking n (carried asking) pend x asked (subst (IsDistinct nat_eq) (sym c.as_slice-2.ensures.keys) c.as_slice-2.ensures.unique)
    (λ f h. let parts = and_parts (carried asking f x) (pend f x) (c.in_ok-due.ensures.within f (sym (m f) ∙ h)) in
    (active_filter asking f x parts.0, ap₂ (λ a b. a && b) parts.1 parts.0)) in
    omega (arith, less, c.in_err-ask_all.ensures.checks)

pub returns-clause-same : goal.returns-clause-same
returns-clause-same g c = λ (no : c.differ.result ≡ false).
    let asking = c.args.asking.now in
    let pend = λ (f y : ℕ). g.W.Pends.pends c.args.pending.now (group_in asking.groups.now f) y in
    row_kept c.args.marks.now c.ask_all.new.marks c.args.x pend (λ f y. carried asking f y && answers asking f y)
    (sym (c.as_slice-3.ensures ∙ c.in_ok-before.ensures ∙ c.of-2.ensures.filters) ∙ c.differ.ensures no ∙ c.of-3.ensures.filters)
    (returns-clause-marks g c)
