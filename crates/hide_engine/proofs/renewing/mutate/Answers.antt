use Rattle.std.proofs.Common.{◌≡◌, ◌≤◌, ◌+◌, ℕ, Bool, List, true, false, not, refl, sym, subst, ◌∙◌}
use Rattle.std.proofs.lemmas.Bool.{and_parts}
use Rattle.mutation_script.specs.declared.page.PageState.{PageState}
use Rattle.mutation_script.specs.Changes.{change, changed}
use Rattle.retest.specs.Asked.{group_in}
use Rattle.retest.specs.Priced.{IsPriced, price}
use Rattle.retest.proofs.Pricing.{tested_within}
use Rattle.hide_engine.specs.Budgets.{event_budget}
use Rattle.hide_engine.specs.Changes.{dirtied_by}
use Rattle.hide_engine.specs.Exact.{AreExact}
use Rattle.hide_engine.specs.Ready.{state_of}
use Rattle.hide_engine.proofs.Counting.{event_asks}
use Rattle.hide_engine.proofs.Events.{unchanged, errs, is_made, not_refused}
use Rattle.hide_engine.proofs.Following.{rested}
use Rattle.hide_engine.proofs.Same.{none_hidden, same_hidden}
use Rattle.hide_engine.proofs.renewing.mutate.Goals as goal

pub make-requires-clause-right : goal.make-requires-clause-right
make-requires-clause-right g c = rested c.args.page.now c.args.filters.now c.args.marks.now c.new-pending.result c.requires.exact

pub returns-in-Refused-clause-exact : goal.returns-in-Refused-clause-exact
returns-in-Refused-clause-exact g c =
    let page = c.args.page.now in
    let filters = c.args.filters.now in
    let outcome = c.in_ok-error.ensures.outcome in
    subst (λ (p : PageState). AreExact (state_of p filters) c.make.new.marks)
    (sym (c.in_ok-error.ensures.page ∙ unchanged page (change c.args.mutation page) c.in_ok-error.field-0 c.in-Refused.error outcome c.in-Refused.is))
    (subst (λ (rows : List (ℕ × List ℕ)). AreExact (state_of page filters) rows)
    (sym (c.in_ok-error.ensures.refused (errs (change c.args.mutation page) c.in_ok-error.field-0 c.in-Refused.error outcome c.in-Refused.is))) c.requires.exact)

pub returns-in-Refused-clause-same : goal.returns-in-Refused-clause-same
returns-in-Refused-clause-same g c = λ same.
    none_hidden c.args.page.now c.make.new.page c.args.filters.now
    (c.in_ok-error.ensures.page ∙ unchanged c.args.page.now (change c.args.mutation c.args.page.now) c.in_ok-error.field-0 c.in-Refused.error c.in_ok-error.ensures.outcome c.in-Refused.is)

pub returns-clause-same : goal.returns-clause-same
returns-clause-same g c = λ same.
    let page = c.args.page.now in
    let parts = and_parts c.keeps_elements-keeps.result (not c.in_ok-changed-in-Done.changed) (sym c.are_same.ensures ∙ same) in
    same_hidden page c.make.new.page c.args.filters.now c.args.mutation c.args.marks.now c.make.new.marks c.ask_again.new.marks c.is_tree.ensures c.is_tree-in-Done.ensures
    c.in_ok-error.ensures.page (is_made (change c.args.mutation page) c.in_ok-error.field-0 c.in_ok-error.ensures.outcome c.in-Done.is)
    (sym c.keeps_elements-keeps.ensures ∙ parts.0) c.requires.exact c.in_ok-changed-in-Done.ensures.exact
    (c.in_ok-error.ensures.kept (sym c.keeps_elements-keeps.ensures ∙ parts.0)) (c.in_ok-changed-in-Done.ensures.same (no_more c.in_ok-changed-in-Done.changed parts.1))
  where
    no_more : (b : Bool) → not b ≡ true → b ≡ false
    no_more true h = sym h
    no_more false h = refl

pub returns-in-Refused-clause-outcome : goal.returns-in-Refused-clause-outcome
returns-in-Refused-clause-outcome g c = sym c.in-Refused.is ∙ c.in_ok-error.ensures.outcome

pub returns-clause-outcome : goal.returns-clause-outcome
returns-clause-outcome g c = sym c.in-Done.is ∙ c.in_ok-error.ensures.outcome

pub returns-in_err-changed-in-Done-clause-refused : goal.returns-in_err-changed-in-Done-clause-refused
returns-in_err-changed-in-Done-clause-refused g c refused =
    absurd (not_refused (change c.args.mutation c.args.page.now) c.in_ok-error.field-0 c.in_ok-error.ensures.outcome c.in-Done.is refused)

pub returns-clause-refused : goal.returns-clause-refused
returns-clause-refused g c refused =
    absurd (not_refused (change c.args.mutation c.args.page.now) c.in_ok-error.field-0 c.in_ok-error.ensures.outcome c.in-Done.is refused)

pub returns-clause-checks : goal.returns-clause-checks
returns-clause-checks g c =
    let page = c.args.page.now in
    let filters = c.args.filters.now in
    subst (λ k. c.ask_again.new.checks ≤ c.args.checks.now + k)
    (event_asks c.make.new.page (changed c.args.mutation page) filters c.make.new.pending (dirtied_by c.args.mutation (state_of page filters)) c.in_ok-error.ensures.page
    (c.in_ok-error.ensures.given (λ f x. false) (λ f x lt. c.new-pending.ensures (group_in filters.groups.numbers f) x)))
    c.ask_again.ensures.checks

pub returns-in_err-changed-in-Done-clause-checks : goal.returns-in_err-changed-in-Done-clause-checks
returns-in_err-changed-in-Done-clause-checks g c =
    let page = c.args.page.now in
    let filters = c.args.filters.now in
    subst (λ k. c.ask_again.new.checks ≤ c.args.checks.now + k)
    (event_asks c.make.new.page (changed c.args.mutation page) filters c.make.new.pending (dirtied_by c.args.mutation (state_of page filters)) c.in_ok-error.ensures.page
    (c.in_ok-error.ensures.given (λ f x. false) (λ f x lt. c.new-pending.ensures (group_in filters.groups.numbers f) x)))
    c.ask_again.ensures.checks

pub returns-clause-parts : goal.returns-clause-parts
returns-clause-parts g c =
    let page = c.args.page.now in
    let filters = c.args.filters.now in
    tested_within (event_budget c.args.mutation (state_of page filters))
    (subst (λ (p : PageState). IsPriced (price filters.active p.tree) c.args.checks.now c.ask_again.new.checks c.args.parts.now c.ask_again.new.parts)
    c.in_ok-error.ensures.page c.ask_again.ensures.parts)
    (returns-clause-checks g c)

pub returns-in_err-changed-in-Done-clause-parts : goal.returns-in_err-changed-in-Done-clause-parts
returns-in_err-changed-in-Done-clause-parts g c =
    let page = c.args.page.now in
    let filters = c.args.filters.now in
    tested_within (event_budget c.args.mutation (state_of page filters))
    (subst (λ (p : PageState). IsPriced (price filters.active p.tree) c.args.checks.now c.ask_again.new.checks c.args.parts.now c.ask_again.new.parts)
    c.in_ok-error.ensures.page c.ask_again.ensures.parts)
    (returns-in_err-changed-in-Done-clause-checks g c)

pub returns-clause-rises : goal.returns-clause-rises
returns-clause-rises g c = c.ask_again.ensures.parts.rises

pub returns-in_err-changed-in-Done-clause-rises : goal.returns-in_err-changed-in-Done-clause-rises
returns-in_err-changed-in-Done-clause-rises g c = c.ask_again.ensures.parts.rises
