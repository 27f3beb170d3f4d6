use Rattle.std.proofs.Common.{◌≤◌, ◌+◌, List, length, map, refl, ap, sym, subst, ◌∙◌}
use Rattle.selector_tree.specs.declared.filter.Taken.{Taken}
use Rattle.engine_meaning.specs.Rounds.{without_each}
use Rattle.engine_meaning.specs.States.{State}
use Rattle.retest.specs.Priced.{IsPriced, price}
use Rattle.retest.proofs.Pricing.{tested_within}
use Rattle.hide_engine.specs.Budgets.{round_budget}
use Rattle.hide_engine.specs.Ready.{state_of}
use Rattle.hide_engine.proofs.Events.{behind_round, no_round, round_asks}
use Rattle.hide_engine.proofs.renewing.take_round.Goals as goal

pub returns-then-len-eq0-clause-page : goal.returns-then-len-eq0-clause-page
returns-then-len-eq0-clause-page g c =
    no_round c.args.page.now c.args.filters.now c.is_tree.ensures c.in_ok-rows.rows c.in_ok-rows.ensures (sym c.len.ensures ∙ c.if-len-eq0.true)

pub returns-clause-page : goal.returns-clause-page
returns-clause-page g c =
    behind_round c.args.page.now c.args.filters.now c.is_tree.ensures c.as_slice.result.now (c.as_slice.ensures ∙ c.in_ok-rows.ensures) c.take.new.page c.in_ok-take.ensures.page

pub returns-clause-quiet : goal.returns-clause-quiet
returns-clause-quiet g c none = absurd (c.if-len-eq0.false (c.len.ensures ∙ ap (λ (l : List Taken). length l) (c.in_ok-rows.ensures ∙ none)))

pub returns-in_err-take-clause-quiet : goal.returns-in_err-take-clause-quiet
returns-in_err-take-clause-quiet g c none = absurd (c.if-len-eq0.false (c.len.ensures ∙ ap (λ (l : List Taken). length l) (c.in_ok-rows.ensures ∙ none)))

pub returns-clause-checks : goal.returns-clause-checks
returns-clause-checks g c =
    subst (λ k. c.take.new.checks ≤ c.args.checks.now + k)
    (round_asks c.args.page.now c.args.filters.now c.is_tree.ensures c.as_slice.result.now (c.as_slice.ensures ∙ c.in_ok-rows.ensures)) c.take.ensures.checks

pub returns-in_err-take-clause-checks : goal.returns-in_err-take-clause-checks
returns-in_err-take-clause-checks g c =
    subst (λ k. c.take.new.checks ≤ c.args.checks.now + k)
    (round_asks c.args.page.now c.args.filters.now c.is_tree.ensures c.as_slice.result.now (c.as_slice.ensures ∙ c.in_ok-rows.ensures)) c.take.ensures.checks

pub returns-clause-parts : goal.returns-clause-parts
returns-clause-parts g c =
    let page = c.args.page.now in
    let filters = c.args.filters.now in
    let rows = c.as_slice.result.now in
    tested_within (round_budget (state_of page filters))
    (subst (λ (s : State). IsPriced (price filters.active s.page.tree) c.args.checks.now c.take.new.checks c.args.parts.now c.take.new.parts)
    (behind_round page filters c.is_tree.ensures rows (c.as_slice.ensures ∙ c.in_ok-rows.ensures) (record page { tree = without_each page.tree (map (λ row. row.node) rows) }) refl)
    c.take.ensures.parts)
    (returns-clause-checks g c)

pub returns-in_err-take-clause-parts : goal.returns-in_err-take-clause-parts
returns-in_err-take-clause-parts g c =
    let page = c.args.page.now in
    let filters = c.args.filters.now in
    let rows = c.as_slice.result.now in
    tested_within (round_budget (state_of page filters))
    (subst (λ (s : State). IsPriced (price filters.active s.page.tree) c.args.checks.now c.take.new.checks c.args.parts.now c.take.new.parts)
    (behind_round page filters c.is_tree.ensures rows (c.as_slice.ensures ∙ c.in_ok-rows.ensures) (record page { tree = without_each page.tree (map (λ row. row.node) rows) }) refl)
    c.take.ensures.parts)
    (returns-in_err-take-clause-checks g c)
