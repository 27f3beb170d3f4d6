use Rattle.std.proofs.Common.{◌≤◌, ◌+◌, false, map, subst}
use Rattle.mutation_script.specs.declared.page.PageState.{PageState}
use Rattle.retest.specs.Asked.{group_in}
use Rattle.retest.specs.Priced.{IsPriced, price}
use Rattle.retest.proofs.Pricing.{none_asked}
use Rattle.engine_meaning.specs.Rounds.{without_each}
use Rattle.hide_engine.specs.Changes.{dirtied_without}
use Rattle.hide_engine.specs.Ready.{state_of}
use Rattle.hide_engine.proofs.Counting.{event_asks}
use Rattle.hide_engine.proofs.Following.{rested}
use Rattle.hide_engine.proofs.renewing.take.Goals as goal

pub take_out_all-requires-clause-right : goal.take_out_all-requires-clause-right
take_out_all-requires-clause-right g c = rested c.args.page.now c.args.filters.now c.args.marks.now c.new-pending.result c.requires.exact

pub returns-clause-checks : goal.returns-clause-checks
returns-clause-checks g c =
    let page = c.args.page.now in
    let filters = c.args.filters.now in
    let nodes = map (λ row. row.node) c.args.rows.now in
    subst (λ k. c.ask_again.new.checks ≤ c.args.checks.now + k)
    (event_asks c.take_out_all.new.page (record page { tree = without_each page.tree nodes }) filters c.take_out_all.new.pending (dirtied_without nodes (state_of page filters)) c.in_ok-take_out_all.ensures.page
    (c.in_ok-take_out_all.ensures.given (λ f x. false) (λ f x lt. c.new-pending.ensures (group_in filters.groups.numbers f) x)))
    c.ask_again.ensures.checks

pub returns-in_err-ask_again-clause-checks : goal.returns-in_err-ask_again-clause-checks
returns-in_err-ask_again-clause-checks g c =
    let page = c.args.page.now in
    let filters = c.args.filters.now in
    let nodes = map (λ row. row.node) c.args.rows.now in
    subst (λ k. c.ask_again.new.checks ≤ c.args.checks.now + k)
    (event_asks c.take_out_all.new.page (record page { tree = without_each page.tree nodes }) filters c.take_out_all.new.pending (dirtied_without nodes (state_of page filters)) c.in_ok-take_out_all.ensures.page
    (c.in_ok-take_out_all.ensures.given (λ f x. false) (λ f x lt. c.new-pending.ensures (group_in filters.groups.numbers f) x)))
    c.ask_again.ensures.checks

pub returns-clause-parts : goal.returns-clause-parts
returns-clause-parts g c =
    subst (λ (p : PageState). IsPriced (price c.args.filters.now.active p.tree) c.args.checks.now c.ask_again.new.checks c.args.parts.now c.ask_again.new.parts)
    c.in_ok-take_out_all.ensures.page c.ask_again.ensures.parts

pub returns-in_err-take_out_all-clause-parts : goal.returns-in_err-take_out_all-clause-parts
returns-in_err-take_out_all-clause-parts g c =
    none_asked (price c.args.filters.now.active (without_each c.args.page.now.tree (map (λ row. row.node) c.args.rows.now))) c.args.checks.now c.args.parts.now
