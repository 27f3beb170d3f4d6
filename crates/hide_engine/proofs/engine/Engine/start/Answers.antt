use Rattle.std.proofs.Common.{◌≤◌, ◌+◌, List, subst}
use Rattle.selector_tree.specs.declared.filter.Filter.{Filter}
use Rattle.retest.specs.Priced.{IsPriced, price}
use Rattle.retest.proofs.Pricing.{tested_within}
use Rattle.hide_engine.specs.Budgets.{start_budget}
use Rattle.hide_engine.proofs.engine.Engine.start.Goals as goal

pub returns-in_err-marks-clause-checks : goal.returns-in_err-marks-clause-checks
returns-in_err-marks-clause-checks g c =
    subst (λ (filters : List Filter). c.ask_everything.new.checks ≤ c.args.checks.now + start_budget (record { page = c.args.page; filters = filters }))
    c.in_ok-filters.ensures.active c.ask_everything.ensures.checks

pub returns-clause-checks : goal.returns-clause-checks
returns-clause-checks g c =
    subst (λ (filters : List Filter). c.ask_everything.new.checks ≤ c.args.checks.now + start_budget (record { page = c.args.page; filters = filters }))
    c.in_ok-filters.ensures.active c.ask_everything.ensures.checks

pub returns-in_err-marks-clause-parts : goal.returns-in_err-marks-clause-parts
returns-in_err-marks-clause-parts g c =
    tested_within (start_budget (record { page = c.args.page; filters = c.args.active }))
    (subst (λ (filters : List Filter). IsPriced (price filters c.args.page.tree) c.args.checks.now c.ask_everything.new.checks c.args.parts.now c.ask_everything.new.parts)
    c.in_ok-filters.ensures.active c.ask_everything.ensures.parts)
    (returns-in_err-marks-clause-checks g c)

pub returns-clause-parts : goal.returns-clause-parts
returns-clause-parts g c =
    tested_within (start_budget (record { page = c.args.page; filters = c.args.active }))
    (subst (λ (filters : List Filter). IsPriced (price filters c.args.page.tree) c.args.checks.now c.ask_everything.new.checks c.args.parts.now c.ask_everything.new.parts)
    c.in_ok-filters.ensures.active c.ask_everything.ensures.parts)
    (returns-clause-checks g c)
