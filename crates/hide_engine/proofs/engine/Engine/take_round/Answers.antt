use Rattle.std.proofs.Common.{◌≤◌, ◌+◌, ap, subst, ◌∙◌}
use Rattle.cos_patterns.specs.Found.{pattern_found}
use Rattle.engine_meaning.specs.States.{State, rounded, round_of}
use Rattle.hide_engine.specs.Budgets.{round_budget, round_tests}
use Rattle.hide_engine.proofs.engine.Engine.take_round.Goals as goal

pub returns-clause-engine : goal.returns-clause-engine
returns-clause-engine g c = c.in_ok-rows.ensures.page ∙ ap (rounded pattern_found) c.self.view_is

pub returns-clause-taken : goal.returns-clause-taken
returns-clause-taken g c = c.in_ok-rows.ensures.rows ∙ ap (round_of pattern_found) c.self.view_is

pub returns-clause-quiet : goal.returns-clause-quiet
returns-clause-quiet g c none = c.take_round.ensures.quiet (ap (round_of pattern_found) c.self.view_is ∙ none)

pub returns-clause-checks : goal.returns-clause-checks
returns-clause-checks g c =
    subst (λ (s : State). c.take_round.new.checks ≤ c.args.checks.now + round_budget s) c.self.view_is c.take_round.ensures.checks

pub returns-in_err-rows-clause-quiet : goal.returns-in_err-rows-clause-quiet
returns-in_err-rows-clause-quiet g c none = c.take_round.ensures.quiet (ap (round_of pattern_found) c.self.view_is ∙ none)

pub returns-in_err-rows-clause-checks : goal.returns-in_err-rows-clause-checks
returns-in_err-rows-clause-checks g c =
    subst (λ (s : State). c.take_round.new.checks ≤ c.args.checks.now + round_budget s) c.self.view_is c.take_round.ensures.checks

pub returns-clause-parts : goal.returns-clause-parts
returns-clause-parts g c =
    subst (λ (s : State). c.take_round.new.parts ≤ c.args.parts.now + round_tests s) c.self.view_is c.take_round.ensures.parts

pub returns-in_err-rows-clause-parts : goal.returns-in_err-rows-clause-parts
returns-in_err-rows-clause-parts g c =
    subst (λ (s : State). c.take_round.new.parts ≤ c.args.parts.now + round_tests s) c.self.view_is c.take_round.ensures.parts
