use Rattle.std.proofs.Common.{◌≤◌, ◌+◌, IsErr, ap, sym, subst, ◌∙◌}
use Rattle.cos_patterns.specs.Found.{pattern_found}
use Rattle.mutation_script.specs.declared.page.PageState.{PageState}
use Rattle.mutation_script.specs.Changes.{change}
use Rattle.engine_meaning.specs.States.{State, hidden_of, mutated}
use Rattle.hide_engine.specs.Budgets.{event_budget, event_tests}
use Rattle.hide_engine.specs.Ready.{state_of}
use Rattle.hide_engine.proofs.Unseen.{unasked}
use Rattle.hide_engine.proofs.engine.Engine.apply.Goals as goal

pub returns-clause-refused : goal.returns-clause-refused
returns-clause-refused g c refused = c.mutate.ensures.refused (subst (λ (s : State). IsErr (change c.args.mutation s.page)) (sym c.self.view_is) refused)

pub returns-clause-checks : goal.returns-clause-checks
returns-clause-checks g c =
    subst (λ (s : State). c.mutate.new.checks ≤ c.args.checks.now + event_budget c.args.mutation s) c.self.view_is c.mutate.ensures.checks

pub returns-in_err-outcome-clause-refused : goal.returns-in_err-outcome-clause-refused
returns-in_err-outcome-clause-refused g c refused = c.mutate.ensures.refused (subst (λ (s : State). IsErr (change c.args.mutation s.page)) (sym c.self.view_is) refused)

pub returns-in_err-outcome-clause-checks : goal.returns-in_err-outcome-clause-checks
returns-in_err-outcome-clause-checks g c =
    subst (λ (s : State). c.mutate.new.checks ≤ c.args.checks.now + event_budget c.args.mutation s) c.self.view_is c.mutate.ensures.checks

pub returns-clause-unseen : goal.returns-clause-unseen
returns-clause-unseen g c unseen = unasked c.args.mutation c.args.self c.args.checks.now c.mutate.new.checks unseen c.mutate.ensures.rises (returns-clause-checks g c)

pub returns-in_err-outcome-clause-unseen : goal.returns-in_err-outcome-clause-unseen
returns-in_err-outcome-clause-unseen g c unseen =
    unasked c.args.mutation c.args.self c.args.checks.now c.mutate.new.checks unseen c.mutate.ensures.rises (returns-in_err-outcome-clause-checks g c)

pub returns-clause-parts : goal.returns-clause-parts
returns-clause-parts g c =
    subst (λ (s : State). c.mutate.new.parts ≤ c.args.parts.now + event_tests c.args.mutation s) c.self.view_is c.mutate.ensures.parts

pub returns-in_err-outcome-clause-parts : goal.returns-in_err-outcome-clause-parts
returns-in_err-outcome-clause-parts g c =
    subst (λ (s : State). c.mutate.new.parts ≤ c.args.parts.now + event_tests c.args.mutation s) c.self.view_is c.mutate.ensures.parts

pub returns-clause-same : goal.returns-clause-same
returns-clause-same g c same =
    ap (hidden_of pattern_found)
    (sym (ap (λ (p : PageState). state_of p c.self.inside.filters) c.in_ok-outcome.ensures.page ∙ ap (mutated c.args.mutation) c.self.view_is))
    ∙ c.in_ok-outcome.ensures.same same
    ∙ ap (hidden_of pattern_found) c.self.view_is
