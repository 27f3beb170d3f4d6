use Rattle.std.proofs.Common.{◌∙◌, ap, arith, sym}
use Rattle.cos_patterns.specs.Found.{pattern_found}
use Rattle.mutation_script.specs.Changes.{answer_by, change}
use Rattle.engine_meaning.specs.States.{hidden_of}
use Rattle.command_meaning.specs.Report.{Step}
use Rattle.page_steps.specs.declared.follow.Followed.{Followed}
use Rattle.page_steps.proofs.Following.{made, refused, refused_same}
use Rattle.page_steps.proofs.Spending.{questions_made, questions_within, singles_made, singles_within}
use Rattle.page_steps.proofs.follow.follow_mutation.Goals as goal

pub returns-in_ok-engine-in-Done-clause-answer : goal.returns-in_ok-engine-in-Done-clause-answer
returns-in_ok-engine-in-Done-clause-answer g c = ap answer_by (sym c.in-Done.is ∙ c.in_ok-changed.ensures.outcome)

pub returns-in_ok-engine-in-Done-clause-engine : goal.returns-in_ok-engine-in-Done-clause-engine
returns-in_ok-engine-in-Done-clause-engine g c =
    c.in_ok-engine-in-Done.ensures.engine
    ∙ ap (λ (step : Step). step.state)
    (made (change c.args.mutation c.args.engine.page) c.args.engine c.in_ok-changed.field-0.engine c.in_ok-changed.field-0.outcome c.in_ok-changed.ensures.outcome c.in-Done.is c.in_ok-changed.ensures.engine)

pub returns-in_ok-engine-in-Done-clause-taken : goal.returns-in_ok-engine-in-Done-clause-taken
returns-in_ok-engine-in-Done-clause-taken g c =
    c.in_ok-engine-in-Done.ensures.taken
    ∙ ap (λ (step : Step). step.taken)
    (made (change c.args.mutation c.args.engine.page) c.args.engine c.in_ok-changed.field-0.engine c.in_ok-changed.field-0.outcome c.in_ok-changed.ensures.outcome c.in-Done.is c.in_ok-changed.ensures.engine)

pub returns-in-Refused-clause-engine : goal.returns-in-Refused-clause-engine
returns-in-Refused-clause-engine g c =
    ap (λ (followed : Followed). followed.engine) c.unchanged.ensures
    ∙ ap (λ (step : Step). step.state)
    (refused (change c.args.mutation c.args.engine.page) c.args.engine c.in_ok-changed.field-0.engine c.in_ok-changed.field-0.outcome c.in-Refused.error c.in_ok-changed.ensures.outcome c.in-Refused.is c.in_ok-changed.ensures.engine)

pub returns-in-Refused-clause-taken : goal.returns-in-Refused-clause-taken
returns-in-Refused-clause-taken g c =
    ap (λ (followed : Followed). followed.taken) c.unchanged.ensures
    ∙ ap (λ (step : Step). step.taken)
    (refused (change c.args.mutation c.args.engine.page) c.args.engine c.in_ok-changed.field-0.engine c.in_ok-changed.field-0.outcome c.in-Refused.error c.in_ok-changed.ensures.outcome c.in-Refused.is c.in_ok-changed.ensures.engine)

pub returns-in_ok-engine-in-Done-clause-same : goal.returns-in_ok-engine-in-Done-clause-same
returns-in_ok-engine-in-Done-clause-same g c = λ same.
    ap (hidden_of pattern_found) (c.in_ok-engine-in-Done.ensures.same (c.still_same-same.ensures.rounds same) ∙ c.in_ok-changed.ensures.engine)
    ∙ c.in_ok-changed.ensures.same (c.still_same-same.ensures.changed same)

pub returns-in-Refused-clause-same : goal.returns-in-Refused-clause-same
returns-in-Refused-clause-same g c = λ same.
    ap (λ (followed : Followed). hidden_of pattern_found followed.engine) c.unchanged.ensures
    ∙ ap (hidden_of pattern_found)
    (refused_same (change c.args.mutation c.args.engine.page) c.args.engine c.in_ok-changed.field-0.engine c.in_ok-changed.field-0.outcome c.in-Refused.error c.in_ok-changed.ensures.outcome c.in-Refused.is c.in_ok-changed.ensures.engine)

pub returns-in_err-changed-clause-checks : goal.returns-in_err-changed-clause-checks
returns-in_err-changed-clause-checks g c = omega (arith, questions_within c.args.mutation c.args.engine, c.in_err-changed.ensures.checks)

pub returns-in_err-engine-in-Done-clause-checks : goal.returns-in_err-engine-in-Done-clause-checks
returns-in_err-engine-in-Done-clause-checks g c =
    let made = questions_made c.args.mutation c.args.engine c.in_ok-changed.field-0.engine c.in_ok-changed.field-0.outcome c.in_ok-changed.ensures.outcome c.in-Done.is c.in_ok-changed.ensures.engine in
    omega (arith, made, c.in_ok-changed.ensures.checks, c.in_err-engine-in-Done.ensures.checks)

pub returns-in_ok-engine-in-Done-clause-checks : goal.returns-in_ok-engine-in-Done-clause-checks
returns-in_ok-engine-in-Done-clause-checks g c =
    let made = questions_made c.args.mutation c.args.engine c.in_ok-changed.field-0.engine c.in_ok-changed.field-0.outcome c.in_ok-changed.ensures.outcome c.in-Done.is c.in_ok-changed.ensures.engine in
    omega (arith, made, c.in_ok-changed.ensures.checks, c.in_ok-engine-in-Done.ensures.checks)

pub returns-in-Refused-clause-checks : goal.returns-in-Refused-clause-checks
returns-in-Refused-clause-checks g c = omega (arith, questions_within c.args.mutation c.args.engine, c.in_ok-changed.ensures.checks)

pub returns-in_err-changed-clause-parts : goal.returns-in_err-changed-clause-parts
returns-in_err-changed-clause-parts g c = omega (arith, singles_within c.args.mutation c.args.engine, c.in_err-changed.ensures.parts)

pub returns-in_err-engine-in-Done-clause-parts : goal.returns-in_err-engine-in-Done-clause-parts
returns-in_err-engine-in-Done-clause-parts g c =
    let made = singles_made c.args.mutation c.args.engine c.in_ok-changed.field-0.engine c.in_ok-changed.field-0.outcome c.in_ok-changed.ensures.outcome c.in-Done.is c.in_ok-changed.ensures.engine in
    omega (arith, made, c.in_ok-changed.ensures.parts, c.in_err-engine-in-Done.ensures.parts)

pub returns-in_ok-engine-in-Done-clause-parts : goal.returns-in_ok-engine-in-Done-clause-parts
returns-in_ok-engine-in-Done-clause-parts g c =
    let made = singles_made c.args.mutation c.args.engine c.in_ok-changed.field-0.engine c.in_ok-changed.field-0.outcome c.in_ok-changed.ensures.outcome c.in-Done.is c.in_ok-changed.ensures.engine in
    omega (arith, made, c.in_ok-changed.ensures.parts, c.in_ok-engine-in-Done.ensures.parts)

pub returns-in-Refused-clause-parts : goal.returns-in-Refused-clause-parts
returns-in-Refused-clause-parts g c = omega (arith, singles_within c.args.mutation c.args.engine, c.in_ok-changed.ensures.parts)
