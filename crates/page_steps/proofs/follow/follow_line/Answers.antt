use Rattle.std.proofs.Common.{◌≡◌, ◌≤◌, ◌+◌, IfOk, ap, length, arith, subst, sym, ◌∙◌}
use Rattle.cos_patterns.specs.Found.{pattern_found}
use Rattle.mutation_script.specs.declared.mutation.ScriptLine.{ScriptLine}
use Rattle.mutation_script.specs.Changes.{answer}
use Rattle.mutation_script.specs.Inserted.{inserted_by}
use Rattle.mutation_script.proofs.Growth.{inserted_within}
use Rattle.engine_meaning.specs.States.{hidden_of}
use Rattle.remove_rounds.specs.Costs.{questions, single_tests}
use Rattle.command_meaning.specs.Report.{after_line}
use Rattle.page_steps.specs.declared.follow.Followed.{Followed}
use Rattle.page_steps.specs.Costs.{line_cost}
use Rattle.page_steps.proofs.follow.follow_line.Goals as goal

pub follow_mutation-requires : goal.follow_mutation-requires
follow_mutation-requires g c =
    let within = subst (λ (line : ScriptLine). inserted_by line ≤ length c.args.line.now) (sym c.in_ok-mutation.ensures ∙ c.in-Mutation.is) (inserted_within c.args.line.now) in
    omega (arith, within, c.requires)

pub returns-in-Mutation-clause-checks : goal.returns-in-Mutation-clause-checks
returns-in-Mutation-clause-checks g c =
    subst (λ (line : ScriptLine). c.follow_mutation.new.checks ≤ c.args.checks.now + line_cost questions line c.args.engine) (sym (sym c.in_ok-mutation.ensures ∙ c.in-Mutation.is))
    c.follow_mutation.ensures.checks

pub returns-in-Mutation-clause-parts : goal.returns-in-Mutation-clause-parts
returns-in-Mutation-clause-parts g c =
    subst (λ (line : ScriptLine). c.follow_mutation.new.parts ≤ c.args.parts.now + line_cost single_tests line c.args.engine) (sym (sym c.in_ok-mutation.ensures ∙ c.in-Mutation.is))
    c.follow_mutation.ensures.parts

-- a change
pub returns-in-Mutation-clause-answer : goal.returns-in-Mutation-clause-answer
returns-in-Mutation-clause-answer g c =
    subst (λ (line : ScriptLine). IfOk c.follow_mutation.result (λ (followed : Followed). followed.answer ≡ answer line c.args.engine.page))
    (sym (sym c.in_ok-mutation.ensures ∙ c.in-Mutation.is)) c.follow_mutation.ensures.answer

pub returns-in-Mutation-clause-engine : goal.returns-in-Mutation-clause-engine
returns-in-Mutation-clause-engine g c =
    subst (λ (line : ScriptLine). IfOk c.follow_mutation.result (λ (followed : Followed). followed.engine ≡ (after_line line c.args.engine).state))
    (sym (sym c.in_ok-mutation.ensures ∙ c.in-Mutation.is)) c.follow_mutation.ensures.engine

pub returns-in-Mutation-clause-taken : goal.returns-in-Mutation-clause-taken
returns-in-Mutation-clause-taken g c =
    subst (λ (line : ScriptLine). IfOk c.follow_mutation.result (λ (followed : Followed). followed.taken ≡ (after_line line c.args.engine).taken))
    (sym (sym c.in_ok-mutation.ensures ∙ c.in-Mutation.is)) c.follow_mutation.ensures.taken

-- a blank line
pub returns-in-Blank-clause-answer : goal.returns-in-Blank-clause-answer
returns-in-Blank-clause-answer g c =
    subst (λ (line : ScriptLine). c.unchanged.result.answer ≡ answer line c.args.engine.page) (sym (sym c.in_ok-mutation.ensures ∙ c.in-Blank.is))
    (ap (λ (followed : Followed). followed.answer) c.unchanged.ensures)

pub returns-in-Blank-clause-engine : goal.returns-in-Blank-clause-engine
returns-in-Blank-clause-engine g c =
    subst (λ (line : ScriptLine). c.unchanged.result.engine ≡ (after_line line c.args.engine).state) (sym (sym c.in_ok-mutation.ensures ∙ c.in-Blank.is))
    (ap (λ (followed : Followed). followed.engine) c.unchanged.ensures)

pub returns-in-Blank-clause-taken : goal.returns-in-Blank-clause-taken
returns-in-Blank-clause-taken g c =
    subst (λ (line : ScriptLine). c.unchanged.result.taken ≡ (after_line line c.args.engine).taken) (sym (sym c.in_ok-mutation.ensures ∙ c.in-Blank.is))
    (ap (λ (followed : Followed). followed.taken) c.unchanged.ensures)

pub returns-in-Blank-clause-same : goal.returns-in-Blank-clause-same
returns-in-Blank-clause-same g c = λ same. ap (λ (followed : Followed). hidden_of pattern_found followed.engine) c.unchanged.ensures

-- a bad line
pub returns-in-Bad-clause-same : goal.returns-in-Bad-clause-same
returns-in-Bad-clause-same g c = λ same. ap (λ (followed : Followed). hidden_of pattern_found followed.engine) c.unchanged-in-Bad.ensures
