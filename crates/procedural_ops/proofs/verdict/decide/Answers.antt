use Rattle.std.proofs.Common.{◌≡◌, ◌≤◌, ◌+◌, ◌*◌, Bool, List, [], Option, length, subst, ap, ◌∙◌}
use Rattle.std.specs.Prelude.{IfOk, option_map, unwrap_or}
use Rattle.selector_tree.specs.declared.filter.Filter.{Filter}
use Rattle.selector_tree.specs.declared.selector.Step.{Step}
use Rattle.page_tree.specs.Standings.{all}
use Rattle.cos_patterns.specs.Found.{pattern_found}
use Rattle.selector_meaning.specs.Meaning.{selects}
use Rattle.procedural_ops.specs.Noted.{simple_tests}
use Rattle.procedural_ops.specs.Told.{selector_at}
use Rattle.procedural_ops.proofs.Steps.{selects_is}
use Rattle.procedural_ops.proofs.verdict.decide.Goals as goal

pub returns-in-Some-clause-answer : goal.returns-in-Some-clause-answer
returns-in-Some-clause-answer g c =
    let same : c.as_slice.result.now ≡ selector_at c.args.active.now c.args.f =
    c.as_slice.ensures ∙ ap (λ (o : Option Filter). unwrap_or (option_map (λ filter. filter.selector) o) []) c.in-Some.ensures.item in
    subst (λ (b : Bool). IfOk c.selects.result (λ yes. yes ≡ b))
    (selects_is c.args.context.now.dom.now c.args.context.now.path.now c.as_slice.result.now c.args.x
    ∙ ap (λ (l : List (List Step)). selects pattern_found c.args.context.now.dom.now c.args.context.now.path.now l c.args.x) same)
    c.selects.ensures.answer

pub returns-in-Some-clause-asked : goal.returns-in-Some-clause-asked
returns-in-Some-clause-asked g c =
    let same : c.as_slice.result.now ≡ selector_at c.args.active.now c.args.f =
    c.as_slice.ensures ∙ ap (λ (o : Option Filter). unwrap_or (option_map (λ filter. filter.selector) o) []) c.in-Some.ensures.item in
    subst (λ (l : List (List Step)). c.selects.new.parts ≤ c.args.parts.now + simple_tests l * length (all c.args.context.now.dom.now)) same c.selects.ensures.asked
