use Rattle.std.proofs.Common.{◌≡◌, Bool, ◌∙◌, length, sym, subst}
use Rattle.std.specs.Prelude.{IfOk}
use Rattle.page_tree.specs.Standings.{all}
use Rattle.procedural_ops.specs.Count.{many_asked}
use Rattle.procedural_ops.specs.Noted.{chain_tests}
use Rattle.procedural_ops.proofs.Fronts as fronts
use Rattle.procedural_ops.proofs.Simple as simple
use Rattle.procedural_ops.proofs.Steps as steps
use Rattle.procedural_ops.proofs.Totals as totals
use Rattle.procedural_ops.proofs.Weights as weights
use Rattle.procedural_ops.proofs.own.is_front_reached.Goals as goal

pub is_other_of_front-requires-clause-proper : goal.is_other_of_front-requires-clause-proper
is_other_of_front-requires-clause-proper g c =
    (weights.own_last c.args.context.now.table.now.patterns c.args.steps.now c.in-Some.before.now c.in-Some.last.now c.in-Some.ensures.cases.0 c.requires.proper).0

pub is_other_of_front-requires-clause-front : goal.is_other_of_front-requires-clause-front
is_other_of_front-requires-clause-front g c =
    fronts.all_but_last c.args.steps.now c.in-Some.before.now c.in-Some.last.now _ c.in-Some.ensures.cases.0 c.requires.front

pub returns-in-Others-clause-answer : goal.returns-in-Others-clause-answer
returns-in-Others-clause-answer g c =
    subst (λ (b : Bool). IfOk c.is_other_of_front.result (λ answer. answer ≡ b))
    (sym (steps.reached_others c.args.context.now.dom.now c.args.context.now.path.now c.args.steps.now c.in-Some.before.now c.in-Some.last.now c.args.x c.in-Some.ensures.cases.0 c.requires.element c.in-Others.is))
    c.is_other_of_front.ensures.answer

pub returns-in-Others-clause-asked : goal.returns-in-Others-clause-asked
returns-in-Others-clause-asked g c =
    simple.product_few (length (chain_tests c.in-Some.before.now)) (length (chain_tests c.args.steps.now)) (length (all c.args.context.now.dom.now)) c.args.parts.now c.is_other_of_front.new.parts c.is_other_of_front.ensures.asked
    (fronts.fewer_asked c.args.steps.now c.in-Some.before.now c.in-Some.last.now c.in-Some.ensures.cases.0)

pub returns-then-is_plain-clause-asked : goal.returns-then-is_plain-clause-asked
returns-then-is_plain-clause-asked g c =
    simple.product_few (many_asked c.args.steps.now) (length (chain_tests c.args.steps.now)) (length (all c.args.context.now.dom.now)) c.args.parts.now c.is_reached.new.parts c.is_reached.ensures.asked
    (totals.plain_tests c.args.steps.now (sym c.is_plain.ensures ∙ c.if-is_plain.true))
