use Rattle.std.proofs.Common.{◌≡◌, ◌-◌, Bool, sym, subst, ◌∙◌, take, drop, length, arith}
use Rattle.std.specs.Prelude.{IfOk}
use Rattle.page_tree.specs.Standings.{all}
use Rattle.procedural_ops.specs.Count.{many_asked}
use Rattle.procedural_ops.specs.Noted.{chain_tests, nested_tests}
use Rattle.procedural_ops.proofs.Keeping as keeping
use Rattle.procedural_ops.proofs.Compounds as own
use Rattle.procedural_ops.proofs.Steps as steps
use Rattle.procedural_ops.proofs.Weights as weights
use Rattle.procedural_ops.proofs.Fronts as fronts
use Rattle.procedural_ops.proofs.own.is_reached.Goals as goal

pub is_front_reached-requires-clause-front : goal.is_front_reached-requires-clause-front
is_front_reached-requires-clause-front g c = fronts.first_steps c.args.steps.now _ c.run_start-first.result c.requires.chain

pub singles_hold-requires-clause-proper : goal.singles_hold-requires-clause-proper
singles_hold-requires-clause-proper g c = weights.own_slice c.args.context.now.table.now.patterns (length c.args.steps.now - c.run_start-first.result) c.run_start-first.result c.args.steps.now c.requires.proper

pub nested_hold-requires-clause-proper : goal.nested_hold-requires-clause-proper
nested_hold-requires-clause-proper g c = weights.own_slice c.args.context.now.table.now.patterns (length c.args.steps.now - c.run_start-first.result) c.run_start-first.result c.args.steps.now c.requires.proper

pub is_front_reached-requires-clause-proper : goal.is_front_reached-requires-clause-proper
is_front_reached-requires-clause-proper g c = weights.own_cut c.args.context.now.table.now.patterns c.run_start-first.result c.args.steps.now c.requires.proper

pub returns-then-not-branch-clause-answer : goal.returns-then-not-branch-clause-answer
returns-then-not-branch-clause-answer g c =
    sym (own.own_fails c.args.context.now.dom.now c.args.context.now.path.now c.args.steps.now (take (length c.args.steps.now - c.run_start-first.result) (drop c.run_start-first.result c.args.steps.now)) c.run_start-first.result c.args.x (steps.tail_is c.args.steps.now c.run_start-first.result) c.run_start-first.ensures.run (keeping.single_fails c.args.context.now.dom.now c.args.context.now.path.now c.args.x (take (length c.args.steps.now - c.run_start-first.result) (drop c.run_start-first.result c.args.steps.now)) (sym c.in_ok-singles_hold.ensures.answer ∙ c.if-not-branch.true)))

pub returns-then-not-branch-2-clause-answer : goal.returns-then-not-branch-2-clause-answer
returns-then-not-branch-2-clause-answer g c =
    sym (own.own_fails c.args.context.now.dom.now c.args.context.now.path.now c.args.steps.now (take (length c.args.steps.now - c.run_start-first.result) (drop c.run_start-first.result c.args.steps.now)) c.run_start-first.result c.args.x (steps.tail_is c.args.steps.now c.run_start-first.result) c.run_start-first.ensures.run (keeping.nested_fails c.args.context.now.dom.now c.args.context.now.path.now c.args.x (take (length c.args.steps.now - c.run_start-first.result) (drop c.run_start-first.result c.args.steps.now)) (sym c.in_ok-nested_hold.ensures.answer ∙ c.if-not-branch-2.true)))

pub returns-clause-answer : goal.returns-clause-answer
returns-clause-answer g c =
    subst (λ (b : Bool). IfOk c.is_front_reached.result (λ answer. answer ≡ b))
    (sym (own.own_goes_on c.args.context.now.dom.now c.args.context.now.path.now c.args.steps.now (take (length c.args.steps.now - c.run_start-first.result) (drop c.run_start-first.result c.args.steps.now)) c.run_start-first.result c.args.x (steps.tail_is c.args.steps.now c.run_start-first.result) c.run_start-first.ensures.run
    (keeping.all_both c.args.context.now.dom.now c.args.context.now.path.now c.args.x (take (length c.args.steps.now - c.run_start-first.result) (drop c.run_start-first.result c.args.steps.now)) (sym c.in_ok-singles_hold.ensures.answer ∙ c.if-not-branch.false) (sym c.in_ok-nested_hold.ensures.answer ∙ c.if-not-branch-2.false))))
    c.is_front_reached.ensures.answer

pub returns-in_err-singles_hold-clause-asked : goal.returns-in_err-singles_hold-clause-asked
returns-in_err-singles_hold-clause-asked g c =
    own.few_asked c.args.parts.now c.singles_hold.new.parts (many_asked (take (length c.args.steps.now - c.run_start-first.result) (drop c.run_start-first.result c.args.steps.now))) (length (chain_tests c.args.steps.now)) (length (all c.args.context.now.dom.now)) c.singles_hold.ensures.asked (omega (arith, own.own_tests c.args.context.now.dom.now c.args.context.now.path.now c.args.steps.now (take (length c.args.steps.now - c.run_start-first.result) (drop c.run_start-first.result c.args.steps.now)) c.run_start-first.result c.args.x (steps.tail_is c.args.steps.now c.run_start-first.result) c.run_start-first.ensures.run)) (own.some_element (all c.args.context.now.dom.now) c.args.x c.requires.element)

pub returns-then-not-branch-clause-asked : goal.returns-then-not-branch-clause-asked
returns-then-not-branch-clause-asked g c =
    own.few_asked c.args.parts.now c.singles_hold.new.parts (many_asked (take (length c.args.steps.now - c.run_start-first.result) (drop c.run_start-first.result c.args.steps.now))) (length (chain_tests c.args.steps.now)) (length (all c.args.context.now.dom.now)) c.singles_hold.ensures.asked (omega (arith, own.own_tests c.args.context.now.dom.now c.args.context.now.path.now c.args.steps.now (take (length c.args.steps.now - c.run_start-first.result) (drop c.run_start-first.result c.args.steps.now)) c.run_start-first.result c.args.x (steps.tail_is c.args.steps.now c.run_start-first.result) c.run_start-first.ensures.run)) (own.some_element (all c.args.context.now.dom.now) c.args.x c.requires.element)

pub returns-in_err-nested_hold-clause-asked : goal.returns-in_err-nested_hold-clause-asked
returns-in_err-nested_hold-clause-asked g c =
    own.more_asked c.args.parts.now c.nested_hold.new.parts (many_asked (take (length c.args.steps.now - c.run_start-first.result) (drop c.run_start-first.result c.args.steps.now))) (nested_tests (take (length c.args.steps.now - c.run_start-first.result) (drop c.run_start-first.result c.args.steps.now))) (length (chain_tests (take c.run_start-first.result c.args.steps.now))) (length (chain_tests c.args.steps.now)) (length (all c.args.context.now.dom.now)) (omega (arith, c.singles_hold.ensures.asked, c.nested_hold.ensures.asked)) (own.own_tests c.args.context.now.dom.now c.args.context.now.path.now c.args.steps.now (take (length c.args.steps.now - c.run_start-first.result) (drop c.run_start-first.result c.args.steps.now)) c.run_start-first.result c.args.x (steps.tail_is c.args.steps.now c.run_start-first.result) c.run_start-first.ensures.run) (own.some_element (all c.args.context.now.dom.now) c.args.x c.requires.element)

pub returns-then-not-branch-2-clause-asked : goal.returns-then-not-branch-2-clause-asked
returns-then-not-branch-2-clause-asked g c =
    own.more_asked c.args.parts.now c.nested_hold.new.parts (many_asked (take (length c.args.steps.now - c.run_start-first.result) (drop c.run_start-first.result c.args.steps.now))) (nested_tests (take (length c.args.steps.now - c.run_start-first.result) (drop c.run_start-first.result c.args.steps.now))) (length (chain_tests (take c.run_start-first.result c.args.steps.now))) (length (chain_tests c.args.steps.now)) (length (all c.args.context.now.dom.now)) (omega (arith, c.singles_hold.ensures.asked, c.nested_hold.ensures.asked)) (own.own_tests c.args.context.now.dom.now c.args.context.now.path.now c.args.steps.now (take (length c.args.steps.now - c.run_start-first.result) (drop c.run_start-first.result c.args.steps.now)) c.run_start-first.result c.args.x (steps.tail_is c.args.steps.now c.run_start-first.result) c.run_start-first.ensures.run) (own.some_element (all c.args.context.now.dom.now) c.args.x c.requires.element)

pub returns-clause-asked : goal.returns-clause-asked
returns-clause-asked g c =
    own.more_asked c.args.parts.now c.is_front_reached.new.parts (many_asked (take (length c.args.steps.now - c.run_start-first.result) (drop c.run_start-first.result c.args.steps.now))) (nested_tests (take (length c.args.steps.now - c.run_start-first.result) (drop c.run_start-first.result c.args.steps.now))) (length (chain_tests (take c.run_start-first.result c.args.steps.now))) (length (chain_tests c.args.steps.now)) (length (all c.args.context.now.dom.now)) (omega (arith, c.singles_hold.ensures.asked, c.nested_hold.ensures.asked, c.is_front_reached.ensures.asked)) (own.own_tests c.args.context.now.dom.now c.args.context.now.path.now c.args.steps.now (take (length c.args.steps.now - c.run_start-first.result) (drop c.run_start-first.result c.args.steps.now)) c.run_start-first.result c.args.x (steps.tail_is c.args.steps.now c.run_start-first.result) c.run_start-first.ensures.run) (own.some_element (all c.args.context.now.dom.now) c.args.x c.requires.element)
