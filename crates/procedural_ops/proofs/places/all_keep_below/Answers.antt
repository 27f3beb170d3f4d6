use Rattle.std.proofs.Common.{List, All, subst}
use Rattle.std.proofs.lemmas.List.{take_all}
use Rattle.std.proofs.lemmas.List.Elements.{All-nil, All-more}
use Rattle.selector_tree.specs.declared.selector.Step.{Step}
use Rattle.procedural_ops.specs.Blocked.{KeepsBelow}
use Rattle.procedural_ops.proofs.places.all_keep_below.Goals as goal

pub loop-step-init : goal.loop-step-init
loop-step-init c = All-nil KeepsBelow

pub loop-step-preserved : goal.loop-step-preserved
loop-step-preserved c =
    All-more KeepsBelow c.args.run.now c.loop-step.step-index c.step-item.result c.loop-step-test.true c.loop-step.invariant
    (subst KeepsBelow c.step-item.is (c.keeps_below.ensures c.if-not-keeps_below.false))

pub returns : goal.returns
returns c = λ e. subst (λ (l : List Step). All KeepsBelow l) (take_all c.loop-step.step-index c.args.run.now c.loop-step-test.false) c.loop-step.invariant
