use Rattle.std.proofs.Common.{List, All, subst, ◌∙◌}
use Rattle.std.proofs.lemmas.List.{take_all}
use Rattle.std.proofs.lemmas.List.Elements.{All-nil, All-more}
use Rattle.selector_tree.specs.declared.selector.Step.{Step}
use Rattle.procedural_ops.specs.Blocked.{BeginsBelow}
use Rattle.procedural_ops.proofs.places.all_begin_below.Goals as goal

pub loop-chain-init : goal.loop-chain-init
loop-chain-init c = All-nil BeginsBelow

pub loop-chain-preserved : goal.loop-chain-preserved
loop-chain-preserved c =
    All-more BeginsBelow c.args.selector.now c.loop-chain.chain-index c.chain-item.result c.loop-chain-test.true c.loop-chain.invariant
    (subst BeginsBelow (c.as_slice.ensures ∙ c.chain-item.is) (c.begins_below.ensures c.if-not-begins_below.false))

pub returns : goal.returns
returns c = λ e. subst (λ (l : List (List Step)). All BeginsBelow l) (take_all c.loop-chain.chain-index c.args.selector.now c.loop-chain-test.false) c.loop-chain.invariant
