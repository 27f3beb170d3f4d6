use Rattle.std.proofs.Common.{◌≡◌, false, take}
use Rattle.std.specs.List.{list_any}
use Rattle.page_tree.specs.Directions.{is_in}
use Rattle.procedural_ops.specs.Reaching.{reached}
use Rattle.retest.proofs.look.may_select.Given as goal

abbrev pub invariant-loop-chain : goal.invariant-loop-chain
invariant-loop-chain l = list_any (λ chain. is_in (reached l.context.dom.now l.context.path.now chain) l.x) (take l.chain-index l.selector) ≡ false
