use Rattle.std.proofs.Common.{All, take}
use Rattle.procedural_ops.specs.Blocked.{BeginsBelow}
use Rattle.procedural_ops.proofs.places.all_begin_below.Given as goal

abbrev pub invariant-loop-chain : goal.invariant-loop-chain
invariant-loop-chain l = All BeginsBelow (take l.chain-index l.selector)
