use Rattle.std.proofs.Common.{◌≡◌, ◌+◌, drop}
use Rattle.procedural_ops.specs.Reaching.{first_up_of}
use Rattle.procedural_ops.proofs.places.first_up.Given as goal

abbrev pub invariant-loop-i : goal.invariant-loop-i
invariant-loop-i l = first_up_of l.chain ≡ l.i + first_up_of (drop l.i l.chain)
