use Rattle.std.proofs.Common.{All, take}
use Rattle.procedural_ops.specs.Blocked.{KeepsBelow}
use Rattle.procedural_ops.proofs.places.all_keep_below.Given as goal

abbrev pub invariant-loop-step : goal.invariant-loop-step
invariant-loop-step l = All KeepsBelow (take l.step-index l.run)
