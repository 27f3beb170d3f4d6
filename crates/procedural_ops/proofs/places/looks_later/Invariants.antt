use Rattle.std.proofs.Common.{All, take}
use Rattle.procedural_ops.specs.Blocked.{KeepsLevel}
use Rattle.procedural_ops.proofs.places.looks_later.Given as goal

abbrev pub invariant-loop-i : goal.invariant-loop-i
invariant-loop-i l = All KeepsLevel (take l.i l.steps)
