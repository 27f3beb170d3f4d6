use Rattle.std.proofs.Common.{◌≡◌, true, take}
use Rattle.std.specs.List.{list_all}
use Rattle.procedural_ops.specs.Runs.{is_keep}
use Rattle.procedural_ops.proofs.runs.run_length.Given as goal

abbrev pub invariant-loop-i : goal.invariant-loop-i
invariant-loop-i l = list_all is_keep (take l.i l.steps) ≡ true
