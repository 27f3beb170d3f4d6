use Rattle.std.proofs.Common.{◌≡◌, ◌≤◌, true, drop, length}
use Rattle.std.specs.List.{list_all}
use Rattle.procedural_ops.specs.Runs.{is_keep}
use Rattle.procedural_ops.proofs.runs.run_start.Given as goal

abbrev pub invariant-run : goal.invariant-run
invariant-run l = record { within : l.first ≤ length l.steps; run : list_all is_keep (drop l.first l.steps) ≡ true }

abbrev pub decreases-run : goal.decreases-run
decreases-run l = l.first
