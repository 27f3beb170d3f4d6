use Rattle.std.proofs.Common.{◌≡◌, true, take}
use Rattle.std.specs.List.{list_all}
use Rattle.procedural_ops.specs.Count.{is_plain_step}
use Rattle.procedural_ops.proofs.plain.is_plain.Given as goal

abbrev pub invariant-loop-step : goal.invariant-loop-step
invariant-loop-step l = list_all is_plain_step (take l.step-index l.steps) ≡ true
