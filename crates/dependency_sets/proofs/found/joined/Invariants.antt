use Rattle.std.proofs.Common.{◌≡◌, ◌++◌}
use Rattle.dependency_sets.proofs.found.joined.Given as goal

abbrev pub invariant-loop-sensor : goal.invariant-loop-sensor
invariant-loop-sensor l = l.sensors.items ≡ l.initial.sensors.items ++ l.yielded
