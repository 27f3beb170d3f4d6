use Rattle.std.proofs.Common.{◌≡◌}
use Rattle.sensor_meaning.specs.Sensors.{via}
use Rattle.dependency_sets.proofs.found.via.Given as goal

abbrev pub invariant-loop-sensor : goal.invariant-loop-sensor
invariant-loop-sensor l = l.more.items ≡ via l.way l.yielded
