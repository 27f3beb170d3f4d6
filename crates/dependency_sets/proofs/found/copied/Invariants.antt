use Rattle.std.proofs.Common.{◌≡◌, take}
use Rattle.dependency_sets.proofs.found.copied.Given as goal

abbrev pub invariant-loop-sensor : goal.invariant-loop-sensor
invariant-loop-sensor l = l.copy.items ≡ take l.sensor-index l.sensors
