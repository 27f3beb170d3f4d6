use Rattle.std.proofs.Common.{◌≡◌, ◌++◌, map, take, drop}
use Rattle.sensor_meaning.specs.Sensors.{front, rest, sensors_of_step}
use Rattle.dependency_sets.proofs.sensing.first_up.Given as goal

abbrev pub invariant-loop-k : goal.invariant-loop-k
invariant-loop-k l =
    (front (map sensors_of_step l.steps) ≡ map sensors_of_step (take l.k l.steps) ++ front (map sensors_of_step (drop l.k l.steps)))
    × (rest (map sensors_of_step l.steps) ≡ rest (map sensors_of_step (drop l.k l.steps)))
