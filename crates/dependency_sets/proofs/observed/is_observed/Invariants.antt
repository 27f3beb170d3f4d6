use Rattle.std.proofs.Common.{◌≡◌, drop}
use Rattle.std.specs.List.{list_any}
use Rattle.sensor_meaning.specs.Changes.{observes}
use Rattle.dependency_sets.proofs.observed.is_observed.Given as goal

abbrev pub invariant-loop-sensor : goal.invariant-loop-sensor
invariant-loop-sensor l =
    list_any (λ s. observes s.observes l.change) l.sensors ≡ list_any (λ s. observes s.observes l.change) (drop l.sensor-index l.sensors)
