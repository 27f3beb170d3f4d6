use Rattle.std.proofs.Common.{◌&&◌, take}
use Rattle.page_tree.specs.Directions.{is_in}
use Rattle.page_tree.specs.Standings.{all}
use Rattle.sensor_meaning.specs.Dirty.{is_reached}
use Rattle.dependency_sets.specs.Reaching.{Gains}
use Rattle.dependency_sets.proofs.touching.add_spread.Given as goal

abbrev pub invariant-loop-sensor : goal.invariant-loop-sensor
invariant-loop-sensor l =
    Gains (λ x. is_in (all l.dom) x && is_reached l.change l.dom (take l.sensor-index l.sensors) x) l.initial.found.items l.found.items
