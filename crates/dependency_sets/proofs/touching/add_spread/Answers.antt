use Rattle.dependency_sets.proofs.Touched.{spread_start, spread_more}
use Rattle.dependency_sets.proofs.touching.add_spread.Goals as goal

pub loop-sensor-init : goal.loop-sensor-init
loop-sensor-init c = spread_start c.args.dom.now c.is_tree.ensures c.args.change.now c.args.found.now.items

pub loop-sensor-preserved : goal.loop-sensor-preserved
loop-sensor-preserved c =
    spread_more c.args.dom.now c.is_tree.ensures c.args.change.now c.args.sensors.now c.loop-sensor.sensor-index _ c.loop-sensor-test.true c.sensor-item.is c.args.found.now.items
    c.loop-sensor.found.items c.loop-sensor.invariant c.add_by.new.found.items c.in_ok-add_by.ensures
