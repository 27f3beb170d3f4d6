use Rattle.std.proofs.Common.{ap, ◌∙◌, ◌||◌, ◌&&◌}
use Rattle.page_tree.specs.Directions.{is_in}
use Rattle.page_tree.specs.Standings.{all}
use Rattle.sensor_meaning.specs.Dirty.{is_reached}
use Rattle.dependency_sets.proofs.Touched.{dirty_is}
use Rattle.dependency_sets.proofs.touching.dirty.Goals as goal

pub returns : goal.returns
returns c =
    dirty_is c.args.dom.now c.is_tree.ensures c.args.change.now c.args.sensors.now c.add_spread.new.found.items c.add_brought.new.found.items c.of.result
    (λ x. c.in_ok-add_spread.ensures x ∙ ap (λ l. is_in l x || (is_in (all c.args.dom.now) x && is_reached c.args.change.now c.args.dom.now c.args.sensors.now x)) c.new-found.ensures.items)
    c.in_ok-add_brought.ensures c.of.ensures
