use Rattle.std.proofs.Common.{sym, ap, ◌∙◌, ◌||◌, ◌&&◌, ◌==◌, not}
use Rattle.page_tree.specs.Directions.{is_in}
use Rattle.sensor_meaning.specs.Dirty.{spread}
use Rattle.dependency_sets.proofs.Members.{on_ok}
use Rattle.dependency_sets.proofs.Touched.{by_one, by_none}
use Rattle.dependency_sets.proofs.touching.add_by.Goals as goal

pub returns-in_ok-reached : goal.returns-in_ok-reached
returns-in_ok-reached c =
    on_ok c.add_elements.result
    (λ g. by_one c.args.dom.now c.is_tree.ensures c.args.change.now c.args.sensor.now c.args.found.now.items c.add_elements.new.found.items c.in_ok-places.places c.in_ok-reached.reached
    (sym c.observes.ensures ∙ c.if-observes.true) c.in_ok-places.ensures.same (λ x. c.in_ok-reached.ensures.same x ∙ ap (λ r. is_in (spread c.args.dom.now r c.in_ok-places.places) x) c.as_slice-route.ensures) c.in_ok-reached.ensures.places
    (λ x. g x ∙ ap (λ l. is_in c.args.found.now.items x || (not (x == 0) && is_in l x)) c.as_slice-numbers.ensures))
    c.add_elements.ensures

pub returns-else-observes : goal.returns-else-observes
returns-else-observes c = by_none c.args.dom.now c.is_tree.ensures c.args.change.now c.args.sensor.now c.args.found.now.items (sym c.observes.ensures ∙ c.if-observes.false)
