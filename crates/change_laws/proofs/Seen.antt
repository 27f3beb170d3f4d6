-- A change makes dirty what it touches, and what came.
use Rattle.std.proofs.Common.{◌||◌, ◌∙◌}
use Rattle.page_tree.specs.Standings.{all}
use Rattle.page_tree.specs.Directions.{is_in}
use Rattle.sensor_meaning.specs.Dirty.{brought, is_reached}
use Rattle.sensor_meaning.specs.Sensors.{sensors}
use Rattle.sensor_laws.proofs.Any.{is_in-filter, and-true, or-right}
use Rattle.sensor_laws.proofs.Completeness.{completeness}
use Rattle.change_laws.specs.Laws.{ProperIsOuter, ChangeIsSeen}
use Rattle.change_laws.proofs.Outer.{outer}
use Rattle.change_laws.proofs.Came.{new_is_brought}

pub proper_is_outer : ProperIsOuter
proper_is_outer patterns l h = outer patterns l h

pub change_is_seen : ChangeIsSeen
change_is_seen found selector outers change t u path route a b c = record {
  complete = λ f x old new differs. completeness found (selector f) (outers f) change t u path route a b c x old new differs;
  came = λ f x old new.
      let reached = is_reached change u (sensors (selector f)) x in
      is_in-filter (λ y. is_reached change u (sensors (selector f)) y || brought change u y) x (all u)
      ∙ and-true (reached || brought change u x) (is_in (all u) x) (or-right reached (brought change u x) (new_is_brought change t u path route a b c x old new)) new;
}
