-- The elements whose answers a change can have touched. 0 is the document.
use Rattle.std.specs.Prelude.{ℕ, Bool, false, not, ◌&&◌, ◌||◌, ◌==◌, List, [], ◌∷◌, filter}
use Rattle.std.specs.List.{list_any}
use Rattle.page_tree.specs.Forest.{Tree}
use Rattle.page_tree.specs.Standings.{all, above}
use Rattle.page_tree.specs.Directions.{is_in, goes, to_child, to_below, to_parent, to_above, to_next, to_previous, to_after, to_before}
use Rattle.sensor_meaning.specs.declared.sensor.Observes.{Observes}
use Rattle.sensor_meaning.specs.declared.sensor.Way.{Way}
use Rattle.sensor_meaning.specs.declared.sensor.Way.TheVariants.{ToChild, ToBelow, ToParent, ToAbove, ToNext, ToPrevious, ToAfter, ToBefore, Whole}
use Rattle.sensor_meaning.specs.declared.change.Change.{Change}
use Rattle.sensor_meaning.specs.declared.change.Change.TheVariants.{Came, Moved}
use Rattle.sensor_meaning.specs.Sensors.{Sensors}
use Rattle.sensor_meaning.specs.Changes.{observes, places_of}

module _ (t : Tree) where
  -- whether the direction leads from y to x
  unfoldable pub comes : Way → ℕ → ℕ → Bool
  comes ToChild y x = goes t to_child y x
  comes ToBelow y x = goes t to_below y x
  comes ToParent y x = goes t to_parent y x
  comes ToAbove y x = goes t to_above y x
  comes ToNext y x = goes t to_next y x
  comes ToPrevious y x = goes t to_previous y x
  comes ToAfter y x = goes t to_after y x
  comes ToBefore y x = goes t to_before y x
  comes Whole y x = not (x == 0)

  -- where the direction leads from some of these
  unfoldable pub led : Way → List ℕ → List ℕ
  led d s = filter (λ x. list_any (λ y. comes d y x) s) (0 ∷ all t)

  -- where the directions lead, one after another
  unfoldable pub spread : List Way → List ℕ → List ℕ
  spread [] s = s
  spread (d ∷ route) s = spread route (led d s)

-- whether x is in the spread of the places by one of these sensors that `seen` has
module _ (t : Tree) (seen : Observes → Bool) (places : List ℕ) where
  unfoldable pub hit : Sensors → ℕ → Bool
  hit r x = list_any (λ s. seen s.observes && is_in (spread t s.route places) x) r

-- x is one of these, or below one
abbrev pub is_under : List ℕ → Tree → ℕ → Bool
is_under tops u x = list_any (λ y. is_in tops y) (x ∷ above u x)

-- whether x came or moved
abbrev pub brought : Change → Tree → ℕ → Bool
brought (Came p tops) u x = is_under tops u x
brought (Moved n p q) u x = is_under (n ∷ []) u x
brought _ u x = false

-- whether x is reached from the places of a change by the route of a sensor that observes it
abbrev pub is_reached : Change → Tree → Sensors → ℕ → Bool
is_reached change u r x = hit u (λ o. observes o change) (places_of change u) r x

-- the elements of the tree after a change that are reached, and those that came or moved, in document order
abbrev pub dirty : Change → Tree → Sensors → List ℕ
dirty change u r = filter (λ x. is_reached change u r x || brought change u x) (all u)
