-- The numbers that a change names are nodes of the tree after it.
use Rattle.std.specs.Prelude.{ℕ, ◌<◌, Bool, ◌&&◌}
use Rattle.page_tree.specs.Directions.{is_in}
use Rattle.sensor_meaning.specs.declared.sensor.Sensor.{Sensor}
use Rattle.sensor_meaning.specs.Changes.{observes, places_of}
use Rattle.sensor_meaning.specs.Dirty.{spread}
use Rattle.page_tree.specs.Forest.{Tree, count}
use Rattle.sensor_meaning.specs.declared.change.Change.{Change}
use Rattle.sensor_meaning.specs.declared.change.Change.TheVariants.{Attr, Chars, Came, Went, Moved, Path}
use Rattle.dependency_sets.specs.Reaching.{IsPlace}

-- the node of a text is there, and the others are the document or elements
abbrev pub IsNamed : Change → Tree → Type 0
IsNamed (Attr n name) u = IsPlace u n
IsNamed (Chars n) u = 0 < count n u.nodes
IsNamed (Came p tops) u = IsPlace u p
IsNamed (Went p) u = IsPlace u p
IsNamed (Moved n p q) u = IsPlace u p × IsPlace u q
IsNamed Path u = Unit {0}

-- whether x is reached from the places of a change by the route of this sensor, if it observes the change
abbrev pub is_led : Sensor → Change → Tree → ℕ → Bool
is_led s change u x = observes s.observes change && is_in (spread u s.route (places_of change u)) x
