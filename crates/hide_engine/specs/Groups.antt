-- Filters by the sets of their sensors, and what is noted for the sets.
use Rattle.std.specs.Prelude.{◌≡◌, ℕ, ◌<◌, ◌^◌, ◌||◌, List, [], ◌++◌, Some, length, get_or}
use Rattle.std.specs.BTreeMap.{BTreeMap, get}
use Rattle.std.specs.Cmp.Lexicographic.{slice_cmp}
use Rattle.page_tree.specs.Forest.{Tree}
use Rattle.page_tree.specs.Directions.{is_in}
use Rattle.procedural_ops.specs.Told.{selector_at}
use Rattle.selector_tree.specs.declared.filter.Filter.{Filter}
use Rattle.sensor_meaning.specs.declared.change.Change.{Change}
use Rattle.sensor_meaning.specs.Order.{sensor_cmp}
use Rattle.sensor_meaning.specs.Sensors.{Sensors, sensors}
use Rattle.sensor_meaning.specs.Dirty.{dirty}
use Rattle.dependency_sets.specs.Same.{AreSame}
use Rattle.retest.specs.Asked.{group_in}
use Rattle.retest.specs.Noted.{Noted, is_pending}

-- the set of a group; empty past the last
abbrev pub set_at : List Sensors → ℕ → Sensors
set_at sets g = get_or sets g []

-- there is such a group, and its set has the members of these sensors
abbrev pub HasSet : List Sensors → ℕ → Sensors → Type 0
HasSet sets g r = (g < length sets) × AreSame (set_at sets g) r

-- the old sets stay first
abbrev pub Begins : List Sensors → List Sensors → Type 0
Begins old new = (more : List Sensors) × (new ≡ old ++ more)

-- each set that has a number is that of the group of this number
abbrev pub AreNumbered : BTreeMap Sensors ℕ → List Sensors → Type 0
AreNumbered places sets = (r : Sensors) (g : ℕ) → get (slice_cmp sensor_cmp) places r ≡ Some g → HasSet sets g r

-- the group of each filter has the filter's sensors
pub record AreGrouped (filters : List Filter) (sets : List Sensors) (numbers : List ℕ) : Type 0 where
  pub few : length sets < 2 ^ 32
  pub same : (f : ℕ) → f < length filters → HasSet sets (group_in numbers f) (sensors (selector_at filters f))

-- for each group, what the change made dirty for its sensors is pending too
abbrev pub Notes : Change → Tree → List Sensors → Noted → Noted → Type 0
Notes change u sets old new =
    (g x : ℕ) → is_pending new g x ≡ (is_pending old g x || is_in (dirty change u (set_at sets g)) x)
