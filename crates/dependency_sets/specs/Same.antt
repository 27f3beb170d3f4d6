-- Lists of sensors with the same members.
use Rattle.std.specs.Prelude.{◌≡◌, Bool}
use Rattle.std.specs.List.{list_any}
use Rattle.std.specs.List.Sorted.{IsStrictlySortedBy}
use Rattle.sensor_meaning.specs.declared.sensor.Sensor.{Sensor}
use Rattle.sensor_meaning.specs.Sensors.{Sensors}
use Rattle.sensor_meaning.specs.Order.{sensor_cmp}

-- the same members: no test finds a member in one of them alone
abbrev pub AreSame : Sensors → Sensors → Type 0
AreSame r s = (p : Sensor → Bool) → list_any p r ≡ list_any p s

-- in their one order, none twice
abbrev pub AreSorted : Sensors → Type 0
AreSorted r = IsStrictlySortedBy sensor_cmp r
