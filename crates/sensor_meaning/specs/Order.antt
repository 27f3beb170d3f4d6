-- The one order of sensors: by the kind of what is observed, the attribute's name, and the route.
use Rattle.std.specs.Prelude.{ℕ, Bool, List, [], map}
use Rattle.std.specs.declared.cmp.Ordering.{Ordering}
use Rattle.std.specs.Ordering.{nat_cmp, on, then_cmp, eq_by_cmp}
use Rattle.std.specs.Cmp.Lexicographic.{slice_cmp}
use Rattle.selector_meaning.specs.Texts.{Bytes}
use Rattle.sensor_meaning.specs.declared.sensor.Observes.{Observes}
use Rattle.sensor_meaning.specs.declared.sensor.Observes.TheVariants.{Attr, AnyAttr, Text, Children, Path}
use Rattle.sensor_meaning.specs.declared.sensor.Way.{Way}
use Rattle.sensor_meaning.specs.declared.sensor.Way.TheVariants.{ToChild, ToBelow, ToParent, ToAbove, ToNext, ToPrevious, ToAfter, ToBefore, Whole}
use Rattle.sensor_meaning.specs.declared.sensor.Sensor.{Sensor}

abbrev pub way_number : Way → ℕ
way_number ToChild = 0
way_number ToBelow = 1
way_number ToParent = 2
way_number ToAbove = 3
way_number ToNext = 4
way_number ToPrevious = 5
way_number ToAfter = 6
way_number ToBefore = 7
way_number Whole = 8

abbrev pub ways : List Way → List ℕ
ways route = map way_number route

abbrev pub kind_of : Observes → ℕ
kind_of (Attr name) = 0
kind_of AnyAttr = 1
kind_of Text = 2
kind_of Children = 3
kind_of Path = 4

-- the name of the attribute that is observed, else nothing
abbrev pub name_of : Observes → Bytes
name_of (Attr name) = name
name_of AnyAttr = []
name_of Text = []
name_of Children = []
name_of Path = []

abbrev pub kind_at : Sensor → ℕ
kind_at s = kind_of s.observes

abbrev pub name_at : Sensor → Bytes
name_at s = name_of s.observes

abbrev pub ways_of : Sensor → List ℕ
ways_of s = ways s.route

-- the kind decides first, then the name, then the route
abbrev pub sensor_cmp : Sensor → Sensor → Ordering
sensor_cmp = then_cmp (on kind_at nat_cmp) (then_cmp (on name_at (slice_cmp nat_cmp)) (on ways_of (slice_cmp nat_cmp)))

abbrev pub sensor_eq : Sensor → Sensor → Bool
sensor_eq = eq_by_cmp sensor_cmp
