-- The laws of sets of sensors.
use Rattle.std.specs.Prelude.{◌≡◌}
use Rattle.page_tree.specs.Forest.{Tree}
use Rattle.sensor_meaning.specs.declared.change.Change.{Change}
use Rattle.sensor_meaning.specs.Sensors.{Sensors}
use Rattle.sensor_meaning.specs.Dirty.{dirty}
use Rattle.dependency_sets.specs.Same.{AreSame, AreSorted}

-- in their one order, sensors with the same members are equal
abbrev pub OneOrder : Type 0
OneOrder = (r s : Sensors) → AreSorted r → AreSorted s → AreSame r s → r ≡ s

-- what is dirty hangs on the members alone
abbrev pub SameDirty : Type 0
SameDirty = (change : Change) (u : Tree) (r s : Sensors) → AreSame r s → dirty change u r ≡ dirty change u s
