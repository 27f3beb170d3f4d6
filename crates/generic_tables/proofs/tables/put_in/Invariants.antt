use Rattle.std.proofs.Common.{◌≡◌, ◌==◌, ◌&&◌, ◌||◌, ℕ, true, length}
use Rattle.std.specs.List.{list_any}
use Rattle.generic_tables.specs.declared.keys.Key.{Key}
use Rattle.generic_tables.specs.Keys.{carries}
use Rattle.generic_tables.specs.Carried.{same_key}
use Rattle.generic_tables.specs.KeysLeft.{keys_left}
use Rattle.generic_tables.specs.Filed.{holds}
use Rattle.generic_tables.proofs.tables.put_in.Given as goal

-- with the keys that are left, the element stands where it is to stand
abbrev pub invariant-all : goal.invariant-all
invariant-all l = record {
  all : (k : Key) (x : ℕ) →
      (holds l.filed k x || ((x == l.n) && list_any (same_key k) (keys_left l.keys))) ≡ (holds l.initial.filed k x || ((x == l.n) && carries l.dom k l.n));
  kept : (k : Key) (x : ℕ) → holds l.initial.filed k x ≡ true → holds l.filed k x ≡ true;
}

abbrev pub decreases-all : goal.decreases-all
decreases-all l = length (keys_left l.keys)
