-- Parts of a tree in the slots: siblings with all that is below them, by the first one's number.
use Rattle.std.specs.Prelude.{◌≡◌, ℕ, ◌<◌, ◌≤◌, List, length}
use Rattle.page_tree.specs.Forest.{Forest, count, size, head}
use Rattle.page_tree.specs.declared.TheConstants.{NODE_LIMIT}
use Rattle.dom_arena.specs.Linked.{Linked, forest_of}
use Rattle.dom_arena.specs.Slots.{free, slot_at}
use Rattle.dom_arena.specs.declared.table.Slot.{Slot}

-- the siblings that the links lead through from a number on, with what is below them
abbrev pub part_from : List Slot → ℕ → Forest
part_from slots first = forest_of (length slots) (slot_at slots) first

-- the slots hold these siblings, the first of which has this number, 0 standing for none
pub record HoldPart (slots : List Slot) (part : Forest) (first : ℕ) : Type 0 where
  pub parent : ℕ
  pub previous : ℕ
  pub linked : Linked (slot_at slots) parent previous part
  pub headed : head part ≡ first
  pub once : (k : ℕ) → count k part ≤ 1
  pub no_zero : count 0 part ≡ 0
  pub fits : size part ≤ length slots
  pub few : size part ≤ NODE_LIMIT

-- the slots of a part are free, and the others as before
pub record AreCleared (part : Forest) (old new : List Slot) : Type 0 where
  pub kept : (k : ℕ) → count k part ≡ 0 → slot_at new k ≡ slot_at old k
  pub gone : (k : ℕ) → 0 < count k part → slot_at new k ≡ free
  pub long : length new ≡ length old
