-- How the nodes of a fragment go into the slots, one behind the other.
use Rattle.std.specs.Prelude.{◌≡◌, ℕ, ◌+◌, ◌-◌, ◌<◌, ◌≤◌, ◌==◌, cond, List, length}
use Rattle.page_tree.specs.Forest.{Content}
use Rattle.dom_arena.specs.Contents.{payload_of, may_hold}
use Rattle.dom_arena.specs.Slots.{slot_at, IsUsed, climbed, put}
use Rattle.dom_arena.specs.declared.fragments.Tail.{Tail}
use Rattle.dom_arena.specs.declared.table.Slot.{Slot}

-- the parent of a node of this depth behind those that are there
abbrev pub parent_behind : Tail → ℕ → List Slot → ℕ
parent_behind tail depth slots = climbed (slot_at slots) (tail.level - depth) tail.inner

-- the sibling before it: at the top the last one there, further down the last child of its parent
abbrev pub sibling_before : Tail → ℕ → List Slot → ℕ
sibling_before tail depth slots = cond (depth == 0) tail.top (slot_at slots (parent_behind tail depth slots)).last_child

-- the sibling behind it: at the top the one behind the place, further down none
abbrev pub sibling_after : ℕ → ℕ → ℕ
sibling_after after depth = cond (depth == 0) after 0

-- there is a slot n for a node of this depth behind those that are there, and its parent and siblings are nodes
pub record CanHang (tail : Tail) (after n depth : ℕ) (slots : List Slot) : Type 0 where
  pub level : depth ≤ tail.level
  pub low : depth < 4294967295
  pub inside : n < length slots
  pub parent : IsUsed slots (parent_behind tail depth slots)
  pub left : (sibling_before tail depth slots ≡ 0 → ⊥) → IsUsed slots (sibling_before tail depth slots)
  pub right : (sibling_after after depth ≡ 0 → ⊥) → IsUsed slots (sibling_after after depth)

-- the slots with a node n of this depth behind those that are there
abbrev pub hung_in : Tail → ℕ → ℕ → ℕ → Content → List Slot → List Slot
hung_in tail after n depth c slots = put n (parent_behind tail depth slots) (sibling_before tail depth slots) (sibling_after after depth) c slots

-- what the next node goes behind then, where `parent` is that of n
abbrev pub tail_behind : Tail → ℕ → ℕ → ℕ → Content → Tail
tail_behind tail parent n depth c = record {
  inner = cond (may_hold (payload_of c)) n parent;
  level = cond (may_hold (payload_of c)) (depth + 1) depth;
  top = cond (depth == 0) n tail.top;
}
