-- Where a node may be moved to.
use Rattle.std.specs.Prelude.{◌≡◌, ℕ, ◌+◌, ◌≤◌, true, List, length, Some}
use Rattle.page_tree.specs.Forest.{rooted, count, height, head, tops, depth_in}
use Rattle.page_tree.specs.Edits.{subtree, without}
use Rattle.page_tree.specs.declared.TheConstants.{DEPTH_LIMIT}
use Rattle.dom_arena.specs.Contents.{may_hold}
use Rattle.dom_arena.specs.Linked.{tree_of, kids_of, before_place, from_place}
use Rattle.dom_arena.specs.Slots.{slot_at, IsUsed}
use Rattle.dom_arena.specs.declared.table.Slot.{Slot}

-- the node n may stand, with all that is below it, between two children of another, 0 standing for none, at this place
-- among those that are not n
pub record CanMove (slots : List Slot) (n parent place before after : ℕ) : Type 0 where
  pub node : IsUsed slots n
  pub not_document : n ≡ 0 → ⊥
  pub used : IsUsed slots parent
  pub holds : may_hold (slot_at slots parent).payload ≡ true
  pub apart : count parent (subtree n (tree_of slots).nodes) ≡ 0
  pub within : place ≤ length (tops (without n (kids_of parent (tree_of slots))))
  pub left : before ≡ before_place 0 place (without n (kids_of parent (tree_of slots)))
  pub right : after ≡ head (from_place place (without n (kids_of parent (tree_of slots))))
  pub depth : ℕ
  pub deep : depth_in parent 0 (rooted (tree_of slots).nodes) ≡ Some depth
  pub low : depth + height (subtree n (tree_of slots).nodes) ≤ DEPTH_LIMIT
