-- How the slots of the arena stand for a tree.
use Rattle.std.specs.Prelude.{◌≡◌, ℕ, zero, suc, ◌≤◌, List, length}
use Rattle.page_tree.specs.Forest.{Forest, empty, node, Tree, rooted, count, size, head, find, children}
use Rattle.page_tree.specs.Trees.{IsTree}
use Rattle.dom_arena.specs.Contents.{content_of}
use Rattle.dom_arena.specs.Slots.{free, slot_at, cell}
use Rattle.dom_arena.specs.declared.table.Slot.{Slot}

-- the slots hold the siblings of a forest, under a parent and behind a sibling
abbrev pub Linked : (ℕ → Slot) → ℕ → ℕ → Forest → Type 0
Linked s parent previous empty = Unit {0}
Linked s parent previous (node n c kids later) =
    (s n ≡ cell parent kids (head later) previous c) × Linked s n 0 kids × Linked s parent n later

-- the forest that the links lead through from k on, with at most so many nodes on a way
abbrev pub forest_of : ℕ → (ℕ → Slot) → ℕ → Forest
forest_of zero s k = empty
forest_of (suc fuel) s zero = empty
forest_of (suc fuel) s (suc k) =
    node (suc k) (content_of (s (suc k)).payload) (forest_of fuel s (s (suc k)).first_child) (forest_of fuel s (s (suc k)).next)

-- the tree that the slots stand for
abbrev pub tree_of : List Slot → Tree
tree_of slots = record { nodes = forest_of (length slots) (slot_at slots) (slot_at slots 0).first_child; next = length slots }

-- the slots stand for the forest below the document
pub record Stands (slots : List Slot) (f : Forest) : Type 0 where
  pub linked : Linked (slot_at slots) 0 0 (rooted f)
  pub others : (k : ℕ) → count k (rooted f) ≡ 0 → slot_at slots k ≡ free
  pub tree : IsTree (record { nodes = f; next = length slots })
  pub fits : size f ≤ length slots

-- the slots stand for their tree, whose nodes are counted
pub record IsArena (slots : List Slot) (nodes : ℕ) : Type 0 where
  pub stands : Stands slots (tree_of slots).nodes
  pub counted : nodes ≡ size (tree_of slots).nodes

-- the children of the node p
abbrev pub kids_of : ℕ → Tree → Forest
kids_of p t = children (find p (rooted t.nodes))

-- the siblings from a place on, and the one before that place
abbrev pub from_place : ℕ → Forest → Forest
from_place zero f = f
from_place (suc i) empty = empty
from_place (suc i) (node n c kids later) = from_place i later

abbrev pub before_place : ℕ → ℕ → Forest → ℕ
before_place before zero f = before
before_place before (suc i) empty = before
before_place before (suc i) (node n c kids later) = before_place n i later
