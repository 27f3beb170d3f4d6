-- The slots of the arena.
use Rattle.std.specs.Prelude.{◌≡◌, ℕ, zero, suc, ◌==◌, cond, List, Option, Some, None, slice_index_or, slice_set}
use Rattle.page_tree.specs.Forest.{Content, Forest, empty, node, head}
use Rattle.dom_arena.specs.Contents.{payload_of}
use Rattle.dom_arena.specs.declared.kinds.Payload.{Payload}
use Rattle.dom_arena.specs.declared.kinds.Payload.TheVariants.{Free}
use Rattle.dom_arena.specs.declared.table.Slot.{Slot}

-- a slot of no node
abbrev pub free : Slot
free = record { parent = 0; first_child = 0; last_child = 0; next = 0; previous = 0; payload = Free }

-- the slot of a number, free past the last one
abbrev pub slot_at : List Slot → ℕ → Slot
slot_at slots k = slice_index_or slots k free

-- a node has this number
abbrev pub IsUsed : List Slot → ℕ → Type 0
IsUsed slots k = (slot_at slots k).payload ≡ Free → ⊥

-- a link, 0 standing for none
abbrev pub number_of : ℕ → Option ℕ
number_of k = cond (k == 0) None (Some k)

-- the last number among siblings that stand behind another, which is the last where there are none
abbrev pub last_behind : ℕ → Forest → ℕ
last_behind before empty = before
last_behind before (node n c kids later) = last_behind n later

-- the last number among siblings, or 0 where there is none
abbrev pub last : Forest → ℕ
last f = last_behind 0 f

-- the slot of a node: its parent, its children, its next and its previous sibling, and what it is
abbrev pub cell : ℕ → Forest → ℕ → ℕ → Content → Slot
cell parent kids next previous c = record {
  parent = parent;
  first_child = head kids;
  last_child = last kids;
  next = next;
  previous = previous;
  payload = payload_of c;
}

-- the slots where that of a number holds this
abbrev pub with_payload : ℕ → Payload → List Slot → List Slot
with_payload n payload slots = slice_set slots n (record (slot_at slots n) { payload = payload })

-- the slots with a link to a node n from the sibling before it, or from its parent where it is the first child
abbrev pub with_link : ℕ → ℕ → ℕ → List Slot → List Slot
with_link n parent before slots =
    cond (before == 0)
    (slice_set slots parent (record (slot_at slots parent) { first_child = n }))
    (slice_set slots before (record (slot_at slots before) { next = n }))

-- the slots with a link to a node n from the sibling behind it, or from its parent where it is the last child
abbrev pub with_back_link : ℕ → ℕ → ℕ → List Slot → List Slot
with_back_link n parent after slots =
    cond (after == 0)
    (slice_set slots parent (record (slot_at slots parent) { last_child = n }))
    (slice_set slots after (record (slot_at slots after) { previous = n }))

-- the slots where that of a node n holds this and the siblings beside a place, 0 standing for none, or their parent lead to n
abbrev pub placed : ℕ → ℕ → ℕ → ℕ → Slot → List Slot → List Slot
placed n parent before after slot slots = with_back_link n parent after (with_link n parent before (slice_set slots n slot))

-- the slots with a new node n between two siblings, 0 standing for none
abbrev pub put : ℕ → ℕ → ℕ → ℕ → Content → List Slot → List Slot
put n parent before after c slots = placed n parent before after (cell parent empty after before c) slots

-- the slots where the siblings beside the node k, or its parent, lead past it
abbrev pub past : ℕ → List Slot → List Slot
past k slots =
    with_back_link (slot_at slots k).previous (slot_at slots k).parent (slot_at slots k).next
    (with_link (slot_at slots k).next (slot_at slots k).parent (slot_at slots k).previous slots)

-- a number, or where it is the one to be skipped that of the next sibling
abbrev pub skipped_to : (ℕ → Slot) → ℕ → ℕ → ℕ
skipped_to s skipped k = cond (k == skipped) (s k).next k

-- the number so many steps up from k
abbrev pub climbed : (ℕ → Slot) → ℕ → ℕ → ℕ
climbed s zero k = k
climbed s (suc steps) k = climbed s steps (s k).parent
