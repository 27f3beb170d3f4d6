-- The slots and the refusals, computed on a small page.
use Rattle.std.specs.Prelude.{◌≡◌, ℕ, List, [], ◌∷◌, codes, Some, option_map, refl}
use Rattle.page_tree.specs.Edits.{moved}
use Rattle.page_tree.specs.Refusals.{place_refused, relink_refused}
use Rattle.page_tree.specs.Forest.{document, element, text, comment, Forest, empty, node, Tree}
use Rattle.dom_arena.specs.declared.kinds.NewNode.{NewNode}
use Rattle.dom_arena.specs.declared.kinds.NewNode.TheVariants.{Element as NewElement, Text as NewText}
use Rattle.dom_arena.specs.declared.refusals.DomError.TheVariants.{NoSuchNode, BadPlace, IntoItself}
use Rattle.dom_arena.specs.declared.table.Slot.{Slot}
use Rattle.dom_arena.specs.declared.fragments.Tail.{Tail}
use Rattle.dom_arena.specs.Slots.{free, slot_at, cell, with_link, with_back_link, placed, put, past, skipped_to, climbed}
use Rattle.dom_arena.specs.Hanging.{parent_behind, sibling_before, sibling_after, hung_in, tail_behind}
use Rattle.dom_arena.specs.Linked.{tree_of}
use Rattle.dom_arena.specs.Attributes.{place_of}
use Rattle.dom_arena.specs.Contents.{new_nodes}
use Rattle.dom_arena.specs.Parts.{part_from}
use Rattle.dom_arena.specs.Refusals.{error_of}

-- <p>ab</p><!--c-->, where number 3 is given and gone
abbrev ab : Forest
ab = node 2 (text (codes "ab")) empty empty

abbrev page : Forest
page = node 1 (element (codes "p") []) ab (node 4 (comment (codes "c")) empty empty)

abbrev tree : Tree
tree = record { nodes = page; next = 5 }

abbrev slots : List Slot
slots =
    cell 0 page 0 0 document ∷ cell 0 ab 4 0 (element (codes "p") []) ∷ cell 1 empty 0 0 (text (codes "ab")) ∷ free
    ∷ cell 0 empty 0 1 (comment (codes "c")) ∷ []

slots_are_the_page : tree_of slots ≡ tree
slots_are_the_page = refl

-- a node 4 behind the text, as the last child of p
linked_in : with_back_link 4 1 0 (with_link 4 1 2 slots) ≡
    cell 0 page 0 0 document ∷ record (cell 0 ab 4 0 (element (codes "p") [])) { last_child = 4 } ∷ cell 1 empty 4 0 (text (codes "ab")) ∷ free
    ∷ cell 0 empty 0 1 (comment (codes "c")) ∷ []
linked_in = refl

-- a node in the free slot 3, behind the text
put_in : put 3 1 2 0 (comment []) slots ≡
    cell 0 page 0 0 document ∷ record (cell 0 ab 4 0 (element (codes "p") [])) { last_child = 3 } ∷ cell 1 empty 3 0 (text (codes "ab"))
    ∷ cell 1 empty 0 2 (comment []) ∷ cell 0 empty 0 1 (comment (codes "c")) ∷ []
put_in = refl

steps_up : climbed (slot_at slots) 2 2 ≡ 0
steps_up = refl

-- the page without the text, whose slot leads past itself still
led_past : tree_of (past 2 slots) ≡ record { nodes = node 1 (element (codes "p") []) empty (node 4 (comment (codes "c")) empty empty); next = 5 }
led_past = refl

-- the comment in front of p
placed_first : tree_of (placed 4 0 0 1 (cell 0 empty 1 0 (comment (codes "c"))) (past 4 slots)) ≡ moved 4 0 0 tree
placed_first = refl

part_of_p : part_from slots 1 ≡ page
part_of_p = refl

text_skipped : skipped_to (slot_at slots) 2 2 ≡ 0
text_skipped = refl

-- the errors of refusals

no_node : option_map error_of (place_refused 3 9 tree) ≡ Some (NoSuchNode 3)
no_node = refl

into_itself : option_map error_of (relink_refused 1 1 0 tree) ≡ Some (IntoItself 1)
into_itself = refl

past_the_children : option_map error_of (relink_refused 1 0 2 tree) ≡ Some (BadPlace 2)
past_the_children = refl

-- fragments

-- <b>x</b>
abbrev part : List (ℕ × NewNode)
part = (0, NewElement (codes "b") []) ∷ (1, NewText (codes "x")) ∷ []

nodes_of_a_part : new_nodes part ≡ (0, element (codes "b") []) ∷ (1, text (codes "x")) ∷ []
nodes_of_a_part = refl

-- behind p, which stands before the comment 4, the next node of a fragment gets the slot 3
abbrev tail : Tail
tail = record { inner = 1; level = 1; top = 1 }

in_p : parent_behind tail 1 slots ≡ 1
in_p = refl

behind_p : parent_behind tail 0 slots ≡ 0
behind_p = refl

after_the_text : sibling_before tail 1 slots ≡ 2
after_the_text = refl

after_p : sibling_before tail 0 slots ≡ 1
after_p = refl

before_the_comment : sibling_after 4 0 ≡ 4
before_the_comment = refl

last_in_p : sibling_after 4 1 ≡ 0
last_in_p = refl

hung_in_p : hung_in tail 4 3 1 (comment []) slots ≡ put 3 1 2 0 (comment []) slots
hung_in_p = refl

hung_behind_p : hung_in tail 4 3 0 (comment []) slots ≡ put 3 0 1 4 (comment []) slots
hung_behind_p = refl

nothing_stands_in_a_comment : tail_behind tail 1 3 1 (comment []) ≡ tail
nothing_stands_in_a_comment = refl

element_takes_the_next : tail_behind tail 0 3 0 (element (codes "b") []) ≡ record { inner = 3; level = 1; top = 3 }
element_takes_the_next = refl

-- places of attributes

place_of_class : place_of (codes "class") ((codes "id", codes "top") ∷ (codes "class", []) ∷ []) ≡ 1
place_of_class = refl

place_of_none : place_of (codes "lang") ((codes "id", codes "top") ∷ []) ≡ 1
place_of_none = refl
