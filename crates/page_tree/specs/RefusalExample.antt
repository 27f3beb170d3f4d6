-- The refusals of each change, computed: each cause before the next.
use Rattle.std.specs.Prelude.{◌≡◌, ℕ, zero, suc, [], ◌∷◌, codes, Some, None, refl}
use Rattle.page_tree.specs.Forest.{Content, element, text, comment, Forest, empty, node, Tree}
use Rattle.page_tree.specs.Refusals.{NoSuchNode, NotElement, NotText, BadPlace, IntoItself, IsDocument, TooDeep, TooManyNodes, too_deep, limits_refused, attr_refused, text_refused, detach_refused, place_refused, graft_refused, relink_refused}

abbrev bold : Content
bold = element (codes "b") []

-- <b>x<b></b></b><!---->, where number 4 is given and gone
abbrev tree : Tree
tree = record { nodes = node 1 bold (node 2 (text (codes "x")) empty (node 3 bold empty empty)) (node 5 (comment []) empty empty); next = 6 }

-- ---- attributes and texts

attr_of_the_document : attr_refused 0 tree ≡ Some IsDocument
attr_of_the_document = refl

attr_of_no_node : attr_refused 4 tree ≡ Some (NoSuchNode 4)
attr_of_no_node = refl

attr_of_a_text : attr_refused 2 tree ≡ Some (NotElement 2)
attr_of_a_text = refl

attr_of_a_comment : attr_refused 5 tree ≡ Some (NotElement 5)
attr_of_a_comment = refl

attr_of_an_element : attr_refused 3 tree ≡ None
attr_of_an_element = refl

text_of_the_document : text_refused 0 tree ≡ Some IsDocument
text_of_the_document = refl

text_of_no_node : text_refused 4 tree ≡ Some (NoSuchNode 4)
text_of_no_node = refl

text_of_an_element : text_refused 1 tree ≡ Some (NotText 1)
text_of_an_element = refl

text_of_a_comment : text_refused 5 tree ≡ Some (NotText 5)
text_of_a_comment = refl

text_of_a_text : text_refused 2 tree ≡ None
text_of_a_text = refl

-- ---- nodes taken out

document_stays : detach_refused 0 tree ≡ Some IsDocument
document_stays = refl

nothing_there : detach_refused 4 tree ≡ Some (NoSuchNode 4)
nothing_there = refl

comment_goes : detach_refused 5 tree ≡ None
comment_goes = refl

-- ---- nodes put in

no_parent : place_refused 4 9 tree ≡ Some (NoSuchNode 4)
no_parent = refl

no_children_of_texts : place_refused 2 9 tree ≡ Some (NotElement 2)
no_children_of_texts = refl

no_children_of_comments : place_refused 5 0 tree ≡ Some (NotElement 5)
no_children_of_comments = refl

past_the_children : place_refused 1 3 tree ≡ Some (BadPlace 3)
past_the_children = refl

behind_the_children : place_refused 1 2 tree ≡ None
behind_the_children = refl

document_has_children : place_refused 0 2 tree ≡ None
document_has_children = refl

place_is_before_limits : graft_refused 0 3 ((512, bold) ∷ []) tree ≡ Some (BadPlace 3)
place_is_before_limits = refl

too_deep_a_part : graft_refused 3 0 ((510, bold) ∷ []) tree ≡ Some TooDeep
too_deep_a_part = refl

one_too_many : limits_refused (Some 511) 1000000 ((0, bold) ∷ []) ≡ Some TooManyNodes
one_too_many = refl

put_in : graft_refused 0 1 ((0, bold) ∷ (1, text []) ∷ []) tree ≡ None
put_in = refl

-- ---- nodes moved

document_is_not_moved : relink_refused 0 4 9 tree ≡ Some IsDocument
document_is_not_moved = refl

nothing_to_move : relink_refused 4 9 9 tree ≡ Some (NoSuchNode 4)
nothing_to_move = refl

moved_nowhere : relink_refused 1 4 9 tree ≡ Some (NoSuchNode 4)
moved_nowhere = refl

-- a text below the node itself is no element first
moved_to_a_text : relink_refused 1 2 9 tree ≡ Some (NotElement 2)
moved_to_a_text = refl

moved_to_itself : relink_refused 1 1 9 tree ≡ Some (IntoItself 1)
moved_to_itself = refl

moved_below_itself : relink_refused 1 3 9 tree ≡ Some (IntoItself 1)
moved_below_itself = refl

-- the document has one child without node 1
moved_past_the_others : relink_refused 1 0 2 tree ≡ Some (BadPlace 2)
moved_past_the_others = refl

moved_behind_the_others : relink_refused 1 0 1 tree ≡ None
moved_behind_the_others = refl

moved_below_its_parent : relink_refused 3 0 2 tree ≡ None
moved_below_its_parent = refl

-- elements in each other, the last one with number 1
abbrev tower : ℕ → Forest
tower zero = empty
tower (suc n) = node (suc n) bold (tower n) empty

-- a node at depth 511, and behind all of it an element with a text
abbrev tall : Tree
tall = record { nodes = node 600 bold (node 601 (text []) empty empty) (tower 511); next = 602 }

lowest_place : too_deep (Some 511) 1 ≡ None
lowest_place = refl

moved_too_deep : relink_refused 600 1 0 tall ≡ Some TooDeep
moved_too_deep = refl

text_moved_down : relink_refused 601 1 0 tall ≡ None
text_moved_down = refl

place_is_before_depth : relink_refused 600 1 1 tall ≡ Some (BadPlace 1)
place_is_before_depth = refl
