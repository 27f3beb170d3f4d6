-- Each change of a tree, computed on a small page.
use Rattle.std.specs.Prelude.{◌≡◌, [], ◌∷◌, ◌==◌, ◌||◌, codes, Some, None, refl}
use Rattle.page_tree.specs.Forest.{element, text, comment, Forest, empty, node, Tree, rooted, numbers, find, children, tops}
use Rattle.page_tree.specs.Edits.{grafted, added, appended, without, pruned, subtree, detached, moved, with_text, with_content, behind_subtree, with_attr, without_attr, content_at, with_attr_set, with_attr_dropped}
use Rattle.page_tree.specs.Facts.{text_content}
use Rattle.page_tree.specs.Standings.{elements, standing}
use Rattle.page_tree.specs.Trees.{AreAttributes}
use Rattle.page_tree.specs.Example.{page, tree}

moved_by_hand : numbers (grafted 6 0 (node 3 (element (codes "b") []) (node 4 (text (codes "c")) empty empty) empty) (without 3 page)) ≡ 1 ∷ 2 ∷ 5 ∷ 6 ∷ 3 ∷ 4 ∷ []
moved_by_hand = refl

put_between : tops (children (find 1 (added 1 1 (node 7 (comment []) empty empty) tree).nodes)) ≡ 2 ∷ 7 ∷ 3 ∷ 5 ∷ []
put_between = refl

put_last : tops (children (find 1 (appended 1 (node 7 (comment []) empty empty) tree).nodes)) ≡ 2 ∷ 3 ∷ 5 ∷ 7 ∷ []
put_last = refl

next_number : (appended 1 (node 7 (comment []) empty empty) tree).next ≡ 8
next_number = refl

-- the tree of a change of page
abbrev changed : Forest → Tree
changed nodes = record { nodes = nodes; next = 7 }

text_set : with_text 2 (codes "x") tree ≡ changed (with_content 2 (text (codes "x")) page)
text_set = refl

text_content_of_p : text_content (with_text 2 (codes "x") tree) 1 ≡ codes "xc"
unfolding elements standing
text_content_of_p = refl

-- <b>c</b>
abbrev bold : Forest
bold = node 3 (element (codes "b") []) (node 4 (text (codes "c")) empty empty) empty

b_with_its_text : subtree 3 page ≡ bold
b_with_its_text = refl

no_subtree : subtree 9 page ≡ empty
no_subtree = refl

-- no number is given again
b_taken_out : (numbers (detached 3 tree).nodes ≡ 1 ∷ 2 ∷ 5 ∷ 6 ∷ []) × ((detached 3 tree).next ≡ 7)
b_taken_out = (refl, refl)

pruned_of_b : pruned (λ x. x == 3) page ≡ without 3 page
pruned_of_b = refl

-- what is below goes too, whether it is named or not
pruned_of_two : numbers (pruned (λ x. (x == 2) || (x == 3)) page) ≡ 1 ∷ 5 ∷ 6 ∷ []
pruned_of_two = refl

-- the place is counted without the node: behind the comment, which is at place 1 then
b_moved_back : tops (children (find 1 (moved 3 1 2 tree).nodes)) ≡ 2 ∷ 5 ∷ 3 ∷ []
b_moved_back = refl

b_moved_to_i : moved 3 6 0 tree ≡ changed (grafted 6 0 bold (without 3 page))
b_moved_to_i = refl

b_moved_to_the_document : numbers (moved 3 0 0 tree).nodes ≡ 3 ∷ 4 ∷ 1 ∷ 2 ∷ 5 ∷ 6 ∷ []
b_moved_to_the_document = refl

b_stays_where_it_is : moved 3 1 1 tree ≡ tree
b_stays_where_it_is = refl

-- behind a node and all below it

behind_b_and_c : behind_subtree 3 (rooted page) ≡ Some 5
behind_b_and_c = refl

behind_all_of_p : behind_subtree 1 (rooted page) ≡ Some 6
behind_all_of_p = refl

behind_all_of_i : behind_subtree 6 (rooted page) ≡ None
behind_all_of_i = refl

behind_the_document : behind_subtree 0 (rooted page) ≡ None
behind_the_document = refl

behind_no_node : behind_subtree 9 (rooted page) ≡ None
behind_no_node = refl

-- attributes

attr_of_b_set : content_at 3 (with_attr_set 3 (codes "id") (codes "x") tree) ≡ element (codes "b") ((codes "id", codes "x") ∷ [])
attr_of_b_set = refl

attr_of_p_dropped : content_at 1 (with_attr_dropped 1 (codes "id") tree) ≡ element (codes "p") ((codes "class", codes " ad  big") ∷ [])
attr_of_p_dropped = refl

attr_keeps_its_place : with_attr (codes "id") (codes "x") ((codes "id", codes "top") ∷ (codes "class", []) ∷ []) ≡ (codes "id", codes "x") ∷ (codes "class", []) ∷ []
attr_keeps_its_place = refl

new_attr_goes_last : with_attr (codes "id") (codes "x") ((codes "class", []) ∷ []) ≡ (codes "class", []) ∷ (codes "id", codes "x") ∷ []
new_attr_goes_last = refl

attr_goes : without_attr (codes "id") ((codes "id", codes "top") ∷ (codes "class", []) ∷ []) ≡ (codes "class", []) ∷ []
attr_goes = refl

attrs_are_distinct : AreAttributes ((codes "id", codes "top") ∷ (codes "class", []) ∷ [])
attrs_are_distinct = (refl, refl, (refl, refl, tt))
