-- The walks of a tree, its elements and what stands around them, computed on a small page.
use Rattle.std.specs.Prelude.{◌≡◌, [], ◌∷◌, codes, Some, None, refl, true}
use Rattle.page_tree.specs.Forest.{element, text, comment, Forest, empty, node, Tree, rooted, numbers, find, children, later_of, first, parent_in, previous_in, depth_in, behind, size, height}
use Rattle.page_tree.specs.Standings.{all, elements, standing, above, before, after, inner}
use Rattle.page_tree.specs.Facts.{id, class_list, text_content, is_blank}
use Rattle.page_tree.specs.Directions.{reached, numbers_of, to_child, to_below, to_parent, to_above, to_next, to_previous, to_after, to_before}

-- <p id="top" class=" ad  big">ab<b>c</b><!--d--></p><i></i>
abbrev pub page : Forest
page =
    node 1 (element (codes "p") ((codes "id", codes "top") ∷ (codes "class", codes " ad  big") ∷ []))
    (node 2 (text (codes "ab")) empty
    (node 3 (element (codes "b") []) (node 4 (text (codes "c")) empty empty)
    (node 5 (comment (codes "d")) empty empty)))
    (node 6 (element (codes "i") []) empty empty)

abbrev pub tree : Tree
tree = record { nodes = page; next = 7 }

-- the walks, over nodes of all kinds

numbers_of_page : numbers page ≡ 1 ∷ 2 ∷ 3 ∷ 4 ∷ 5 ∷ 6 ∷ []
numbers_of_page = refl

parent_of_c : parent_in 4 0 page ≡ Some 3
parent_of_c = refl

parent_of_p : parent_in 1 0 page ≡ Some 0
parent_of_p = refl

first_child_of_p : first (children (find 1 page)) ≡ Some 2
first_child_of_p = refl

next_of_ab : first (later_of (find 2 page)) ≡ Some 3
next_of_ab = refl

previous_of_b : previous_in 3 0 page ≡ Some 2
previous_of_b = refl

no_previous_of_ab : previous_in 2 0 page ≡ None
no_previous_of_ab = refl

behind_c : behind 4 (numbers (rooted page)) ≡ Some 5
behind_c = refl

behind_the_last : behind 6 (numbers (rooted page)) ≡ None
behind_the_last = refl

depth_of_c : depth_in 4 0 (rooted page) ≡ Some 3
depth_of_c = refl

size_and_height : (size page ≡ 6) × (height page ≡ 3)
size_and_height = (refl, refl)

-- the elements, and what stands around them

all_elements : all tree ≡ 1 ∷ 3 ∷ 6 ∷ []
unfolding elements
all_elements = refl

above_b : above tree 3 ≡ 1 ∷ []
unfolding elements standing
above_b = refl

before_i : numbers_of (before tree 6) ≡ 1 ∷ []
unfolding elements standing
before_i = refl

after_p : numbers_of (after tree 1) ≡ 6 ∷ []
unfolding elements standing
after_p = refl

-- the directions; 0 is the document

children_of_the_document : reached tree to_child 0 ≡ 1 ∷ 6 ∷ []
unfolding elements standing
children_of_the_document = refl

below_the_document : reached tree to_below 0 ≡ 1 ∷ 3 ∷ 6 ∷ []
unfolding elements standing
below_the_document = refl

parent_of_i : reached tree to_parent 6 ≡ 0 ∷ []
unfolding elements standing
parent_of_i = refl

above_b_with_the_document : reached tree to_above 3 ≡ 0 ∷ 1 ∷ []
unfolding elements standing
above_b_with_the_document = refl

next_of_p : reached tree to_next 1 ≡ 6 ∷ []
unfolding elements standing
next_of_p = refl

previous_of_i : reached tree to_previous 6 ≡ 1 ∷ []
unfolding elements standing
previous_of_i = refl

all_after_p : reached tree to_after 1 ≡ 6 ∷ []
unfolding elements standing
all_after_p = refl

all_before_i : reached tree to_before 6 ≡ 1 ∷ []
unfolding elements standing
all_before_i = refl

-- what the page says of elements

id_of_p : id tree 1 ≡ Some (codes "top")
unfolding elements standing
id_of_p = refl

classes_of_p : class_list tree 1 ≡ codes "ad" ∷ codes "big" ∷ []
unfolding elements standing
classes_of_p = refl

no_classes_of_i : class_list tree 6 ≡ []
unfolding elements standing
no_classes_of_i = refl

text_of_p : text_content tree 1 ≡ codes "abc"
unfolding elements standing
text_of_p = refl

blank_i : is_blank (inner tree 6) ≡ true
unfolding elements standing
blank_i = refl
