-- Fragments, computed.
use Rattle.std.specs.Prelude.{◌≡◌, ℕ, List, [], ◌∷◌, codes, Some, None, refl}
use Rattle.page_tree.specs.Forest.{Content, element, text, comment, empty, node}
use Rattle.page_tree.specs.Fragments.{fragment_nodes, with_fragment, limit_passed, TooDeep, TooManyNodes}

abbrev bold : Content
bold = element (codes "b") []

-- <b>x<b></b></b><!---->
abbrev part : List (ℕ × Content)
part = (0, bold) ∷ (1, text (codes "x")) ∷ (1, bold) ∷ (0, comment []) ∷ []

nodes_of_a_fragment : fragment_nodes 5 part ≡
    node 5 bold (node 6 (text (codes "x")) empty (node 7 bold empty empty)) (node 8 (comment []) empty empty)
nodes_of_a_fragment = refl

-- between the two children of node 1
between : with_fragment 1 1 part (record { nodes = node 1 bold (node 2 bold empty (node 3 bold empty empty)) empty; next = 5 }) ≡ record {
  nodes = node 1 bold
      (node 2 bold empty
      (node 5 bold (node 6 (text (codes "x")) empty (node 7 bold empty empty))
      (node 8 (comment []) empty
      (node 3 bold empty empty)))) empty;
  next = 9;
}
between = refl

within_limits : limit_passed 510 999996 part ≡ None
within_limits = refl

too_deep : limit_passed 511 0 part ≡ Some TooDeep
too_deep = refl

-- the fourth node is one too many
too_many : limit_passed 0 999997 part ≡ Some TooManyNodes
too_many = refl

-- the second node is the first that passes a limit, and it passes both
both_at_one_node : limit_passed 511 999999 part ≡ Some TooDeep
both_at_one_node = refl

-- the first node is one too many, and only the second is too deep
first_node_decides : limit_passed 511 1000000 part ≡ Some TooManyNodes
first_node_decides = refl

no_nodes : limit_passed 512 1000000 [] ≡ None
no_nodes = refl
