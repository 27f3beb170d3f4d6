-- Fragments: nodes in document order, each with its depth below the place where they will stand.
use Rattle.std.specs.Prelude.{ℕ, zero, suc, ◌+◌, ◌≤◌, List, [], ◌∷◌, nat_lt, nat_le, Option, Some, None, if◌then◌else◌}
use Rattle.page_tree.specs.Forest.{Content, document, element, text, comment, Forest, empty, node, Tree}
use Rattle.page_tree.specs.Edits.{joined, added}
use Rattle.page_tree.specs.Trees.{IsOrdinary}
use Rattle.page_tree.specs.declared.TheConstants.{NODE_LIMIT, DEPTH_LIMIT}

-- new nodes behind the last ones, this many levels down along the last nodes
abbrev pub hung : ℕ → Forest → Forest → Forest
hung zero new f = joined f new
hung (suc depth) new empty = new
hung (suc depth) new (node n c kids empty) = node n c (hung depth new kids) empty
hung (suc depth) new (node n c kids (node m d inner later)) = node n c kids (hung (suc depth) new (node m d inner later))

-- the forest with these nodes, each a depth and a content, put in one after another: numbered from `number` on, each
-- behind the last nodes of its depth
abbrev pub with_nodes_at : ℕ → List (ℕ × Content) → Forest → Forest
with_nodes_at number [] f = f
with_nodes_at number (n ∷ part) f = with_nodes_at (suc number) part (hung n.0 (node number n.1 empty empty) f)

-- the nodes that a fragment stands for, numbered from `number` on
abbrev pub fragment_nodes : ℕ → List (ℕ × Content) → Forest
fragment_nodes number part = with_nodes_at number part empty

-- the tree with a fragment at a place among the children of p, numbered in document order from `next` on
abbrev pub with_fragment : ℕ → ℕ → List (ℕ × Content) → Tree → Tree
with_fragment p place part t = added p place (fragment_nodes t.next part) t

-- how deep a node may stand behind one of this depth: one deeper in an element, else at most as deep
abbrev pub deepest_behind : ℕ → Content → ℕ
deepest_behind depth document = depth
deepest_behind depth (element name attrs) = suc depth
deepest_behind depth (text bytes) = depth
deepest_behind depth (comment bytes) = depth

-- nodes of which the first stands no deeper than `most`, and each other one no deeper than it may behind the one before
abbrev pub AreNodesFrom : ℕ → List (ℕ × Content) → Type 0
AreNodesFrom most [] = Unit {0}
AreNodesFrom most (n ∷ part) = (n.0 ≤ most) × IsOrdinary n.1 × AreNodesFrom (deepest_behind n.0 n.1) part

-- what every fragment keeps: its first node has depth 0, each later one at most that of the node before it, or one more
-- where that is an element; names are kept as those of a tree
abbrev pub IsFragment : List (ℕ × Content) → Type 0
IsFragment part = AreNodesFrom 0 part

-- a limit of trees
pub data Limit : Type 0 where
  TooDeep : Limit
  TooManyNodes : Limit

-- the limit that the first of these nodes passes that passes one, put below a node of this depth into a tree of `live`
-- nodes without the document; both at one node count as too deep
abbrev pub limit_passed : ℕ → ℕ → List (ℕ × Content) → Option Limit
limit_passed depth live [] = None
limit_passed depth live (n ∷ part) =
    if nat_lt DEPTH_LIMIT (depth + suc n.0) then Some TooDeep else
    (if nat_le NODE_LIMIT live then Some TooManyNodes else limit_passed depth (suc live) part)
