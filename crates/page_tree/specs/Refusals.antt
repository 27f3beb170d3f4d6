-- When a change of a tree is refused, and why: by the first cause, in the order that each definition has.
use Rattle.std.specs.Prelude.{ℕ, ◌+◌, ◌==◌, nat_lt, cond, List, Option, Some, None, option_map}
use Rattle.std.specs.Option.{option_or}
use Rattle.page_tree.specs.Forest.{Content, document, element, text, comment, Forest, empty, node, Tree, rooted, count, size, height, find, depth_in}
use Rattle.page_tree.specs.Edits.{children_of, detached, subtree}
use Rattle.page_tree.specs.Fragments.{Limit, TooDeep as DepthPassed, TooManyNodes as NumberPassed, limit_passed}
use Rattle.page_tree.specs.declared.TheConstants.{DEPTH_LIMIT}

-- why a change is refused: there is no node of this number, or it is no element, or no text; there is no such place among
-- the children; a node would stand below itself; the document stays as it is; a limit of trees would be passed
pub data Refusal : Type 0 where
  NoSuchNode : ℕ → Refusal
  NotElement : ℕ → Refusal
  NotText : ℕ → Refusal
  BadPlace : ℕ → Refusal
  IntoItself : ℕ → Refusal
  IsDocument : Refusal
  TooDeep : Refusal
  TooManyNodes : Refusal

-- the refusal by a limit that is passed
abbrev pub past_limit : Limit → Refusal
past_limit DepthPassed = TooDeep
past_limit NumberPassed = TooManyNodes

-- ---- by what was found under the number n

abbrev pub node_among : ℕ → Forest → Option Refusal
node_among n empty = Some (NoSuchNode n)
node_among n (node m c kids later) = None

abbrev pub element_among : ℕ → Forest → Option Refusal
element_among n empty = Some (NoSuchNode n)
element_among n (node m document kids later) = Some (NotElement n)
element_among n (node m (element name attrs) kids later) = None
element_among n (node m (text bytes) kids later) = Some (NotElement n)
element_among n (node m (comment bytes) kids later) = Some (NotElement n)

abbrev pub text_among : ℕ → Forest → Option Refusal
text_among n empty = Some (NoSuchNode n)
text_among n (node m document kids later) = Some (NotText n)
text_among n (node m (element name attrs) kids later) = Some (NotText n)
text_among n (node m (text bytes) kids later) = None
text_among n (node m (comment bytes) kids later) = Some (NotText n)

-- the document may have children, as an element may
abbrev pub parent_among : ℕ → Forest → Option Refusal
parent_among n empty = Some (NoSuchNode n)
parent_among n (node m document kids later) = None
parent_among n (node m (element name attrs) kids later) = None
parent_among n (node m (text bytes) kids later) = Some (NotElement n)
parent_among n (node m (comment bytes) kids later) = Some (NotElement n)

-- ---- the causes

-- n is the document
abbrev pub document_refused : ℕ → Option Refusal
document_refused n = cond (n == 0) (Some IsDocument) None

-- there is no node p, or it has no children
abbrev pub parent_refused : ℕ → Tree → Option Refusal
parent_refused p t = parent_among p (find p (rooted t.nodes))

-- the place is past so many children
abbrev pub place_past : ℕ → ℕ → Option Refusal
place_past place children = cond (nat_lt children place) (Some (BadPlace place)) None

-- p is n, or below it
abbrev pub into_itself : ℕ → ℕ → Tree → Option Refusal
into_itself n p t = cond (count p (subtree n t.nodes) == 0) None (Some (IntoItself n))

-- nodes of this height would stand too deep below one of this depth
abbrev pub too_deep : Option ℕ → ℕ → Option Refusal
too_deep None height = None
too_deep (Some depth) height = cond (nat_lt DEPTH_LIMIT (depth + height)) (Some TooDeep) None

-- the first of these nodes that passes a limit, below a node of this depth where there are so many
abbrev pub limits_refused : Option ℕ → ℕ → List (ℕ × Content) → Option Refusal
limits_refused None live part = None
limits_refused (Some depth) live part = option_map past_limit (limit_passed depth live part)

-- ---- the changes

-- an attribute of n set or dropped
abbrev pub attr_refused : ℕ → Tree → Option Refusal
attr_refused n t = option_or (document_refused n) (element_among n (find n (rooted t.nodes)))

-- the bytes of the text n set
abbrev pub text_refused : ℕ → Tree → Option Refusal
text_refused n t = option_or (document_refused n) (text_among n (find n (rooted t.nodes)))

-- n taken out with what is below it
abbrev pub detach_refused : ℕ → Tree → Option Refusal
detach_refused n t = option_or (document_refused n) (node_among n (find n (rooted t.nodes)))

-- something put at a place among the children of p, limits aside
abbrev pub place_refused : ℕ → ℕ → Tree → Option Refusal
place_refused p place t = option_or (parent_refused p t) (place_past place (children_of p t))

-- a fragment put at a place among the children of p
abbrev pub graft_refused : ℕ → ℕ → List (ℕ × Content) → Tree → Option Refusal
graft_refused p place part t =
    option_or (place_refused p place t) (limits_refused (depth_in p 0 (rooted t.nodes)) (size t.nodes) part)

-- n moved with what is below it to a place among the children of p, which is counted without n
abbrev pub relink_refused : ℕ → ℕ → ℕ → Tree → Option Refusal
relink_refused n p place t =
    option_or (detach_refused n t)
    (option_or (parent_refused p t)
    (option_or (into_itself n p t)
    (option_or (place_past place (children_of p (detached n t)))
    (too_deep (depth_in p 0 (rooted t.nodes)) (height (subtree n t.nodes))))))
