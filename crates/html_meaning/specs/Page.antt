-- The tree of a page, by the places of its tokens.
use Rattle.std.specs.Prelude.{ℕ, suc, Bool, false, cond, not, ◌&&◌, ◌||◌, List, [], ◌∷◌, ◌++◌, map, filter, length, Option, Some, None}
use Rattle.std.specs.Bool.{nat_lt, nat_le}
use Rattle.std.specs.List.{list_any, list_all}
use Rattle.std.specs.Str.{bytes_eq, str_to_ascii_lowercase}
use Rattle.page_tree.specs.Forest.{Content, element, text, comment, empty, node, Tree}
use Rattle.page_tree.specs.Edits.{appended}
use Rattle.html_meaning.specs.Bytes.{is_among}
use Rattle.html_meaning.specs.Elements.{implied_ends, has_content}
use Rattle.html_meaning.specs.Tokens.{Piece, Start, End, Chars, Comment, Doctype, Cut, Token, attribute_pairs, tokens}
use Rattle.html_meaning.specs.References.{resolved}

-- what a token does to the tree: it opens an element of this name, with content behind it or without, or it ends one of
-- this name, or it is another node, or nothing
pub data Role : Type 0 where
  Opens : List ℕ → Bool → Role
  Ends : List ℕ → Role
  Leaf : Role
  Nothing : Role

abbrev pub role_of : Piece → Role
role_of (Start name attrs self_closing) = Opens (str_to_ascii_lowercase name) (has_content (str_to_ascii_lowercase name) self_closing)
role_of (End name) = Ends (str_to_ascii_lowercase name)
role_of (Chars bytes raw) = Leaf
role_of (Comment bytes) = Leaf
role_of Doctype = Nothing
role_of Cut = Nothing

-- an element that is open: the number of its node, and its name in lower case
pub record OpenElement : Type 0 where
  pub number : ℕ
  pub name : List ℕ

-- whether a token closes the element `o`, where `elements` are those open before it, from the outermost to the innermost.
-- A start tag closes it where it and each later one is among the implied ends of that tag; an end tag where some element has
-- its name, and `o` isn't before the last of these.
abbrev pub closes : Role → List OpenElement → OpenElement → Bool
closes (Opens name holds) elements o = list_all (λ k. nat_lt k.number o.number || is_among k.name (implied_ends name)) elements
closes (Ends name) elements o =
    list_any (λ k. bytes_eq k.name name) elements
    && list_all (λ k. not (bytes_eq k.name name) || nat_le k.number o.number) elements
closes Leaf elements o = false
closes Nothing elements o = false

-- the open elements that a token doesn't close
abbrev pub left_by : Role → List OpenElement → List OpenElement
left_by role elements = filter (λ o. not (closes role elements o)) elements

-- the element that a token opens, if its node has this number
abbrev pub opened : ℕ → Role → List OpenElement
opened number (Opens name holds) = cond holds (record { number = number; name = name } ∷ []) []
opened number (Ends name) = []
opened number Leaf = []
opened number Nothing = []

-- the number of the innermost open element, or else `outer`
abbrev pub innermost : ℕ → List OpenElement → ℕ
innermost outer [] = outer
innermost outer (o ∷ os) = innermost o.number os

-- of attributes with equal names the first, but for those whose name was seen before
abbrev pub firsts : List (List ℕ) → List (List ℕ × List ℕ) → List (List ℕ × List ℕ)
firsts seen [] = []
firsts seen (a ∷ attrs) = cond (is_among a.0 seen) (firsts seen attrs) (a ∷ firsts (a.0 ∷ seen) attrs)

-- the attributes of an element, from the text between its tag's name and `>`: names in lower case, references resolved
abbrev pub element_attributes : List ℕ → List (List ℕ × List ℕ)
element_attributes attrs = firsts [] (map (λ a. (str_to_ascii_lowercase a.0, resolved 0 a.1)) (attribute_pairs attrs))

-- the node that a token makes
abbrev pub content_of : Piece → Option Content
content_of (Start name attrs self_closing) = Some (element (str_to_ascii_lowercase name) (element_attributes attrs))
content_of (End name) = None
content_of (Chars bytes raw) = Some (text (cond raw bytes (resolved 0 bytes)))
content_of (Comment bytes) = Some (comment bytes)
content_of Doctype = None
content_of Cut = None

-- a node of a page: what it is, the number of its parent, and how many elements it stands in
pub record PageNode : Type 0 where
  pub content : Content
  pub parent : ℕ
  pub depth : ℕ

-- the node that a token makes under these open elements, before the others
abbrev pub with_node : Option Content → List OpenElement → List PageNode → List PageNode
with_node None under nodes = nodes
with_node (Some c) under nodes = record { content = c; parent = innermost 0 under; depth = length under } ∷ nodes

-- the number of the next node
abbrev pub number_behind : Option Content → ℕ → ℕ
number_behind None number = number
number_behind (Some c) number = suc number

-- the nodes of the pieces, numbered from `number` on, where `elements` are open before them. The parent of a node is the
-- innermost open element that its token doesn't close, or the document.
abbrev pub nodes_from : ℕ → List OpenElement → List Piece → List PageNode
nodes_from number elements [] = []
nodes_from number elements (p ∷ pieces) =
    let under = left_by (role_of p) elements in
    with_node (content_of p) under
    (nodes_from (number_behind (content_of p) number) (under ++ opened number (role_of p)) pieces)

-- the nodes of a source, in order, numbered from 1
abbrev pub nodes_of : List ℕ → List PageNode
nodes_of source = nodes_from 1 [] (map (λ (t : Token). t.piece) (tokens source))

-- a node by how many elements it stands in, and what it is
abbrev pub by_depth : PageNode → ℕ × Content
by_depth n = (n.depth, n.content)

-- the nodes of a source as a fragment has them: in order, each with how many elements it stands in
abbrev pub fragment : List ℕ → List (ℕ × Content)
fragment source = map by_depth (nodes_of source)

-- the nodes put into a tree in order, each as the last child of its parent
abbrev pub with_nodes : Tree → List PageNode → Tree
with_nodes t [] = t
with_nodes t (n ∷ nodes) = with_nodes (appended n.parent (node t.next n.content empty empty) t) nodes

-- the tree of a page
abbrev pub page : List ℕ → Tree
page source = with_nodes (record { nodes = empty; next = 1 }) (nodes_of source)
