-- How a tree changes.
use Rattle.std.specs.Prelude.{ℕ, zero, suc, Bool, ◌+◌, ◌==◌, cond, List, [], ◌∷◌, length, Option, unwrap_or}
use Rattle.std.specs.Str.{bytes_eq}
use Rattle.page_tree.specs.Forest.{Content, document, element, text, Forest, empty, node, Tree, rooted, size, find, children, content, tops, numbers, behind, name_of, attrs_of}

-- one list of siblings after another
abbrev pub joined : Forest → Forest → Forest
joined empty g = g
joined (node n c kids later) g = node n c kids (joined later g)

-- the forest with new nodes at a place among its tops, from 0
abbrev pub insert_at : ℕ → Forest → Forest → Forest
insert_at place new empty = new
insert_at zero new (node n c kids later) = joined new (node n c kids later)
insert_at (suc place) new (node n c kids later) = node n c kids (insert_at place new later)

-- the forest where the node p has these children
abbrev pub with_children : ℕ → Forest → Forest → Forest
with_children p g empty = empty
with_children p g (node n c kids later) = node n c (cond (p == n) g (with_children p g kids)) (with_children p g later)

-- the number behind k and all below it in document order: the one directly behind k, if k had no children
abbrev pub behind_subtree : ℕ → Forest → Option ℕ
behind_subtree k f = behind k (numbers (with_children k empty f))

-- the forest where the node k has this content
abbrev pub with_content : ℕ → Content → Forest → Forest
with_content k new empty = empty
with_content k new (node n c kids later) =
    node n (cond (k == n) new c) (with_content k new kids) (with_content k new later)

-- the forest without the node k and what is below it
abbrev pub without : ℕ → Forest → Forest
without k empty = empty
without k (node n c kids later) = cond (k == n) later (node n c (without k kids) (without k later))

-- the forest without the nodes that are named and what is below them
abbrev pub pruned : (ℕ → Bool) → Forest → Forest
pruned gone empty = empty
pruned gone (node n c kids later) = cond (gone n) (pruned gone later) (node n c (pruned gone kids) (pruned gone later))

-- the first node with what is below it
abbrev pub alone : Forest → Forest
alone empty = empty
alone (node n c kids later) = node n c kids empty

-- the node k with what is below it
abbrev pub subtree : ℕ → Forest → Forest
subtree k f = alone (find k f)

-- new nodes at a place among the children of p
abbrev pub grafted : ℕ → ℕ → Forest → Forest → Forest
grafted p place new f = with_children p (insert_at place new (children (find p f))) f

-- the tree with new nodes at a place among the children of p, numbered from `next` on
abbrev pub added : ℕ → ℕ → Forest → Tree → Tree
added p place new t = record { nodes = children (grafted p place new (rooted t.nodes)); next = t.next + size new }

-- how many children the node p has
abbrev pub children_of : ℕ → Tree → ℕ
children_of p t = length (tops (children (find p (rooted t.nodes))))

-- the tree with new nodes behind the last child of p
abbrev pub appended : ℕ → Forest → Tree → Tree
appended p new t = added p (children_of p t) new t

-- the tree without the node k and what is below it
abbrev pub detached : ℕ → Tree → Tree
detached k t = record { nodes = without k t.nodes; next = t.next }

-- the tree where the node n, with what is below it, stands at a place among the children of p; the place is counted
-- without n
abbrev pub moved : ℕ → ℕ → ℕ → Tree → Tree
moved n p place t =
    record { nodes = children (grafted p place (subtree n t.nodes) (rooted (detached n t).nodes)); next = t.next }

-- the tree where the node k has this content
abbrev pub rewritten : ℕ → Content → Tree → Tree
rewritten k new t = record { nodes = with_content k new t.nodes; next = t.next }

-- the tree where the Text node k has these bytes
abbrev pub with_text : ℕ → List ℕ → Tree → Tree
with_text k bytes t = rewritten k (text bytes) t

-- attributes where the one of this name has this value: it keeps its place, and a new one goes last
abbrev pub with_attr : List ℕ → List ℕ → List (List ℕ × List ℕ) → List (List ℕ × List ℕ)
with_attr name value [] = (name, value) ∷ []
with_attr name value (a ∷ attrs) = cond (bytes_eq a.0 name) ((name, value) ∷ attrs) (a ∷ with_attr name value attrs)

-- attributes without the one of this name
abbrev pub without_attr : List ℕ → List (List ℕ × List ℕ) → List (List ℕ × List ℕ)
without_attr name [] = []
without_attr name (a ∷ attrs) = cond (bytes_eq a.0 name) attrs (a ∷ without_attr name attrs)

-- what the node n is; the document where there is none
abbrev pub content_at : ℕ → Tree → Content
content_at n t = unwrap_or (content (find n (rooted t.nodes))) document

-- the tree where the element n has an attribute of this name and value
abbrev pub with_attr_set : ℕ → List ℕ → List ℕ → Tree → Tree
with_attr_set n name value t =
    rewritten n (element (name_of (content_at n t)) (with_attr name value (attrs_of (content_at n t)))) t

-- the tree where the element n has no attribute of this name
abbrev pub with_attr_dropped : ℕ → List ℕ → Tree → Tree
with_attr_dropped n name t =
    rewritten n (element (name_of (content_at n t)) (without_attr name (attrs_of (content_at n t)))) t
