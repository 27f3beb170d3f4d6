-- The nodes of a page, each with its number, its children and its later siblings, and how they are found.
use Rattle.std.specs.Prelude.{ℕ, suc, ◌+◌, ◌==◌, max, cond, List, [], ◌∷◌, ◌++◌, Option, Some, None}
use Rattle.std.specs.Str.{bytes_eq}

-- what a node is: an element has its name and its attributes, each a name with a value; texts are their bytes
pub data Content : Type 0 where
  document : Content
  element : List ℕ → List (List ℕ × List ℕ) → Content
  text : List ℕ → Content
  comment : List ℕ → Content

-- nodes that follow each other as siblings: the first one's number, content and children, and the later siblings
pub data Forest : Type 0 where
  empty : Forest
  node : ℕ → Content → Forest → Forest → Forest

-- what is below the document, and the number that the next node gets
pub record Tree : Type 0 where
  pub nodes : Forest
  pub next : ℕ

-- the tree with its document, which has number 0
abbrev pub rooted : Forest → Forest
rooted nodes = node 0 document nodes empty

-- 1 where the numbers are equal
abbrev pub same : ℕ → ℕ → ℕ
same k n = cond (k == n) 1 0

-- how often a number stands in a forest
abbrev pub count : ℕ → Forest → ℕ
count k empty = 0
count k (node n c kids later) = same k n + (count k kids + count k later)

-- how many nodes a forest has
abbrev pub size : Forest → ℕ
size empty = 0
size (node n c kids later) = suc (size kids + size later)

-- how many nodes stand below each other at most
abbrev pub height : Forest → ℕ
height empty = 0
height (node n c kids later) = max (suc (height kids)) (height later)

-- the numbers of all nodes in document order, each before those below it
abbrev pub numbers : Forest → List ℕ
numbers empty = []
numbers (node n c kids later) = n ∷ (numbers kids ++ numbers later)

-- the numbers of the siblings at the top
abbrev pub tops : Forest → List ℕ
tops empty = []
tops (node n c kids later) = n ∷ tops later

-- the first number, or 0 where there is none
abbrev pub head : Forest → ℕ
head empty = 0
head (node n c kids later) = n

-- the first number
abbrev pub first : Forest → Option ℕ
first empty = None
first (node n c kids later) = Some n

-- the first forest that is not empty
abbrev pub or_else : Forest → Forest → Forest
or_else empty g = g
or_else (node n c kids later) g = node n c kids later

-- the node with this number, with its children and its later siblings; empty where there is none. This is the finite map
-- from numbers to nodes.
abbrev pub find : ℕ → Forest → Forest
find k empty = empty
find k (node n c kids later) = cond (k == n) (node n c kids later) (or_else (find k kids) (find k later))

-- the children of the first node
abbrev pub children : Forest → Forest
children empty = empty
children (node n c kids later) = kids

-- the later siblings of the first node
abbrev pub later_of : Forest → Forest
later_of empty = empty
later_of (node n c kids later) = later

-- what the first node is
abbrev pub content : Forest → Option Content
content empty = None
content (node n c kids later) = Some c

-- the name of an element, else nothing
abbrev pub name_of : Content → List ℕ
name_of document = []
name_of (element name attrs) = name
name_of (text bytes) = []
name_of (comment bytes) = []

-- the bytes of a text or comment, else nothing
abbrev pub bytes_of : Content → List ℕ
bytes_of document = []
bytes_of (element name attrs) = []
bytes_of (text bytes) = bytes
bytes_of (comment bytes) = bytes

-- the attributes of an element, else none
abbrev pub attrs_of : Content → List (List ℕ × List ℕ)
attrs_of document = []
attrs_of (element name attrs) = attrs
attrs_of (text bytes) = []
attrs_of (comment bytes) = []

-- the value of the attribute of this name
abbrev pub value_at : List ℕ → List (List ℕ × List ℕ) → Option (List ℕ)
value_at name [] = None
value_at name (a ∷ attrs) = cond (bytes_eq a.0 name) (Some a.1) (value_at name attrs)

-- the first number that is there
abbrev pub or_some : Option ℕ → Option ℕ → Option ℕ
or_some None o = o
or_some (Some x) o = Some x

-- the number of the parent of k, where the siblings at the top are children of up
abbrev pub parent_in : ℕ → ℕ → Forest → Option ℕ
parent_in k up empty = None
parent_in k up (node n c kids later) = cond (k == n) (Some up) (or_some (parent_in k n kids) (parent_in k up later))

-- the number before k among its siblings, where `before` stands before the top and 0 for none
abbrev pub previous_in : ℕ → ℕ → Forest → Option ℕ
previous_in k before empty = None
previous_in k before (node n c kids later) =
    cond (k == n) (cond (before == 0) None (Some before)) (or_some (previous_in k 0 kids) (previous_in k n later))

-- the depth of k, where the siblings at the top have depth d
abbrev pub depth_in : ℕ → ℕ → Forest → Option ℕ
depth_in k d empty = None
depth_in k d (node n c kids later) = cond (k == n) (Some d) (or_some (depth_in k (suc d) kids) (depth_in k d later))

-- the first item of a list
abbrev pub first_in : List ℕ → Option ℕ
first_in [] = None
first_in (n ∷ ns) = Some n

-- the number directly behind k in a list
abbrev pub behind : ℕ → List ℕ → Option ℕ
behind k [] = None
behind k (n ∷ ns) = cond (k == n) (first_in ns) (behind k ns)
