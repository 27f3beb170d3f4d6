-- What every tree keeps.
use Rattle.std.specs.Prelude.{◌≡◌, ℕ, ◌≤◌, List, [], ◌∷◌, None}
use Rattle.std.specs.Str.{str_to_ascii_lowercase}
use Rattle.page_tree.specs.Forest.{Content, document, element, text, comment, Forest, empty, node, Tree, rooted, count, size, height, value_at}
use Rattle.page_tree.specs.declared.TheConstants.{NODE_LIMIT, DEPTH_LIMIT}

-- a name is kept in lower case
abbrev pub IsLowerCase : List ℕ → Type 0
IsLowerCase name = str_to_ascii_lowercase name ≡ name

-- the names of attributes are in lower case and distinct
abbrev pub AreAttributes : List (List ℕ × List ℕ) → Type 0
AreAttributes [] = Unit {0}
AreAttributes (a ∷ attrs) = IsLowerCase a.0 × (value_at a.0 attrs ≡ None) × AreAttributes attrs

-- what may stand below the document: it is no document, and its names are kept so
abbrev pub IsOrdinary : Content → Type 0
IsOrdinary document = ⊥
IsOrdinary (element name attrs) = IsLowerCase name × AreAttributes attrs
IsOrdinary (text bytes) = Unit {0}
IsOrdinary (comment bytes) = Unit {0}

-- each node fits, by what it is and its children
abbrev pub Every : (Content → Forest → Type 0) → Forest → Type 0
Every Fits empty = Unit {0}
Every Fits (node n c kids later) = Fits c kids × Every Fits kids × Every Fits later

abbrev pub AreOrdinary : Forest → Type 0
AreOrdinary = Every (λ c kids. IsOrdinary c)

-- only the document and elements have children
abbrev pub MayHave : Content → Forest → Type 0
MayHave document kids = Unit {0}
MayHave (element name attrs) kids = Unit {0}
MayHave (text bytes) kids = kids ≡ empty
MayHave (comment bytes) kids = kids ≡ empty

abbrev pub IsGrown : Forest → Type 0
IsGrown = Every MayHave

-- Each number stands once, and below `next`; only elements have children; names are kept in lower case, and those of
-- attributes are distinct; the limits are kept. Being below the document, each node is reached from it.
pub record IsTree (t : Tree) : Type 0 where
  pub once : (k : ℕ) → count k (rooted t.nodes) ≤ 1
  pub below : (k : ℕ) → t.next ≤ k → count k (rooted t.nodes) ≡ 0
  pub grown : IsGrown t.nodes
  pub ordinary : AreOrdinary t.nodes
  pub few : size t.nodes ≤ NODE_LIMIT
  pub low : height t.nodes ≤ DEPTH_LIMIT
