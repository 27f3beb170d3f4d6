-- What stands around each element: its ancestors, its siblings and what is below it. The document is no element.
use Rattle.std.specs.Prelude.{ℕ, ◌==◌, List, [], ◌∷◌, ◌++◌, map, find, Option, option_map, unwrap_or}
use Rattle.page_tree.specs.Forest.{document, element, text, comment, Forest, empty, node, Tree}

-- an element that is a sibling
pub record Sibling : Type 0 where
  pub number : ℕ
  pub name : List ℕ

-- an element with what stands around it: ancestors and earlier siblings nearest first, later siblings in order, and the
-- nodes below it
pub record Standing : Type 0 where
  pub number : ℕ
  pub name : List ℕ
  pub attrs : List (List ℕ × List ℕ)
  pub above : List ℕ
  pub before : List Sibling
  pub after : List Sibling
  pub inner : Forest

-- the elements among nodes that follow each other
abbrev pub siblings_of : Forest → List Sibling
siblings_of empty = []
siblings_of (node n document kids later) = siblings_of later
siblings_of (node n (element name attrs) kids later) = record { number = n; name = name } ∷ siblings_of later
siblings_of (node n (text bytes) kids later) = siblings_of later
siblings_of (node n (comment bytes) kids later) = siblings_of later

-- the elements of a forest in document order, below these ancestors and behind these siblings
abbrev pub standings : List ℕ → List Sibling → Forest → List Standing
standings above before empty = []
standings above before (node n document kids later) = standings above before later
standings above before (node n (element name attrs) kids later) =
    record {
      number = n;
      name = name;
      attrs = attrs;
      above = above;
      before = before;
      after = siblings_of later;
      inner = kids;
    } ∷ (standings (n ∷ above) [] kids ++ standings above (record { number = n; name = name } ∷ before) later)
standings above before (node n (text bytes) kids later) = standings above before later
standings above before (node n (comment bytes) kids later) = standings above before later

module _ (t : Tree) where
  -- all elements in document order (preorder), with what stands around them
  unfoldable pub elements : List Standing
  elements = standings [] [] t.nodes

  -- the numbers of all elements in document order
  abbrev pub all : List ℕ
  all = map (λ e. e.number) elements

  -- what stands around an element
  unfoldable pub standing : ℕ → Option Standing
  standing x = find (λ e. e.number == x) elements

  -- the ancestors that are elements, nearest first; the n-th one is at place n - 1
  abbrev pub above : ℕ → List ℕ
  above x = unwrap_or (option_map (λ e. e.above) (standing x)) []

  -- the element siblings before it, nearest first
  abbrev pub before : ℕ → List Sibling
  before x = unwrap_or (option_map (λ e. e.before) (standing x)) []

  -- the element siblings behind it, in order
  abbrev pub after : ℕ → List Sibling
  after x = unwrap_or (option_map (λ e. e.after) (standing x)) []

  -- the nodes below it
  abbrev pub inner : ℕ → Forest
  inner x = unwrap_or (option_map (λ e. e.inner) (standing x)) empty

  -- its name
  abbrev pub name : ℕ → List ℕ
  name x = unwrap_or (option_map (λ e. e.name) (standing x)) []

  -- its attributes
  abbrev pub attrs : ℕ → List (List ℕ × List ℕ)
  attrs x = unwrap_or (option_map (λ e. e.attrs) (standing x)) []
