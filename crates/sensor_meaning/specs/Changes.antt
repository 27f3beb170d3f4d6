-- What a change of a page says of the trees before and after it.
use Rattle.std.specs.Prelude.{◌≡◌, ℕ, ◌≤◌, Bool, true, false, ◌==◌, List, [], ◌∷◌, Some, unwrap_or}
use Rattle.std.specs.Str.{bytes_eq}
use Rattle.page_tree.specs.Forest.{element, text, Tree, rooted, count, find, content, value_at, parent_in}
use Rattle.page_tree.specs.Edits.{with_content, pruned, subtree}
use Rattle.page_tree.specs.Directions.{is_in}
use Rattle.page_tree.specs.Trees.{IsGrown, AreOrdinary}
use Rattle.selector_meaning.specs.Texts.{Bytes}
use Rattle.sensor_meaning.specs.declared.sensor.Observes.{Observes}
use Rattle.sensor_meaning.specs.declared.sensor.Observes.TheVariants.{Attr, AnyAttr, Text, Children, Path}
use Rattle.sensor_meaning.specs.declared.change.Change.{Change}
use Rattle.sensor_meaning.specs.declared.change.Change.TheVariants.{Attr as AttrOf, Chars, Came, Went, Moved, Path as PathOf}

-- whether what is observed can be another one after a change
abbrev pub observes : Observes → Change → Bool
observes (Attr name) (AttrOf n changed) = bytes_eq changed name
observes AnyAttr (AttrOf n changed) = true
observes Text (Chars n) = true
observes Text (Came p tops) = true
observes Text (Went p) = true
observes Text (Moved n p q) = true
observes Children (Came p tops) = true
observes Children (Went p) = true
observes Children (Moved n p q) = true
observes Path PathOf = true
observes _ _ = false

-- the number of a node's parent; 0 is the document
abbrev pub parent_of : Tree → ℕ → ℕ
parent_of t k = unwrap_or (parent_in k 0 t.nodes) 0

-- where a change takes place, in the tree after it
abbrev pub places_of : Change → Tree → List ℕ
places_of (AttrOf n name) u = n ∷ []
places_of (Chars n) u = parent_of u n ∷ []
places_of (Came p tops) u = p ∷ []
places_of (Went p) u = p ∷ []
places_of (Moved n p q) u = p ∷ q ∷ []
places_of PathOf u = 0 ∷ []

-- the node k is a child of p
abbrev pub IsChild : ℕ → ℕ → Tree → Type 0
IsChild k p t = parent_in k 0 t.nodes ≡ Some p

-- the element k has an attribute of this name set or dropped, and else is the same
pub record SetsAttr (k : ℕ) (name : Bytes) (t u : Tree) : Type 0 where
  pub called : Bytes
  pub before : List (Bytes × Bytes)
  pub after : List (Bytes × Bytes)
  pub was : content (find k t.nodes) ≡ Some (element called before)
  pub others_stay : (other : Bytes) → bytes_eq name other ≡ false → value_at other before ≡ value_at other after
  pub becomes : u.nodes ≡ with_content k (element called after) t.nodes

-- the Text node k has another text, and else is the same
pub record SetsText (k : ℕ) (t u : Tree) : Type 0 where
  pub before : Bytes
  pub after : Bytes
  pub was : content (find k t.nodes) ≡ Some (text before)
  pub becomes : u.nodes ≡ with_content k (text after) t.nodes

-- A change leads from a tree t with a path to a tree u with a path. Numbers that the next nodes get don't matter.
abbrev pub Becomes : Change → Tree → Bytes → Tree → Bytes → Type 0
Becomes (AttrOf n name) t path u route = (path ≡ route) × SetsAttr n name t u
Becomes (Chars n) t path u route = (path ≡ route) × SetsText n t u
-- t is u without the tops, which are children of p
Becomes (Came p tops) t path u route =
    (path ≡ route) × ((n : ℕ) → is_in tops n ≡ true → IsChild n p u) × (t.nodes ≡ pruned (is_in tops) u.nodes)
-- u is t without a child of p
Becomes (Went p) t path u route = (path ≡ route) × ((n : ℕ) × IsChild n p t × (u.nodes ≡ pruned (λ k. k == n) t.nodes))
-- the node is a child of p in t and of q in u, and all else is the same
Becomes (Moved n p q) t path u route =
    (path ≡ route) × IsChild n p t × IsChild n q u × (subtree n t.nodes ≡ subtree n u.nodes)
    × (pruned (λ k. k == n) t.nodes ≡ pruned (λ k. k == n) u.nodes)
Becomes PathOf t path u route = t ≡ u

-- what every tree keeps, of any size
pub record IsWellFormed (t : Tree) : Type 0 where
  pub once : (k : ℕ) → count k (rooted t.nodes) ≤ 1
  pub grown : IsGrown t.nodes
  pub ordinary : AreOrdinary t.nodes
