-- What the walks of this crate answer.
use Rattle.std.specs.Prelude.{◌≡◌, ℕ, ◌-◌, Bool, true, false, not, ◌==◌, length, drop, List, [], ◌∷◌, Option, None, Some, if◌then◌else◌}
use Rattle.dom_arena.specs.declared.kinds.NodeKind.{NodeKind}
use Rattle.dom_arena.specs.declared.kinds.NodeKind.TheVariants.{Document, Element, Text, Comment}
use Rattle.selector_tree.specs.declared.selector.Place.{Place}
use Rattle.selector_tree.specs.declared.selector.Place.TheVariants.{Child, Descendant, Next, After}
use Rattle.page_tree.specs.Forest.{Content, document, element, text, comment, Tree, rooted, numbers, find, children, content}
use Rattle.page_tree.specs.Standings.{Sibling, all, above, before, after, name}
use Rattle.page_tree.specs.Directions.{is_in, numbers_of}

-- a kind is that of elements
abbrev pub is_element_kind : NodeKind → Bool
is_element_kind Document = false
is_element_kind Element = true
is_element_kind Text = false
is_element_kind Comment = false

-- the combinator leads from the nearest of its sources alone
abbrev pub is_one_step : Place → Bool
is_one_step Child = true
is_one_step Descendant = false
is_one_step Next = true
is_one_step After = false

-- the text of a text node
abbrev pub text_in : Option Content → List ℕ
text_in None = []
text_in (Some document) = []
text_in (Some (element called given)) = []
text_in (Some (text bytes)) = bytes
text_in (Some (comment bytes)) = []

-- an element, or a text that isn't empty
abbrev pub fills : Option Content → Bool
fills None = false
fills (Some document) = false
fills (Some (element called given)) = true
fills (Some (text bytes)) = not (length bytes == 0)
fills (Some (comment bytes)) = false

-- the last so many bytes, or all where there are fewer
abbrev pub end_of : ℕ → List ℕ → List ℕ
end_of count bytes = drop (length bytes - count) bytes

module _ (t : Tree) where
  -- the number is that of an element
  abbrev pub IsElement : ℕ → Type 0
  IsElement x = is_in (all t) x ≡ true

  -- an element as its siblings see it
  abbrev pub sibling : ℕ → Sibling
  sibling x = record { number = x; name = name t x }

  -- the elements from which a combinator may lead to x, nearest first
  abbrev pub sources : Place → ℕ → List ℕ
  sources Child x = above t x
  sources Descendant x = above t x
  sources Next x = numbers_of (before t x)
  sources After x = numbers_of (before t x)

  -- the element siblings of x on one side, nearest first
  abbrev pub side : Bool → ℕ → List Sibling
  side later x = if later then after t x else before t x

  -- a node and all below it, in document order
  abbrev pub below : ℕ → List ℕ
  below top = top ∷ numbers (children (find top (rooted t.nodes)))

  -- the text of a node itself: comments and elements have none
  abbrev pub own_text : ℕ → List ℕ
  own_text n = text_in (content (find n (rooted t.nodes)))
