-- Attributes in a slot.
use Rattle.std.specs.Prelude.{ℕ, zero, suc, Bool, true, false, cond, List, [], ◌∷◌}
use Rattle.std.specs.Str.{bytes_eq}
use Rattle.dom_arena.specs.declared.kinds.Payload.{Payload}
use Rattle.dom_arena.specs.declared.kinds.Payload.TheVariants.{Free, Document, Element, Text, Comment}

-- whether a slot holds an element
abbrev pub is_element : Payload → Bool
is_element Free = false
is_element Document = false
is_element (Element name attrs) = true
is_element (Text bytes) = false
is_element (Comment bytes) = false

-- the attributes that a slot holds
abbrev pub attrs_in : Payload → List (List ℕ × List ℕ)
attrs_in Free = []
attrs_in Document = []
attrs_in (Element name attrs) = attrs
attrs_in (Text bytes) = []
attrs_in (Comment bytes) = []

-- what a slot holds where its element gets these attributes
abbrev pub with_attrs : List (List ℕ × List ℕ) → Payload → Payload
with_attrs new Free = Free
with_attrs new Document = Document
with_attrs new (Element name attrs) = Element name new
with_attrs new (Text bytes) = Text bytes
with_attrs new (Comment bytes) = Comment bytes

-- the place of the attribute of this name, or how many attributes there are
abbrev pub place_of : List ℕ → List (List ℕ × List ℕ) → ℕ
place_of name [] = zero
place_of name (a ∷ attrs) = cond (bytes_eq a.0 name) zero (suc (place_of name attrs))
