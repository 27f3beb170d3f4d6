-- What a page says of an element.
use Rattle.std.specs.Prelude.{ℕ, Bool, true, false, ◌==◌, ◌&&◌, List, [], ◌++◌, length, codes, Option, None, Some}
use Rattle.page_tree.specs.Forest.{document, element, text, comment, Forest, empty, node, Tree, value_at}
use Rattle.page_tree.specs.Standings.{attrs, inner}
use Rattle.page_tree.specs.Words.{words, utf16_length}

-- the texts of the Text nodes, joined in document order; comments have no part in it
abbrev pub texts : Forest → List ℕ
texts empty = []
texts (node n document kids later) = texts kids ++ texts later
texts (node n (element name attrs) kids later) = texts kids ++ texts later
texts (node n (text bytes) kids later) = bytes ++ texts later
texts (node n (comment bytes) kids later) = texts later

-- no element, and no text that isn't empty
abbrev pub is_blank : Forest → Bool
is_blank empty = true
is_blank (node n document kids later) = is_blank later
is_blank (node n (element name attrs) kids later) = false
is_blank (node n (text bytes) kids later) = length bytes == 0 && is_blank later
is_blank (node n (comment bytes) kids later) = is_blank later

-- the words of a value, where there is one
abbrev pub words_in : Option (List ℕ) → List (List ℕ)
words_in None = []
words_in (Some value) = words value

module _ (t : Tree) where
  -- the value of an attribute
  abbrev pub attr : List ℕ → ℕ → Option (List ℕ)
  attr key x = value_at key (attrs t x)

  -- the id is the value of `id`
  abbrev pub id : ℕ → Option (List ℕ)
  id x = attr (codes "id") x

  -- the members of the class list are the words of the value of `class`
  abbrev pub class_list : ℕ → List (List ℕ)
  class_list x = words_in (attr (codes "class") x)

  -- the text content is the join of the texts below it
  abbrev pub text_content : ℕ → List ℕ
  text_content x = texts (inner t x)

  -- its length in UTF-16 units
  abbrev pub text_length : ℕ → ℕ
  text_length x = utf16_length (text_content x)
