-- The directions from an element or the document to elements or the document. The document has number 0.
use Rattle.std.specs.Prelude.{ℕ, Bool, false, not, ◌==◌, ◌&&◌, List, [], ◌∷◌, ◌++◌, map, filter}
use Rattle.std.specs.List.{list_any}
use Rattle.page_tree.specs.Forest.{Tree}
use Rattle.page_tree.specs.Standings.{Sibling, all, above, before}

abbrev pub is_in : List ℕ → ℕ → Bool
is_in xs x = list_any (λ y. y == x) xs

abbrev pub head_is : List ℕ → ℕ → Bool
head_is [] x = false
head_is (y ∷ ys) x = y == x

abbrev pub numbers_of : List Sibling → List ℕ
numbers_of siblings = map (λ s. s.number) siblings

-- to the children, all descendants, the parent, all ancestors, the next and the previous sibling, all later and all earlier
-- siblings
pub data Direction : Type 0 where
  to_child : Direction
  to_below : Direction
  to_parent : Direction
  to_above : Direction
  to_next : Direction
  to_previous : Direction
  to_after : Direction
  to_before : Direction

module _ (t : Tree) where
  -- what an element is below, nearest first, the document last
  abbrev pub holders : ℕ → List ℕ
  holders x = above t x ++ 0 ∷ []

  -- whether the direction leads from y to x
  abbrev pub goes : Direction → ℕ → ℕ → Bool
  goes to_child y x = not (x == 0) && head_is (holders x) y
  goes to_below y x = not (x == 0) && is_in (holders x) y
  goes to_parent y x = not (y == 0) && head_is (holders y) x
  goes to_above y x = not (y == 0) && is_in (holders y) x
  goes to_next y x = head_is (numbers_of (before t x)) y
  goes to_previous y x = head_is (numbers_of (before t y)) x
  goes to_after y x = is_in (numbers_of (before t x)) y
  goes to_before y x = is_in (numbers_of (before t y)) x

  -- where the direction leads from y, in document order
  abbrev pub reached : Direction → ℕ → List ℕ
  reached direction y = filter (goes direction y) (0 ∷ all t)
