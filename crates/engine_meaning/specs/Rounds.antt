-- What the filters that remove take out of a tree. A round takes all that they select out at once; rounds follow each other
-- until one takes nothing.
use Rattle.std.specs.Prelude.{ℕ, zero, suc, Bool, not, List, [], ◌∷◌, ◌++◌, length, map, filter}
use Rattle.std.specs.List.{list_any}
use Rattle.selector_tree.specs.declared.filter.Action.TheVariants.{Remove}
use Rattle.selector_tree.specs.declared.filter.Filter.{Filter}
use Rattle.selector_tree.specs.declared.filter.Taken.{Taken}
use Rattle.page_tree.specs.Forest.{Tree}
use Rattle.page_tree.specs.Standings.{all, above, name}
use Rattle.page_tree.specs.Directions.{is_in}
use Rattle.page_tree.specs.Edits.{pruned, detached}
use Rattle.selector_meaning.specs.Texts.{Bytes}
use Rattle.engine_meaning.specs.Hidden.{acted_on}

-- the tree without some nodes, taken out one after another with all below them
abbrev pub without_each : Tree → List ℕ → Tree
without_each t [] = t
without_each t (n ∷ ns) = without_each (detached n t) ns

module _ (found : Bytes → ℕ → Bytes → Bool) (filters : List Filter) (path : Bytes) (t : Tree) where
  -- each element that some filter removes, in document order, with the places of all that do
  abbrev pub removed_rows : List (ℕ × List ℕ)
  removed_rows = acted_on found filters path t Remove

  -- the elements that some filter removes
  abbrev pub removed : List ℕ
  removed = map (λ row. row.0) removed_rows

  -- no ancestor of x is removed
  abbrev pub is_outermost : ℕ → Bool
  is_outermost x = not (list_any (is_in removed) (above t x))

  -- the tree behind a round: without the removed elements and all below them
  abbrev pub round : Tree
  round = record { nodes = pruned (is_in removed) t.nodes; next = t.next }

  -- a removed element, with its name, in the round of this number
  abbrev pub taken_row : ℕ → ℕ × List ℕ → Taken
  taken_row number row = record { round = number; node = row.0; name = name t row.0; filters = row.1 }

  -- what the round of this number takes: the outermost of the removed elements, each with the filters that remove it
  abbrev pub taken_in : ℕ → List Taken
  taken_in number = map (taken_row number) (filter (λ row. is_outermost row.0) removed_rows)

module _ (found : Bytes → ℕ → Bytes → Bool) (filters : List Filter) (path : Bytes) where
  -- the tree behind so many rounds
  abbrev pub after_rounds : ℕ → Tree → Tree
  after_rounds zero t = t
  after_rounds (suc n) t = after_rounds n (round found filters path t)

  -- what so many rounds take, the first of which has this number
  abbrev pub taken_from : ℕ → ℕ → Tree → List Taken
  taken_from number zero t = []
  taken_from number (suc n) t = taken_in found filters path t number ++ taken_from (suc number) n (round found filters path t)

  -- The tree behind all rounds. As many as the tree has elements are enough: each that takes something leaves fewer
  -- elements, and one that takes nothing leaves the tree as it is.
  abbrev pub settled : Tree → Tree
  settled t = after_rounds (length (all t)) t

  -- what all rounds take, numbered from 1
  abbrev pub taken : Tree → List Taken
  taken t = taken_from 1 (length (all t)) t
