-- Which elements the filters select, and which of them are hidden. Filters go by their places in their list, from 0.
use Rattle.std.specs.Prelude.{ℕ, Bool, ◌&&◌, List}
use Rattle.selector_tree.specs.declared.filter.Action.{Action}
use Rattle.selector_tree.specs.declared.filter.Action.TheVariants.{Hide}
use Rattle.selector_tree.specs.declared.filter.Filter.{Filter}
use Rattle.selector_tree.specs.declared.filter.HiddenRow.{HiddenRow}
use Rattle.page_tree.specs.Forest.{Tree}
use Rattle.page_tree.specs.Standings.{all}
use Rattle.selector_meaning.specs.Texts.{Bytes}
use Rattle.selector_meaning.specs.Meaning.{selects}
use Rattle.selector_meaning.specs.Hidden.{rows_of}
use Rattle.engine_meaning.specs.Filters.{has_action}

-- a row as its element and the places of its filters
abbrev pub pair_of : HiddenRow → ℕ × List ℕ
pair_of row = (row.node, row.filters)

-- `found body flags text` says whether the pattern of this body under these flags is found in a text; `path` is the path
-- of the page's address
module _ (found : Bytes → ℕ → Bytes → Bool) (filters : List Filter) (path : Bytes) (t : Tree) where
  -- the filter has this action and selects x
  abbrev pub acts_on : Action → Filter → ℕ → Bool
  acts_on action f x = has_action action f && selects found t path f.selector x

  -- each element that some filter of this action selects, in document order, with the places of all that do
  abbrev pub acted_on : Action → List (ℕ × List ℕ)
  acted_on action = rows_of (acts_on action) filters (all t)

  -- the hidden elements, each with all filters that hide it
  abbrev pub hidden : List (ℕ × List ℕ)
  hidden = acted_on Hide
