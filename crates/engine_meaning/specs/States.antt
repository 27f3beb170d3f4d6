-- A page between two events, with the filters that are used on it, and what the engine answers of it.
use Rattle.std.specs.Prelude.{ℕ, Bool, List}
use Rattle.mutation_script.specs.declared.page.PageState.{PageState}
use Rattle.mutation_script.specs.declared.mutation.Mutation.{Mutation}
use Rattle.mutation_script.specs.Changes.{changed}
use Rattle.selector_tree.specs.declared.filter.Filter.{Filter}
use Rattle.selector_tree.specs.declared.filter.Taken.{Taken}
use Rattle.selector_meaning.specs.Texts.{Bytes}
use Rattle.engine_meaning.specs.Hidden.{hidden}
use Rattle.engine_meaning.specs.Rounds.{round, taken_in, settled, taken}

-- a page, and its filters in order
pub record State : Type 0 where
  pub page : PageState
  pub filters : List Filter

-- the page behind a mutation: as before it where it is refused
abbrev pub mutated : Mutation → State → State
mutated mutation s = record s { page = changed mutation s.page }

module _ (found : Bytes → ℕ → Bytes → Bool) where
  -- the hidden elements, each with the places of all filters that hide it
  abbrev pub hidden_of : State → List (ℕ × List ℕ)
  hidden_of s = hidden found s.filters s.page.path s.page.tree

  -- the page behind one round
  abbrev pub rounded : State → State
  rounded s = record s { page = record s.page { tree = round found s.filters s.page.path s.page.tree } }

  -- what one round takes, as round 1
  abbrev pub round_of : State → List Taken
  round_of s = taken_in found s.filters s.page.path s.page.tree 1

  -- the page behind all rounds
  abbrev pub settled_state : State → State
  settled_state s = record s { page = record s.page { tree = settled found s.filters s.page.path s.page.tree } }

  -- what all rounds take
  abbrev pub taken_of : State → List Taken
  taken_of s = taken found s.filters s.page.path s.page.tree
