-- How much a search that climbs has still to ask.
use Rattle.std.specs.Prelude.{ℕ, suc, ◌+◌, Bool, true, false, ◌&&◌, ◌||◌, ◌==◌, not, nat_lt, cond, List, [], ◌∷◌, Option, Some, None}
use Rattle.selector_tree.specs.declared.selector.Step.{Step, out-Step}
use Rattle.selector_tree.specs.declared.selector.Step.TheOpen.{Step-F}
use Rattle.selector_tree.specs.declared.selector.Test.{Test}
use Rattle.page_tree.specs.Forest.{Tree}
use Rattle.page_tree.specs.Standings.{all}
use Rattle.selector_match.specs.Kinds.{is_single}
use Rattle.procedural_ops.specs.Once.{level, most_left, children_behind, rank}
use Rattle.procedural_ops.specs.Runs.{cost_of, is_cost}
use Rattle.procedural_ops.specs.declared.climb.Climb.{Climb}
use Rattle.procedural_ops.specs.declared.runs.Cost.{Cost}

-- the step asks a test without selectors in it
abbrev pub asks_at : Step-F Step Test → Bool
asks_at (Step-F.Keep q) = is_single q
asks_at _ = false

abbrev pub asks : Step → Bool
asks s = asks_at (out-Step s)

-- how many of the steps do
abbrev pub many_asked : List Step → ℕ
many_asked [] = 0
many_asked (s ∷ steps) = cond (asks s) 1 0 + many_asked steps

-- the step moves, or keeps by a test without selectors in it
abbrev pub is_plain_step_at : Step-F Step Test → Bool
is_plain_step_at (Step-F.Keep q) = is_single q
is_plain_step_at (Step-F.Move place) = true
is_plain_step_at _ = false

abbrev pub is_plain_step : Step → Bool
is_plain_step s = is_plain_step_at (out-Step s)

-- the step asks a test of this cost
abbrev pub costs_at : Cost → Step-F Step Test → Bool
costs_at cost (Step-F.Keep q) = is_cost (cost_of q) cost
costs_at cost _ = false

abbrev pub costs : Cost → Step → Bool
costs cost s = costs_at cost (out-Step s)

abbrev pub many_costing : Cost → List Step → ℕ
many_costing cost [] = 0
many_costing cost (s ∷ steps) = cond (costs cost s) 1 0 + many_costing cost steps

-- how many of the numbers pass
abbrev pub many_passing : (ℕ → Bool) → List ℕ → ℕ
many_passing p [] = 0
many_passing p (x ∷ xs) = cond (p x) 1 0 + many_passing p xs

-- how many elements each of the steps has still to ask, the first of them with k steps before it
abbrev pub still : (ℕ → ℕ → Bool) → List ℕ → List Step → ℕ → ℕ
still past elements [] k = 0
still past elements (s ∷ steps) k = cond (asks s) (many_passing (λ z. not (past (suc k) z)) elements) 0 + still past elements steps (suc k)

module _ (t : Tree) (steps : List Step) where
  -- so many steps left at an element: that is behind the search, which won't come there again
  abbrev pub is_past : Climb → ℕ → ℕ → Bool
  is_past c k z =
      nat_lt (level t steps c.here.left c.here.at) (level t steps k z)
      || ((level t steps c.here.left c.here.at == level t steps k z)
      && (nat_lt (most_left t steps c) k
      || ((children_behind t steps c.here.left == children_behind t steps k)
      && (nat_lt (rank t steps c.here.left c.here.at) (rank t steps k z)
      || ((rank t steps c.here.left c.here.at == rank t steps k z) && nat_lt c.here.left k)))))

  abbrev pub unasked : Climb → ℕ
  unasked c = still (is_past c) (all t) steps 0

  -- nothing is asked once no step is left
  abbrev pub unasked_at : Climb → ℕ
  unasked_at c = cond (c.here.left == 0) 0 (unasked c)

  abbrev pub unasked_in : Option Climb → ℕ
  unasked_in None = 0
  unasked_in (Some c) = unasked_at c
