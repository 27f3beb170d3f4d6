-- What a page costs, from its opening through its changes and rounds, counted in any way: the sum of what each event costs.
use Rattle.std.specs.Prelude.{ℕ, zero, suc, ◌+◌, length}
use Rattle.page_tree.specs.Standings.{all}
use Rattle.cos_patterns.specs.Found.{pattern_found}
use Rattle.mutation_script.specs.declared.mutation.Mutation.{Mutation}
use Rattle.engine_meaning.specs.States.{State, rounded}
use Rattle.hide_engine.specs.Budgets.{start_budget, start_tests, event_budget, event_tests, round_budget, round_tests}

-- what it costs to open a page with its filters, to make a change of it that isn't refused, and to make one round
pub record Costs : Type 0 where
  pub start : State → ℕ
  pub event : Mutation → State → ℕ
  pub round : State → ℕ

-- the questions whether a filter selects an element
unfoldable pub questions : Costs
questions = record { start = start_budget; event = event_budget; round = round_budget }

-- the single tests that are asked for them
unfoldable pub single_tests : Costs
single_tests = record { start = start_tests; event = event_tests; round = round_tests }

-- so many rounds, one after another
abbrev pub rounds_cost : Costs → ℕ → State → ℕ
rounds_cost costs zero s = 0
rounds_cost costs (suc n) s = costs.round s + rounds_cost costs n (rounded pattern_found s)

-- all rounds of a page: as many as it has elements are enough, and a round that takes nothing costs nothing
abbrev pub settling_cost : Costs → State → ℕ
settling_cost costs s = rounds_cost costs (length (all s.page.tree)) s
