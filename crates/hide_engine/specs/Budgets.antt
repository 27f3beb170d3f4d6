-- How many questions an event may take: so many pairs of a filter and an element that carries a key of it. And how many
-- single tests: each question at most the price of one, with the filters on the page behind the event.
use Rattle.std.specs.Prelude.{ℕ, ◌*◌, true, length, map}
use Rattle.cos_patterns.specs.Found.{pattern_found}
use Rattle.page_tree.specs.Standings.{all}
use Rattle.mutation_script.specs.declared.mutation.Mutation.{Mutation}
use Rattle.procedural_ops.specs.Told.{selector_at}
use Rattle.generic_tables.specs.Keys.{is_keyed}
use Rattle.retest.specs.Priced.{price}
use Rattle.retest_laws.specs.Pending.{Pairs, budget}
use Rattle.engine_meaning.specs.States.{State, mutated, rounded, round_of}
use Rattle.hide_engine.specs.Changes.{dirtied_by, dirtied_without}

-- whether an element carries a key of the filter at a place
abbrev pub carried : State → Pairs
carried s f x = is_keyed s.page.tree (selector_at s.filters f) x

-- how many pairs of these there are, of a filter and an element of the page that carries a key of it
abbrev pub budget_of : State → Pairs → ℕ
budget_of s given = budget (length s.filters) (all s.page.tree) (carried s) given

-- at the start all pairs are given
abbrev pub start_budget : State → ℕ
start_budget s = budget_of s (λ f x. true)

-- by a mutation, the pairs that it makes dirty, of the page behind it
abbrev pub event_budget : Mutation → State → ℕ
event_budget mutation s = budget_of (mutated mutation s) (dirtied_by mutation s)

-- by a round, what the taken elements make dirty that go one after another, of the page behind the last
abbrev pub round_budget : State → ℕ
round_budget s =
    budget_of (rounded pattern_found s) (dirtied_without (map (λ row. row.node) (round_of pattern_found s)) s)

-- ---- the single tests

abbrev pub start_tests : State → ℕ
start_tests s = start_budget s * price s.filters s.page.tree

abbrev pub event_tests : Mutation → State → ℕ
event_tests mutation s = event_budget mutation s * price s.filters (mutated mutation s).page.tree

abbrev pub round_tests : State → ℕ
round_tests s = round_budget s * price s.filters (rounded pattern_found s).page.tree
