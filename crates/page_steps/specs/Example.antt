-- What lines cost, computed: a change counted 10 and a round 1, on a page of one element. What is known of that page.
use Rattle.std.specs.Prelude.{◌≡◌, [], codes, refl}
use Rattle.page_tree.specs.Forest.{element, empty, node}
use Rattle.page_tree.specs.Standings.{elements, standing}
use Rattle.mutation_script.specs.declared.mutation.Mutation.TheVariants.{Delete, Path}
use Rattle.mutation_script.specs.declared.mutation.ScriptLine.TheVariants as says
use Rattle.engine_meaning.specs.States.{State}
use Rattle.remove_rounds.specs.Costs.{Costs, settling_cost}
use Rattle.page_steps.specs.declared.known.Known.TheVariants.{Nothing, Count, Rows}
use Rattle.page_steps.specs.Costs.{line_cost}
use Rattle.page_steps.specs.Known.{Knows}

abbrev counted : Costs
counted = record { start = λ s. 100; event = λ mutation s. 10; round = λ s. 1 }

abbrev opened : State
opened = record {
  page = record { tree = record { nodes = node 1 (element (codes "p") []) empty empty; next = 2 }; path = codes "/" };
  filters = [];
}

-- at most one round for one element
rounds : settling_cost counted opened ≡ 1
unfolding elements standing
rounds = refl

-- another path, and the rounds behind it
accepted : line_cost counted (says.Mutation (Path (codes "/x"))) opened ≡ 11
unfolding elements standing
accepted = refl

-- no node has this number
refused : line_cost counted (says.Mutation (Delete 9)) opened ≡ 0
refused = refl

blank : line_cost counted says.Blank opened ≡ 0
blank = refl

-- no filter hides the element, so there are no rows

nothing_known : Knows Nothing opened
nothing_known = tt

none_hidden : Knows (Count 0) opened
unfolding elements standing
none_hidden = refl

no_rows : Knows (Rows []) opened
unfolding elements standing
no_rows = refl
