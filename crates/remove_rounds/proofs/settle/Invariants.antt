use Rattle.std.proofs.Common.{◌≡◌, ◌++◌, ◌+◌, ◌≤◌, [], length}
use Rattle.page_tree.specs.Standings.{all}
use Rattle.cos_patterns.specs.Found.{pattern_found}
use Rattle.engine_meaning.specs.Rounds.{taken_from}
use Rattle.engine_meaning.specs.States.{settled_state, taken_of}
use Rattle.remove_rounds.specs.Costs.{questions, single_tests, settling_cost}
use Rattle.remove_rounds.proofs.settle.Given as goal

-- the rounds so far and those that are left are all rounds, and cost no more than they
abbrev pub invariant-rounds : goal.invariant-rounds
invariant-rounds g l =
    record {
      settled : settled_state pattern_found l.engine ≡ settled_state pattern_found l.initial.engine;
      taken : l.taken ++ taken_from pattern_found l.engine.filters l.engine.page.path l.number (length (all l.engine.page.tree)) l.engine.page.tree ≡ taken_of pattern_found l.initial.engine;
      rested : l.taken ≡ [] → l.engine ≡ l.initial.engine;
      few : l.number + length (all l.engine.page.tree) ≤ 1000001;
      checks : l.checks + settling_cost questions l.engine ≤ l.initial.checks + settling_cost questions l.initial.engine;
      parts : l.parts + settling_cost single_tests l.engine ≤ l.initial.parts + settling_cost single_tests l.initial.engine;
    }

abbrev pub decreases-rounds : goal.decreases-rounds
decreases-rounds g l = length (all l.engine.page.tree)
