-- How much a selector asks, for the measure of the search.
use Rattle.std.specs.Prelude.{ℕ, ◌+◌, List, [], ◌∷◌, map}
use Rattle.selector_tree.specs.declared.selector.Step.{Step, fold-Step}
use Rattle.selector_tree.specs.declared.selector.Step.TheOpen.{Step-F, Test-F}
use Rattle.selector_tree.specs.declared.selector.Test.{Test, fold-Test}

abbrev pub total : List ℕ → ℕ
total [] = 0
total (n ∷ ns) = n + total ns

abbrev pub step_weight_at : Step-F ℕ ℕ → ℕ
step_weight_at (Step-F.Keep q) = q + 1
step_weight_at (Step-F.UpwardTo l) = total (map total l) + 1
step_weight_at _ = 1

abbrev pub test_weight_at : Test-F ℕ ℕ → ℕ
test_weight_at (Test-F.Is l) = total (map total l) + 1
test_weight_at (Test-F.Not l) = total (map total l) + 1
test_weight_at (Test-F.Has l) = total (map total l) + 1
test_weight_at _ = 0

abbrev pub step_weight : Step → ℕ
step_weight = fold-Step ℕ ℕ step_weight_at test_weight_at

abbrev pub test_weight : Test → ℕ
test_weight = fold-Test ℕ ℕ step_weight_at test_weight_at

abbrev pub chain_weight : List Step → ℕ
chain_weight steps = total (map step_weight steps)

abbrev pub selector_weight : List (List Step) → ℕ
selector_weight l = total (map total (map (map step_weight) l))
