-- Whether each `:upward(n)` of a selector has a number of at least 1, at whatever depth it stands.
use Rattle.std.specs.Prelude.{Bool, true, nat_lt, List, map}
use Rattle.std.specs.List.{list_all}
use Rattle.selector_tree.specs.declared.selector.Step.{Step, fold-Step}
use Rattle.selector_tree.specs.declared.selector.Step.TheOpen.{Step-F, Test-F}
use Rattle.selector_tree.specs.declared.selector.Test.{Test, fold-Test}

-- one layer: the numbers in it, and those of the tests and selectors within
abbrev pub degree_step : Step-F Bool Bool → Bool
degree_step (Step-F.Keep q) = q
degree_step (Step-F.Upward n) = nat_lt 0 n
degree_step (Step-F.UpwardTo l) = list_all (list_all (λ b. b)) l
degree_step _ = true

abbrev pub degree_test : Test-F Bool Bool → Bool
degree_test (Test-F.Is l) = list_all (list_all (λ b. b)) l
degree_test (Test-F.Not l) = list_all (list_all (λ b. b)) l
degree_test (Test-F.Has l) = list_all (list_all (λ b. b)) l
degree_test _ = true

abbrev pub has_degrees : Step → Bool
has_degrees = fold-Step Bool Bool degree_step degree_test

abbrev pub has_test_degrees : Test → Bool
has_test_degrees = fold-Test Bool Bool degree_step degree_test

-- each `:upward(n)` of the selector leads at least one element up
unfoldable pub have_degrees : List (List Step) → Bool
have_degrees l = list_all (list_all (λ b. b)) (map (map has_degrees) l)
