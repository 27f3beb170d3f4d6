-- Which selectors may be asked: `:others()` stands in a filter's own chains alone, and each pattern stands in the table
-- under its number.
use Rattle.std.specs.Prelude.{Bool, true, false, ◌&&◌, List, map}
use Rattle.std.specs.List.{list_all}
use Rattle.cos_patterns.specs.declared.written.Written.{Written}
use Rattle.selector_tree.specs.declared.selector.Step.{Step, fold-Step, out-Step, map-Step}
use Rattle.selector_tree.specs.declared.selector.Step.TheOpen.{Step-F, Test-F}
use Rattle.selector_tree.specs.declared.selector.Test.{Test, fold-Test}
use Rattle.proper_filters.specs.Held.{is_held, is_held_or_none}

module _ (patterns : List Written) where
  -- no `:others()` stands in it, and its patterns are held; one layer
  abbrev pub inner_step : Step-F Bool Bool → Bool
  inner_step (Step-F.Keep q) = q
  inner_step (Step-F.UpwardTo l) = list_all (list_all (λ b. b)) l
  inner_step Step-F.Others = false
  inner_step _ = true

  abbrev pub inner_test : Test-F Bool Bool → Bool
  inner_test (Test-F.Is l) = list_all (list_all (λ b. b)) l
  inner_test (Test-F.Not l) = list_all (list_all (λ b. b)) l
  inner_test (Test-F.Has l) = list_all (list_all (λ b. b)) l
  inner_test (Test-F.HasText arg) = is_held patterns arg
  inner_test (Test-F.MatchesPath arg) = is_held patterns arg
  inner_test (Test-F.MatchesAttr key value) = is_held patterns key && is_held_or_none patterns value
  inner_test _ = true

  -- a step that may stand in a nested selector
  abbrev pub is_inner : Step → Bool
  is_inner = fold-Step Bool Bool inner_step inner_test

  abbrev pub is_inner_test : Test → Bool
  is_inner_test = fold-Test Bool Bool inner_step inner_test

  unfoldable pub are_inner : List Step → Bool
  are_inner steps = list_all (λ b. b) (map is_inner steps)

  unfoldable pub is_inner_selector : List (List Step) → Bool
  is_inner_selector l = list_all (list_all (λ b. b)) (map (map is_inner) l)

  -- a step that may stand in a filter's own chain; one layer
  abbrev pub own_step : Step-F Bool Bool → Bool
  own_step (Step-F.Keep q) = q
  own_step (Step-F.UpwardTo l) = list_all (list_all (λ b. b)) l
  own_step _ = true

  unfoldable pub is_own : Step → Bool
  is_own s = own_step (map-Step Step Test Bool Bool is_inner is_inner_test (out-Step s))

  unfoldable pub are_own : List Step → Bool
  are_own steps = list_all is_own steps

  -- a selector that a filter may have
  unfoldable pub is_proper : List (List Step) → Bool
  is_proper l = list_all are_own l
