-- Whether the patterns of a test or of a selector stand in a table under their numbers.
use Rattle.std.specs.Prelude.{Bool, true, false, ◌&&◌, List, Option, None, Some, slice_get}
use Rattle.std.specs.List.{list_all}
use Rattle.cos_patterns.specs.declared.written.Written.{Written}
use Rattle.cos_patterns.specs.Written.{written, is_same}
use Rattle.selector_tree.specs.declared.selector.Arg.{Arg}
use Rattle.selector_tree.specs.declared.selector.Arg.TheVariants.{Literal, Pattern}
use Rattle.selector_tree.specs.declared.selector.Step.{Step, fold-Step}
use Rattle.selector_tree.specs.declared.selector.Step.TheOpen.{Step-F, Test-F}
use Rattle.selector_tree.specs.declared.selector.Test.{Test, fold-Test}

-- what stands in a table is this pattern
abbrev pub stands_for : Option Written → Written → Bool
stands_for None pattern = false
stands_for (Some found) pattern = is_same found pattern

module _ (patterns : List Written) where
  -- an argument's pattern has its number there
  abbrev pub is_held : Arg → Bool
  is_held (Literal l) = true
  is_held (Pattern body flags number) = stands_for (slice_get patterns number) (written body flags)

  abbrev pub is_held_or_none : Option Arg → Bool
  is_held_or_none None = true
  is_held_or_none (Some arg) = is_held arg

  -- one layer: the patterns in it, and those of the tests and selectors within
  abbrev pub step_ready : Step-F Bool Bool → Bool
  step_ready (Step-F.Keep q) = q
  step_ready (Step-F.UpwardTo l) = list_all (list_all (λ b. b)) l
  step_ready _ = true

  abbrev pub test_ready : Test-F Bool Bool → Bool
  test_ready (Test-F.Is l) = list_all (list_all (λ b. b)) l
  test_ready (Test-F.Not l) = list_all (list_all (λ b. b)) l
  test_ready (Test-F.Has l) = list_all (list_all (λ b. b)) l
  test_ready (Test-F.HasText arg) = is_held arg
  test_ready (Test-F.MatchesPath arg) = is_held arg
  test_ready (Test-F.MatchesAttr key value) = is_held key && is_held_or_none value
  test_ready _ = true

  -- all patterns of a step have their numbers there
  abbrev pub is_step_ready : Step → Bool
  is_step_ready = fold-Step Bool Bool step_ready test_ready

  -- all patterns of a test have their numbers there
  abbrev pub is_ready : Test → Bool
  is_ready = fold-Test Bool Bool step_ready test_ready
