-- A selector with the number of each of its patterns in a table.
use Rattle.std.specs.Prelude.{ℕ, nat_lt, if◌then◌else◌, List, map, option_map, unwrap_or}
use Rattle.cos_patterns.specs.declared.written.Written.{Written}
use Rattle.cos_patterns.specs.Written.{written, place_of}
use Rattle.selector_tree.specs.declared.selector.Arg.{Arg}
use Rattle.selector_tree.specs.declared.selector.Arg.TheVariants.{Literal, Pattern}
use Rattle.selector_tree.specs.declared.selector.Step.{Step, fold-Step}
use Rattle.selector_tree.specs.declared.selector.Step.TheOpen.{Test-F}
use Rattle.selector_tree.specs.declared.selector.Step.TheViews.{roll-Step, roll-Test}
use Rattle.selector_tree.specs.declared.selector.Test.{Test, fold-Test}

module _ (patterns : List Written) where
  -- the place of a pattern among those of the table, from 0; flags are a sum of 1, 2 and 4
  abbrev pub number_in : List ℕ → ℕ → ℕ
  number_in body flags = if nat_lt flags 8 then unwrap_or (place_of (written body flags) patterns) 0 else 0

  abbrev pub numbered_arg : Arg → Arg
  numbered_arg (Literal text) = Literal text
  numbered_arg (Pattern body flags number) = Pattern body flags (number_in body flags)

  -- one test, in which the selectors have their numbers already
  abbrev pub numbered_layer : Test-F Step Test → Test-F Step Test
  numbered_layer (Test-F.HasText arg) = Test-F.HasText (numbered_arg arg)
  numbered_layer (Test-F.MatchesPath arg) = Test-F.MatchesPath (numbered_arg arg)
  numbered_layer (Test-F.MatchesAttr key value) = Test-F.MatchesAttr (numbered_arg key) (option_map numbered_arg value)
  numbered_layer test = test

  abbrev pub numbered_step : Step → Step
  numbered_step = fold-Step Step Test roll-Step (λ test. roll-Test (numbered_layer test))

  abbrev pub numbered_test : Test → Test
  numbered_test = fold-Test Step Test roll-Step (λ test. roll-Test (numbered_layer test))

  abbrev pub numbered : List (List Step) → List (List Step)
  numbered selector = map (map numbered_step) selector
