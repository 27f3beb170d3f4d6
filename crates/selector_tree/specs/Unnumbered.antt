-- A selector with 0 for the number of each of its patterns: what its text alone says. The numbers are those of a table.
use Rattle.std.specs.Prelude.{List, Option, map, option_map}
use Rattle.selector_tree.specs.declared.selector.Arg.{Arg}
use Rattle.selector_tree.specs.declared.selector.Arg.TheVariants.{Literal, Pattern}
use Rattle.selector_tree.specs.declared.selector.Step.{Step, fold-Step}
use Rattle.selector_tree.specs.declared.selector.Step.TheOpen.{Step-F, Test-F}
use Rattle.selector_tree.specs.declared.selector.Step.TheViews.{roll-Step, roll-Test}
use Rattle.selector_tree.specs.declared.selector.Test.{Test, fold-Test}

abbrev pub unnumbered_arg : Arg → Arg
unnumbered_arg (Literal text) = Literal text
unnumbered_arg (Pattern body flags number) = Pattern body flags 0

-- one test, in which the selectors have no numbers already
abbrev pub unnumbered_layer : Test-F Step Test → Test-F Step Test
unnumbered_layer (Test-F.HasText arg) = Test-F.HasText (unnumbered_arg arg)
unnumbered_layer (Test-F.MatchesPath arg) = Test-F.MatchesPath (unnumbered_arg arg)
unnumbered_layer (Test-F.MatchesAttr key value) = Test-F.MatchesAttr (unnumbered_arg key) (option_map unnumbered_arg value)
unnumbered_layer test = test

abbrev pub unnumbered_step : Step → Step
unnumbered_step = fold-Step Step Test roll-Step (λ test. roll-Test (unnumbered_layer test))

abbrev pub unnumbered_test : Test → Test
unnumbered_test = fold-Test Step Test roll-Step (λ test. roll-Test (unnumbered_layer test))

abbrev pub unnumbered : List (List Step) → List (List Step)
unnumbered selector = map (map unnumbered_step) selector
