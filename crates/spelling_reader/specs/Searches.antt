-- What a text is looked for in.
use Rattle.selector_tree.specs.declared.selector.Arg.{Arg}
use Rattle.selector_tree.specs.declared.selector.Test.{Test}
use Rattle.selector_tree.specs.declared.selector.Test.TheVariants as test
use Rattle.spelling_reader.specs.declared.operators.Searched.{Searched}
use Rattle.spelling_reader.specs.declared.operators.Searched.TheVariants.{Text, Path}

abbrev pub searched_test : Searched → Arg → Test
searched_test Text arg = test.HasText arg
searched_test Path arg = test.MatchesPath arg
