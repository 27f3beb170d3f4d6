-- Tests of names.
use Rattle.std.specs.Prelude.{◌≡◌, ℕ, List, [], ◌∷◌, ◌++◌, Some, None}
use Rattle.selector_tree.specs.declared.selector.Step.{Step}
use Rattle.selector_tree.specs.declared.selector.Step.TheVariants as step
use Rattle.selector_tree.specs.declared.selector.Test.{Test}
use Rattle.selector_tree.specs.declared.selector.Test.TheVariants as test
use Rattle.selector_spelling.specs.declared.finding.Cause.TheVariants.{BadName}
use Rattle.selector_spelling.specs.declared.finding.Finding.TheVariants.{Malformed}
use Rattle.selector_spelling.specs.Bytes.{Bytes}
use Rattle.selector_spelling.specs.Names.{name}
use Rattle.selector_spelling.specs.Pieces.{tag}
use Rattle.selector_lexer.specs.declared.stop.Stop.{Stop}
use Rattle.selector_lexer.specs.declared.stop.Stop.TheVariants.{NoMemory, Found}
use Rattle.spelling_reader.specs.declared.tests_of.Named.{Named}
use Rattle.spelling_reader.specs.declared.tests_of.Named.TheVariants.{Id, Class, Tag}

abbrev pub of_name : Named → Bytes → Test
of_name Id n = test.Id n
of_name Class n = test.Class n
of_name Tag n = tag n

-- the test of the name at the front was added
pub record NamesTest (named : Named) (steps steps' : List Step) (text rest : Bytes) : Type 0 where
  pub value : Bytes
  pub is : name text ≡ Some (record { value = value; rest = rest })
  pub steps_are : steps' ≡ steps ++ step.Keep (of_name named value) ∷ []

-- no name stands at the front
abbrev pub FailsName : ℕ → Bytes → Stop → Type 0
FailsName at text NoMemory = Unit {0}
FailsName at text (Found finding) = (finding ≡ Malformed BadName at) × (name text ≡ None)
