-- The tests that a chain asks, at any depth, and the answers to them that are remembered.
use Rattle.std.specs.Prelude.{◌≡◌, ℕ, suc, ◌+◌, ◌<◌, Bool, not, cond, List, [], ◌∷◌, ◌++◌, map, length, Option, Some}
use Rattle.std.specs.List.{slice_index_or}
use Rattle.std.specs.Option.{is_some}
use Rattle.selector_tree.specs.declared.selector.Step.{Step, fold-Step}
use Rattle.selector_tree.specs.declared.selector.Step.TheOpen.{Step-F, Test-F}
use Rattle.selector_tree.specs.declared.selector.Step.TheFolds.{map-Step, map-Test}
use Rattle.selector_tree.specs.declared.selector.Step.TheViews.{roll-Step, roll-Test}
use Rattle.selector_tree.specs.declared.selector.Test.{Test, fold-Test}
use Rattle.selector_tree.specs.declared.selector.Test.TheVariants as test
use Rattle.page_tree.specs.Forest.{Tree}
use Rattle.page_tree.specs.Standings.{all}
use Rattle.cos_patterns.specs.Found.{pattern_found}
use Rattle.selector_meaning.specs.Texts.{Bytes}
use Rattle.selector_meaning.specs.Meaning.{holds}
use Rattle.selector_match.specs.Kinds.{is_single}
use Rattle.remembered.specs.Noted.{answer_at}
use Rattle.procedural_ops.specs.Count.{many_passing}
use Rattle.procedural_ops.specs.Runs.{is_nested}

-- the lists, one after another
abbrev pub joined : List (List Test) → List Test
joined [] = []
joined (tests ∷ more) = tests ++ joined more

-- one layer: the tests without selectors in it, at any depth
abbrev pub tests_in_step : Step-F (List Test) (List Test) → List Test
tests_in_step (Step-F.Keep q) = q
tests_in_step (Step-F.UpwardTo l) = joined (map joined l)
tests_in_step _ = []

abbrev pub tests_in_test : Test-F (List Test) (List Test) → List Test
tests_in_test Test-F.Any = test.Any ∷ []
tests_in_test (Test-F.Tag n) = test.Tag n ∷ []
tests_in_test (Test-F.Id v) = test.Id v ∷ []
tests_in_test (Test-F.Class v) = test.Class v ∷ []
tests_in_test (Test-F.Attr key op v i) = test.Attr key op v i ∷ []
tests_in_test Test-F.Root = test.Root ∷ []
tests_in_test Test-F.Empty = test.Empty ∷ []
tests_in_test (Test-F.Nth a b e o) = test.Nth a b e o ∷ []
tests_in_test (Test-F.Only o) = test.Only o ∷ []
tests_in_test (Test-F.Is l) = joined (map joined l)
tests_in_test (Test-F.Not l) = joined (map joined l)
tests_in_test (Test-F.Has l) = joined (map joined l)
tests_in_test (Test-F.HasText arg) = test.HasText arg ∷ []
tests_in_test (Test-F.MinText n) = test.MinText n ∷ []
tests_in_test (Test-F.MatchesPath arg) = test.MatchesPath arg ∷ []
tests_in_test (Test-F.MatchesAttr key value) = test.MatchesAttr key value ∷ []
tests_in_test (Test-F.WatchAttr names) = test.WatchAttr names ∷ []

-- the tests without selectors in them that a step asks, at any depth, in text order
abbrev pub step_tests : Step → List Test
step_tests = fold-Step (List Test) (List Test) tests_in_step tests_in_test

abbrev pub test_tests : Test → List Test
test_tests = fold-Test (List Test) (List Test) tests_in_step tests_in_test

unfoldable pub chain_tests : List Step → List Test
chain_tests steps = joined (map step_tests steps)

unfoldable pub selector_tests : List (List Step) → List Test
selector_tests l = joined (map joined (map (map step_tests) l))

-- how many tests without selectors in them a selector has, at any depth
abbrev pub simple_tests : List (List Step) → ℕ
simple_tests l = length (selector_tests l)

-- how many of them stand in tests of some steps with selectors in them
abbrev pub nested_tests : List Step → ℕ
nested_tests [] = 0
nested_tests (s ∷ steps) = cond (is_nested s) (length (step_tests s)) 0 + nested_tests steps

-- ---- all tests of a chain, at any depth, those with selectors in them too: each has its place among the notes

-- a step, or a test, with the tests in it
abbrev pub FullStep : Type 0
FullStep = Step × List Test

abbrev pub FullTest : Type 0
FullTest = Test × List Test

-- what stands in one layer
abbrev pub cells_in_step : Step-F (List Test) (List Test) → List Test
cells_in_step (Step-F.Keep q) = q
cells_in_step (Step-F.UpwardTo l) = joined (map joined l)
cells_in_step _ = []

abbrev pub cells_in_test : Test-F (List Test) (List Test) → List Test
cells_in_test (Test-F.Is l) = joined (map joined l)
cells_in_test (Test-F.Not l) = joined (map joined l)
cells_in_test (Test-F.Has l) = joined (map joined l)
cells_in_test _ = []

abbrev pub full_step : Step-F FullStep FullTest → FullStep
full_step o = (
  roll-Step (map-Step FullStep FullTest Step Test (λ s. s.0) (λ q. q.0) o),
  cells_in_step (map-Step FullStep FullTest (List Test) (List Test) (λ s. s.1) (λ q. q.1) o),
)

-- a test stands before those in it
abbrev pub full_test : Test-F FullStep FullTest → FullTest
full_test o = (
  roll-Test (map-Test FullStep FullTest Step Test (λ s. s.0) (λ q. q.0) o),
  roll-Test (map-Test FullStep FullTest Step Test (λ s. s.0) (λ q. q.0) o)
      ∷ cells_in_test (map-Test FullStep FullTest (List Test) (List Test) (λ s. s.1) (λ q. q.1) o),
)

abbrev pub step_cells : Step → List Test
step_cells s = (fold-Step FullStep FullTest full_step full_test s).1

abbrev pub test_cells : Test → List Test
test_cells q = (fold-Test FullStep FullTest full_step full_test q).1

unfoldable pub chain_cells : List Step → List Test
chain_cells steps = joined (map step_cells steps)

unfoldable pub selector_cells : List (List Step) → List Test
selector_cells l = joined (map joined (map (map step_cells) l))

-- how many of some tests have no selector in them
abbrev pub many_single : List Test → ℕ
many_single [] = 0
many_single (q ∷ tests) = cond (is_single q) 1 0 + many_single tests

-- ---- what is remembered

-- some tests stand among others one after another, the first of them at a place
pub record IsPart (tests : List Test) (first : ℕ) (part : List Test) : Type 0 where
  pub before : List Test
  pub behind : List Test
  pub is : tests ≡ before ++ (part ++ behind)
  pub long : length before ≡ first

-- how many answers of elements are missing for those of some tests that have no selector in them; the first stands at a place
abbrev pub missing : (ℕ → ℕ → Option Bool) → List ℕ → List Test → ℕ → ℕ
missing answers elements [] k = 0
missing answers elements (q ∷ tests) k =
    cond (is_single q) (many_passing (λ z. not (is_some (answers k z))) elements) 0 + missing answers elements tests (suc k)

module _ (t : Tree) (steps : List Step) (notes : List (List (ℕ × Bool))) where
  unfoldable pub unknown : ℕ
  unknown = missing (answer_at notes) (all t) (chain_cells steps) 0

  -- each test of the chain has its notes, and what they hold is right
  pub record IsRight (path : Bytes) : Type 0 where
    pub long : length notes ≡ length (chain_cells steps)
    pub right : (k x : ℕ) (b : Bool) (q : Test) → k < length notes → q ≡ slice_index_or (chain_cells steps) k q → answer_at notes k x ≡ Some b →
        b ≡ holds pattern_found t path q x
