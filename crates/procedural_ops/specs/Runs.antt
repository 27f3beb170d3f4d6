-- Runs of tests in a chain, and what a test costs.
use Rattle.std.specs.Prelude.{ℕ, Bool, true, false, ◌||◌, not, if◌then◌else◌, Option, None, Some}
use Rattle.selector_tree.specs.declared.selector.Arg.{Arg}
use Rattle.selector_tree.specs.declared.selector.Arg.TheVariants.{Literal, Pattern}
use Rattle.selector_tree.specs.declared.selector.Step.{Step, out-Step}
use Rattle.selector_tree.specs.declared.selector.Step.TheOpen.{Step-F, Test-F}
use Rattle.selector_tree.specs.declared.selector.Test.{Test, out-Test}
use Rattle.page_tree.specs.Forest.{Tree}
use Rattle.cos_patterns.specs.Found.{pattern_found}
use Rattle.selector_meaning.specs.Texts.{Bytes}
use Rattle.selector_meaning.specs.Meaning.{holds}
use Rattle.selector_match.specs.Kinds.{is_single, is_plain_at}
use Rattle.procedural_ops.specs.declared.runs.Cost.{Cost}
use Rattle.procedural_ops.specs.declared.runs.Cost.TheVariants.{Names, Places, Texts, Patterns}

-- the step keeps by a test
abbrev pub is_keep_at : Step-F Step Test → Bool
is_keep_at (Step-F.Keep q) = true
is_keep_at _ = false

abbrev pub is_keep : Step → Bool
is_keep s = is_keep_at (out-Step s)

-- the step keeps by a test with selectors in it
abbrev pub is_nested_at : Step-F Step Test → Bool
is_nested_at (Step-F.Keep q) = not (is_single q)
is_nested_at _ = false

abbrev pub is_nested : Step → Bool
is_nested s = is_nested_at (out-Step s)

abbrev pub cost_of_text : Arg → Cost
cost_of_text (Literal l) = Texts
cost_of_text (Pattern body flags number) = Patterns

abbrev pub cost_at : Test-F Step Test → Option Cost
cost_at (Test-F.Is l) = None
cost_at (Test-F.Not l) = None
cost_at (Test-F.Has l) = None
cost_at (Test-F.HasText arg) = Some (cost_of_text arg)
cost_at (Test-F.MinText n) = Some Texts
cost_at (Test-F.MatchesPath arg) = Some (if is_plain_at (Test-F.MatchesPath arg) then Texts else Patterns)
cost_at (Test-F.MatchesAttr key value) = Some (if is_plain_at (Test-F.MatchesAttr key value) then Texts else Patterns)
cost_at Test-F.Empty = Some Places
cost_at (Test-F.Nth a b e o) = Some Places
cost_at (Test-F.Only o) = Some Places
cost_at _ = Some Names

-- what a test looks at; none where selectors stand in it
abbrev pub cost_of : Test → Option Cost
cost_of q = cost_at (out-Test q)

abbrev pub is_cost : Option Cost → Cost → Bool
is_cost (Some Names) Names = true
is_cost (Some Places) Places = true
is_cost (Some Texts) Texts = true
is_cost (Some Patterns) Patterns = true
is_cost _ _ = false

module _ (t : Tree) (path : Bytes) where
  -- the step keeps x by its test; a step without one keeps all
  abbrev pub keeps_at : ℕ → Step-F Step Test → Bool
  keeps_at x (Step-F.Keep q) = holds pattern_found t path q x
  keeps_at x _ = true

  abbrev pub keeps : ℕ → Step → Bool
  keeps x s = keeps_at x (out-Step s)

  -- the same, but for tests with selectors in them
  abbrev pub single_keeps_at : ℕ → Step-F Step Test → Bool
  single_keeps_at x (Step-F.Keep q) = not (is_single q) || holds pattern_found t path q x
  single_keeps_at x _ = true

  abbrev pub single_keeps : ℕ → Step → Bool
  single_keeps x s = single_keeps_at x (out-Step s)

  -- the same for tests with selectors in them alone
  abbrev pub nested_holds : Test → ℕ → Bool
  nested_holds q x = is_single q || holds pattern_found t path q x

  abbrev pub nested_keeps_at : ℕ → Step-F Step Test → Bool
  nested_keeps_at x (Step-F.Keep q) = nested_holds q x
  nested_keeps_at x _ = true

  abbrev pub nested_keeps : ℕ → Step → Bool
  nested_keeps x s = nested_keeps_at x (out-Step s)

  -- the same for tests of one cost
  abbrev pub cost_keeps_at : Cost → ℕ → Step-F Step Test → Bool
  cost_keeps_at cost x (Step-F.Keep q) = not (is_cost (cost_of q) cost) || holds pattern_found t path q x
  cost_keeps_at cost x _ = true

  abbrev pub cost_keeps : Cost → ℕ → Step → Bool
  cost_keeps cost x s = cost_keeps_at cost x (out-Step s)
