-- The questions that the search asks of the elements around one element.
use Rattle.std.specs.Prelude.{ℕ, Bool, ◌&&◌, take, if◌then◌else◌}
use Rattle.std.specs.List.{list_any}
use Rattle.selector_tree.specs.declared.selector.Place.{Place}
use Rattle.selector_tree.specs.declared.selector.Step.{Step}
use Rattle.page_tree.specs.Forest.{Tree}
use Rattle.selector_meaning.specs.Texts.{Bytes}
use Rattle.selector_meaning.specs.Meaning.{option_is}
use Rattle.selector_match.specs.Asked.{below, is_one_step, sources}
use Rattle.procedural_ops.specs.Reaching.{lifted}
use Rattle.selector_match.specs.Walks.{elements_behind, targets}

module _ (t : Tree) where
  -- an element from which the combinator leads to x passes
  abbrev pub some_source : Place → (ℕ → Bool) → ℕ → Bool
  some_source place test x = list_any test (if is_one_step place then take 1 (sources t place x) else sources t place x)

  -- an element to which the combinator leads from x passes
  abbrev pub some_target : Place → (ℕ → Bool) → ℕ → Bool
  some_target place test x = list_any test (targets t place x)

  -- an element below x, from which the step leads up to x, passes
  abbrev pub some_lifted : Bytes → Step → (ℕ → Bool) → ℕ → Bool
  some_lifted path step test x = list_any (λ y. option_is (lifted t path step y) x && test y) (elements_behind t (below t x) x)
