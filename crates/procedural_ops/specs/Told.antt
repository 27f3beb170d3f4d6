-- A verdict, and the filter that it is about.
use Rattle.std.specs.Prelude.{ℕ, Bool, List, [], slice_get, option_map, unwrap_or}
use Rattle.selector_tree.specs.declared.filter.Filter.{Filter}
use Rattle.selector_tree.specs.declared.selector.Step.{Step}

-- whether a filter selects an element: the filter's place, the element's number and the answer
pub record Told : Type 0 where
  pub filter : ℕ
  pub element : ℕ
  pub yes : Bool

-- the selector of the filter at a place; none past the last
abbrev pub selector_at : List Filter → ℕ → List (List Step)
selector_at active f = unwrap_or (option_map (λ filter. filter.selector) (slice_get active f)) []
