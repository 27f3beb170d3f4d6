-- When marks are the answers of filters on a page. A filter goes by its place in the list of filters.
use Rattle.std.specs.Prelude.{◌≡◌, ℕ, Bool, ◌&&◌, List}
use Rattle.cos_patterns.specs.Found.{pattern_found}
use Rattle.engine_meaning.specs.States.{State}
use Rattle.kept_marks.specs.Kept.{is_marked}
use Rattle.page_tree.specs.Standings.{all}
use Rattle.page_tree.specs.Directions.{is_in}
use Rattle.procedural_ops.specs.Told.{selector_at}
use Rattle.selector_meaning.specs.Meaning.{selects}

-- whether the filter at a place selects x; past the last none does
abbrev pub is_selected : State → ℕ → ℕ → Bool
is_selected s f x = selects pattern_found s.page.tree s.page.path (selector_at s.filters f) x

-- the marks are the pairs of a filter, whatever its action, and an element of the page that it selects
abbrev pub AreExact : State → List (ℕ × List ℕ) → Type 0
AreExact s rows = (f x : ℕ) → is_marked rows f x ≡ (is_in (all s.page.tree) x && is_selected s f x)
