-- The rows of a round, one element after another.
use Rattle.std.specs.Prelude.{ℕ, List, map, filter}
use Rattle.cos_patterns.specs.Found.{pattern_found}
use Rattle.selector_tree.specs.declared.filter.Taken.{Taken}
use Rattle.engine_meaning.specs.States.{State}
use Rattle.engine_meaning.specs.Rounds.{is_outermost, taken_row}

-- the outermost of these removed elements, as taken in round 1
abbrev pub taken_rows : State → List (ℕ × List ℕ) → List Taken
taken_rows s rows =
    map (taken_row pattern_found s.filters s.page.path s.page.tree 1)
    (filter (λ row. is_outermost pattern_found s.filters s.page.path s.page.tree row.0) rows)
