-- How many single tests the questions of filters may take.
use Rattle.std.specs.Prelude.{ℕ, ◌+◌, ◌*◌, ◌≤◌, max, List, [], ◌∷◌, length}
use Rattle.page_tree.specs.Forest.{Tree}
use Rattle.page_tree.specs.Standings.{all}
use Rattle.procedural_ops.specs.Noted.{simple_tests}
use Rattle.selector_tree.specs.declared.filter.Filter.{Filter}

-- the greatest number of tests without selectors in them that one of the filters has, at any depth; 0 where there is none
abbrev pub most_tests : List Filter → ℕ
most_tests [] = 0
most_tests (f ∷ filters) = max (simple_tests f.selector) (most_tests filters)

-- so many single tests one question takes at most: each of the filter's tests, asked of each element
unfoldable pub price : List Filter → Tree → ℕ
price filters t = most_tests filters * length (all t)

-- between two looks at the counts of questions and of single tests, each question took at most so many tests; neither fell
pub record IsPriced (cost asked asked_then tested tested_then : ℕ) : Type 0 where
  pub rises : asked ≤ asked_then
  pub within : tested_then + asked * cost ≤ tested + asked_then * cost
