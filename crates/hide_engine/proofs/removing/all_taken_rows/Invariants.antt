use Rattle.std.proofs.Common.{◌≡◌, ◌++◌, ℕ, Some, true, length}
use Rattle.page_tree.specs.Directions.{is_in}
use Rattle.cos_patterns.specs.Found.{pattern_found}
use Rattle.selector_tree.specs.declared.filter.Action.TheVariants.{Remove}
use Rattle.selector_meaning.specs.Hidden.{rows_of}
use Rattle.selector_match.specs.Asked.{IsElement}
use Rattle.selector_match.specs.Walks.{elements_behind, order}
use Rattle.selector_match.proofs.Walking.{from_one}
use Rattle.engine_meaning.specs.Hidden.{acts_on}
use Rattle.engine_meaning.specs.Rounds.{taken_in}
use Rattle.hide_engine.specs.Removing.{taken_rows}
use Rattle.hide_engine.proofs.removing.all_taken_rows.Given as goal

-- the rows so far and those of the elements that are left are all rows
abbrev pub invariant-elements : goal.invariant-elements
invariant-elements l =
    record {
      rows : l.rows ++ taken_rows (record { page = l.page; filters = l.active }) (rows_of (acts_on pattern_found l.active l.page.path l.dom Remove) l.active (from_one (elements_behind l.dom (order l.dom)) l.at))
          ≡ taken_in pattern_found l.active l.page.path l.dom 1;
      element : (m : ℕ) → l.at ≡ Some m → IsElement l.dom m;
      there : (m : ℕ) → l.at ≡ Some m → is_in (order l.dom) m ≡ true;
    }

abbrev pub decreases-elements : goal.decreases-elements
decreases-elements l = length (from_one (elements_behind l.dom (order l.dom)) l.at)
