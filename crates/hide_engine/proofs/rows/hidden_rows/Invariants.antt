use Rattle.std.proofs.Common.{◌≡◌, ◌++◌, ℕ, Some, true, map, length}
use Rattle.page_tree.specs.Directions.{is_in}
use Rattle.cos_patterns.specs.Found.{pattern_found}
use Rattle.selector_tree.specs.declared.filter.Action.TheVariants.{Hide}
use Rattle.selector_meaning.specs.Hidden.{rows_of}
use Rattle.selector_match.specs.Asked.{IsElement}
use Rattle.selector_match.specs.Walks.{elements_behind, order}
use Rattle.selector_match.proofs.Walking.{from_one}
use Rattle.engine_meaning.specs.Hidden.{pair_of, acts_on, hidden}
use Rattle.hide_engine.proofs.rows.hidden_rows.Given as goal

-- the rows so far and those of the elements that are left are all rows
abbrev pub invariant-elements : goal.invariant-elements
invariant-elements l =
    record {
      rows : map pair_of l.rows ++ rows_of (acts_on pattern_found l.active l.page.path l.dom Hide) l.active (from_one (elements_behind l.dom (order l.dom)) l.at) ≡ hidden pattern_found l.active l.page.path l.dom;
      element : (m : ℕ) → l.at ≡ Some m → IsElement l.dom m;
      there : (m : ℕ) → l.at ≡ Some m → is_in (order l.dom) m ≡ true;
    }

abbrev pub decreases-elements : goal.decreases-elements
decreases-elements l = length (from_one (elements_behind l.dom (order l.dom)) l.at)
