use Rattle.std.proofs.Common.{◌≡◌, ◌&&◌, ◌||◌, ℕ, Some, true, length}
use Rattle.page_tree.specs.Standings.{all}
use Rattle.page_tree.specs.Directions.{is_in}
use Rattle.selector_match.specs.Asked.{IsElement}
use Rattle.selector_match.specs.Walks.{elements_behind, order}
use Rattle.selector_match.proofs.Walking.{from_one}
use Rattle.generic_tables.specs.declared.keys.Key.{Key}
use Rattle.generic_tables.specs.Keys.{carries}
use Rattle.generic_tables.specs.Filed.{holds}
use Rattle.generic_tables.proofs.tables.Tables.of.Given as goal

-- the elements so far and those that are left are all
abbrev pub invariant-elements : goal.invariant-elements
invariant-elements l = record {
  all : (k : Key) (x : ℕ) →
      (holds l.filed k x || (is_in (from_one (elements_behind l.dom (order l.dom)) l.at) x && carries l.dom k x)) ≡ (is_in (all l.dom) x && carries l.dom k x);
  element : (m : ℕ) → l.at ≡ Some m → IsElement l.dom m;
  there : (m : ℕ) → l.at ≡ Some m → is_in (order l.dom) m ≡ true;
}

abbrev pub decreases-elements : goal.decreases-elements
decreases-elements l = length (from_one (elements_behind l.dom (order l.dom)) l.at)
