use Rattle.std.proofs.Common.{◌≡◌, ◌++◌, ℕ, Some, true, filter, length}
use Rattle.page_tree.specs.Standings.{all}
use Rattle.page_tree.specs.Directions.{is_in}
use Rattle.selector_meaning.specs.Meaning.{is_other}
use Rattle.selector_match.specs.Asked.{IsElement}
use Rattle.selector_match.specs.Walks.{elements_behind, order}
use Rattle.selector_match.proofs.Walking.{from_one}
use Rattle.procedural_ops.proofs.other_elements.others.Given as goal

abbrev pub invariant-elements : goal.invariant-elements
invariant-elements l = record {
  found : l.found ++ filter (is_other l.dom l.members) (from_one (elements_behind l.dom (order l.dom)) l.at) ≡ filter (is_other l.dom l.members) (all l.dom);
  element : (m : ℕ) → l.at ≡ Some m → IsElement l.dom m;
  there : (m : ℕ) → l.at ≡ Some m → is_in (order l.dom) m ≡ true;
}

abbrev pub decreases-elements : goal.decreases-elements
decreases-elements l = length (from_one (elements_behind l.dom (order l.dom)) l.at)
