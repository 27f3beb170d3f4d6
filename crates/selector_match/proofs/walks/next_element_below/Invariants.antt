use Rattle.std.proofs.Common.{◌≡◌, ℕ, Some, true, length}
use Rattle.page_tree.specs.Directions.{is_in}
use Rattle.selector_match.specs.Asked.{below}
use Rattle.selector_match.specs.Walks.{elements_behind}
use Rattle.selector_match.proofs.Onward.{left, elements_left}
use Rattle.selector_match.proofs.walks.next_element_below.Given as goal

abbrev pub invariant-nodes : goal.invariant-nodes
invariant-nodes l = record {
  same : elements_behind l.dom (below l.dom l.top) l.from ≡ elements_left l.dom (below l.dom l.top) l.at;
  there : (m : ℕ) → l.at ≡ Some m → is_in (below l.dom l.top) m ≡ true;
}

abbrev pub decreases-nodes : goal.decreases-nodes
decreases-nodes l = length (left l.at (below l.dom l.top))
