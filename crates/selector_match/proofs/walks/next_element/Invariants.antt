use Rattle.std.proofs.Common.{◌≡◌, ℕ, Some, true, length}
use Rattle.page_tree.specs.Directions.{is_in}
use Rattle.selector_match.specs.Walks.{elements_behind, order}
use Rattle.selector_match.proofs.Onward.{left, elements_left}
use Rattle.selector_match.proofs.walks.next_element.Given as goal

abbrev pub invariant-nodes : goal.invariant-nodes
invariant-nodes l = record {
  same : elements_behind l.dom (order l.dom) l.from ≡ elements_left l.dom (order l.dom) l.at;
  there : (m : ℕ) → l.at ≡ Some m → is_in (order l.dom) m ≡ true;
}

abbrev pub decreases-nodes : goal.decreases-nodes
decreases-nodes l = length (left l.at (order l.dom))
