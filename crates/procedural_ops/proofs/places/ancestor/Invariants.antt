use Rattle.std.proofs.Common.{◌≡◌, ◌<◌}
use Rattle.page_tree.specs.Standings.{above}
use Rattle.selector_meaning.specs.Meaning.{ancestor}
use Rattle.selector_match.specs.Asked.{IsElement}
use Rattle.procedural_ops.proofs.places.ancestor.Given as goal

abbrev pub invariant-loop-left : goal.invariant-loop-left
invariant-loop-left l = record {
  element : IsElement l.dom l.at;
  some : 0 < l.left;
  same : ancestor l.n (above l.dom l.y) ≡ ancestor l.left (above l.dom l.at);
}

abbrev pub decreases-loop-left : goal.decreases-loop-left
decreases-loop-left l = l.left
