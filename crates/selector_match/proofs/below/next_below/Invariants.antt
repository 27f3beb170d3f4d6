use Rattle.std.proofs.Common.{◌≡◌, ◌<◌, None}
use Rattle.std.specs.Prelude.{unwrap_or}
use Rattle.page_tree.specs.Forest.{count, behind, depth_in}
use Rattle.page_tree.proofs.Below.{beyond}
use Rattle.selector_match.specs.Asked.{below}
use Rattle.selector_match.proofs.Under.{part}
use Rattle.selector_match.proofs.below.next_below.Given as goal

abbrev pub invariant-up : goal.invariant-up
invariant-up l = record {
  there : 0 < count l.at (part l.dom l.top);
  same : behind l.fn.from (below l.dom l.top) ≡ beyond l.at (part l.dom l.top) None;
}

abbrev pub decreases-up : goal.decreases-up
decreases-up l = unwrap_or (depth_in l.at 0 (part l.dom l.top)) 0
