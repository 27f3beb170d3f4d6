use Rattle.std.proofs.Common.{◌≡◌}
use Rattle.page_tree.specs.Forest.{rooted, size, first}
use Rattle.page_tree.specs.Facts.{is_blank}
use Rattle.page_tree.specs.Standings.{inner}
use Rattle.page_tree.proofs.Parts.{siblings_from}
use Rattle.selector_match.proofs.below.is_blank.Given as goal

abbrev pub invariant-nodes : goal.invariant-nodes
invariant-nodes l = record {
  same : is_blank (inner l.dom l.x) ≡ is_blank (siblings_from l.at (rooted l.dom.nodes));
  there : first (siblings_from l.at (rooted l.dom.nodes)) ≡ l.at;
}

abbrev pub decreases-nodes : goal.decreases-nodes
decreases-nodes l = size (siblings_from l.at (rooted l.dom.nodes))
