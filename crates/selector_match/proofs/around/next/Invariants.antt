use Rattle.std.proofs.Common.{◌≡◌}
use Rattle.page_tree.specs.Forest.{rooted, size, first}
use Rattle.page_tree.specs.Standings.{after}
use Rattle.page_tree.proofs.Parts.{siblings_from}
use Rattle.selector_match.proofs.SiblingLaws.{forth_from}
use Rattle.selector_match.proofs.around.next.Given as goal

abbrev pub invariant-nodes : goal.invariant-nodes
invariant-nodes l = record {
  same : after l.dom l.x ≡ forth_from l.dom l.at;
  there : first (siblings_from l.at (rooted l.dom.nodes)) ≡ l.at;
}

abbrev pub decreases-nodes : goal.decreases-nodes
decreases-nodes l = size (siblings_from l.at (rooted l.dom.nodes))
