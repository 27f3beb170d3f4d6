use Rattle.page_tree.specs.Forest.{rooted, size}
use Rattle.page_tree.proofs.Parts.{siblings_from}
use Rattle.dependency_sets.proofs.Nearby.{Walks}
use Rattle.dependency_sets.proofs.near.add_children.Given as goal

abbrev pub invariant-nodes : goal.invariant-nodes
invariant-nodes l = Walks l.dom l.y l.initial.found l.at l.found

abbrev pub decreases-nodes : goal.decreases-nodes
decreases-nodes l = size (siblings_from l.at (rooted l.dom.nodes))
