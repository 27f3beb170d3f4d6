use Rattle.page_tree.specs.Forest.{rooted, size}
use Rattle.page_tree.proofs.Parts.{siblings_from}
use Rattle.hide_engine.proofs.Children.{Walks}
use Rattle.hide_engine.proofs.planned.children_of.Given as goal

abbrev pub invariant-siblings : goal.invariant-siblings
invariant-siblings l = Walks l.dom l.n l.at l.found

abbrev pub decreases-siblings : goal.decreases-siblings
decreases-siblings l = size (siblings_from l.at (rooted l.dom.nodes))
