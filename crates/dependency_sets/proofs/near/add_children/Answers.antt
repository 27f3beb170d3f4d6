use Rattle.std.proofs.Common.{true, sym, ◌∙◌}
use Rattle.selector_match.proofs.SiblingLaws.{forth_falls}
use Rattle.dependency_sets.proofs.Nearby.{walks_start, walks_here, walks_past, walks_end}
use Rattle.dependency_sets.proofs.near.add_children.Goals as goal
use Rattle.dependency_sets.proofs.near.add_children.Goals.{then-is_element+in_ok-add, else-is_element}

pub nodes-init : goal.nodes-init
nodes-init c = walks_start c.args.dom.now c.is_tree.ensures c.args.y c.args.found.now c.first_child-at.result c.first_child-at.ensures

pub nodes-preserved : goal.nodes-preserved
nodes-preserved c =
    let t = c.args.dom.now in
    elim c.if-is_element.branch [
      | then-is_element+in_ok-add w ↦ rw (w.found-is, w.in_ok-add.ensures)
          (walks_here t c.is_tree.ensures c.args.y c.in-Some.n c.args.found.now c.nodes.found c.nodes.at c.next-at.result c.nodes.invariant c.in-Some.is c.next-at.ensures
          (sym c.is_element.ensures ∙ w.if-is_element.true))
      | else-is_element w ↦ rw w.found-is
          (walks_past t c.is_tree.ensures c.args.y c.in-Some.n c.args.found.now c.nodes.found c.nodes.at c.next-at.result c.nodes.invariant c.in-Some.is c.next-at.ensures
          (sym c.is_element.ensures ∙ w.if-is_element.false))
    ]

pub nodes-smaller : goal.nodes-smaller
nodes-smaller c =
    forth_falls c.args.dom.now c.is_tree.ensures c.nodes.at c.in-Some.n c.in-Some.is c.nodes.invariant.there c.next-at.result c.next-at.ensures

pub returns : goal.returns
returns c =
    walks_end c.args.dom.now c.is_tree.ensures c.args.y c.requires c.args.found.now c.nodes.found
    (rw c.in_default.is at c.nodes.invariant)
