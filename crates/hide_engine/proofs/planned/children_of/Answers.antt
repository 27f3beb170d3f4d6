use Rattle.std.proofs.Common.{subst, sym}
use Rattle.selector_match.proofs.SiblingLaws.{forth_falls}
use Rattle.hide_engine.proofs.Children.{Walks, walk_start, walk_more}
use Rattle.hide_engine.proofs.planned.children_of.Goals as goal

pub siblings-init : goal.siblings-init
siblings-init c =
    subst (Walks c.args.dom.now c.args.n c.first_child-at.result) (sym c.new-found.ensures)
    (walk_start c.args.dom.now c.is_tree.ensures c.args.n c.first_child-at.result c.first_child-at.ensures)

pub siblings-smaller : goal.siblings-smaller
siblings-smaller c =
    forth_falls c.args.dom.now c.is_tree.ensures c.siblings.at c.in-Some.child c.in-Some.is c.siblings.invariant.there c.next-at.result c.next-at.ensures

pub siblings-preserved : goal.siblings-preserved
siblings-preserved c =
    subst (Walks c.args.dom.now c.args.n c.next-at.result) (sym c.in_ok-push.ensures.ok)
    (walk_more c.args.dom.now c.is_tree.ensures c.args.n c.siblings.at c.next-at.result c.in-Some.child c.siblings.found c.in-Some.is c.next-at.ensures c.siblings.invariant)
