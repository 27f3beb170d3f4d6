use Rattle.selector_match.proofs.SiblingLaws.{no_parent, top_parent, up_parent}
use Rattle.selector_match.proofs.around.parent.Goals as goal

pub returns-in-None-clause-first : goal.returns-in-None-clause-first
returns-in-None-clause-first c = no_parent c.args.dom.now c.is_tree.ensures c.args.x c.requires c.in-None.ensures

pub returns-then-parent-eq0-clause-first : goal.returns-then-parent-eq0-clause-first
returns-then-parent-eq0-clause-first c =
    top_parent c.args.dom.now c.is_tree.ensures c.args.x c.requires c.in-Some.parent c.in-Some.ensures c.if-parent-eq0.true

pub returns-else-parent-eq0-clause-first : goal.returns-else-parent-eq0-clause-first
returns-else-parent-eq0-clause-first c =
    (up_parent c.args.dom.now c.is_tree.ensures c.args.x c.requires c.in-Some.parent c.in-Some.ensures c.if-parent-eq0.false).0

pub returns-else-parent-eq0-clause-element : goal.returns-else-parent-eq0-clause-element
returns-else-parent-eq0-clause-element c =
    (up_parent c.args.dom.now c.is_tree.ensures c.args.x c.requires c.in-Some.parent c.in-Some.ensures c.if-parent-eq0.false).1
