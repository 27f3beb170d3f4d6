use Rattle.std.proofs.Common.{sym, ◌∙◌}
use Rattle.selector_match.proofs.Under.{blank_start, blank_on, blank_off}
use Rattle.selector_match.proofs.below.is_blank.Goals as goal

pub nodes-init : goal.nodes-init
nodes-init c =
    let r = blank_start c.args.dom.now c.is_tree.ensures c.args.x c.requires c.first_child-at.result c.first_child-at.ensures in
    record { same = r.0; there = r.1 }

pub returns-then-is_filled : goal.returns-then-is_filled
returns-then-is_filled c =
    sym (c.nodes.invariant.same
    ∙ blank_off c.args.dom.now c.is_tree.ensures c.nodes.at c.in-Some.n c.in-Some.is c.nodes.invariant.there c.is_filled.result c.is_filled.ensures c.if-is_filled.true)

pub nodes-smaller : goal.nodes-smaller
nodes-smaller c =
    (blank_on c.args.dom.now c.is_tree.ensures c.nodes.at c.in-Some.n c.in-Some.is c.nodes.invariant.there c.is_filled.result c.is_filled.ensures c.if-is_filled.false
    c.next-at.result c.next-at.ensures).2

pub nodes-preserved : goal.nodes-preserved
nodes-preserved c =
    let on = blank_on c.args.dom.now c.is_tree.ensures c.nodes.at c.in-Some.n c.in-Some.is c.nodes.invariant.there c.is_filled.result c.is_filled.ensures c.if-is_filled.false
    c.next-at.result c.next-at.ensures in
    record { same = c.nodes.invariant.same ∙ on.0; there = on.1 }
