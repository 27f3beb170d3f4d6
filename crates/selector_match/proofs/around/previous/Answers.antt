use Rattle.std.proofs.Common.{sym, ◌∙◌, ap, arith}
use Rattle.selector_match.proofs.SiblingLaws.{back_from, back_left, back_start, back_step, back_here, back_other}
use Rattle.selector_match.proofs.around.previous.Goals as goal

pub nodes-init : goal.nodes-init
nodes-init c =
    let r = back_start c.args.dom.now c.is_tree.ensures c.args.x c.requires c.previous-at.result c.previous-at.ensures in
    record { same = r.0; there = r.1 }

pub returns-then-is_element-clause-first : goal.returns-then-is_element-clause-first
returns-then-is_element-clause-first c =
    c.nodes.invariant.same
    ∙ back_here c.args.dom.now c.is_tree.ensures c.nodes.at c.in-Some.n c.in-Some.is (sym c.is_element.ensures ∙ c.if-is_element.true)

pub nodes-smaller : goal.nodes-smaller
nodes-smaller c =
    let r = back_step c.args.dom.now c.is_tree.ensures c.in-Some.n (c.nodes.invariant.there c.in-Some.n c.in-Some.is) c.previous-at-in-Some.result c.previous-at-in-Some.ensures in
    omega (arith, r.1, ap (back_left c.args.dom.now) c.in-Some.is)

pub nodes-preserved : goal.nodes-preserved
nodes-preserved c =
    let r = back_step c.args.dom.now c.is_tree.ensures c.in-Some.n (c.nodes.invariant.there c.in-Some.n c.in-Some.is) c.previous-at-in-Some.result c.previous-at-in-Some.ensures in
    record {
      same =
          c.nodes.invariant.same
          ∙ back_other c.args.dom.now c.is_tree.ensures c.nodes.at c.in-Some.n c.in-Some.is (sym c.is_element.ensures ∙ c.if-is_element.false) ∙ r.0;
      there = r.2;
    }

pub returns-clause-first : goal.returns-clause-first
returns-clause-first c = c.nodes.invariant.same ∙ ap (back_from c.args.dom.now) c.in_default.is
