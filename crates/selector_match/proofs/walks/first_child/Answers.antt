use Rattle.std.proofs.Common.{sym, ◌∙◌}
use Rattle.selector_match.proofs.SiblingLaws.{forth_step, forth_here, forth_other, forth_falls}
use Rattle.selector_match.proofs.Onward.{child_start}
use Rattle.selector_match.proofs.walks.first_child.Goals as goal

pub nodes-init : goal.nodes-init
nodes-init c =
    let s = child_start c.args.dom.now c.is_tree.ensures c.args.x c.first_child-at.result c.first_child-at.ensures in
    record { same = s.0; there = s.1 }

pub returns-then-is_element-clause-first : goal.returns-then-is_element-clause-first
returns-then-is_element-clause-first c =
    c.nodes.invariant.same
    ∙ forth_here c.args.dom.now c.is_tree.ensures c.nodes.at c.in-Some.n c.in-Some.is c.nodes.invariant.there (sym c.is_element.ensures ∙ c.if-is_element.true)

pub nodes-smaller : goal.nodes-smaller
nodes-smaller c =
    forth_falls c.args.dom.now c.is_tree.ensures c.nodes.at c.in-Some.n c.in-Some.is c.nodes.invariant.there c.next-at.result c.next-at.ensures

pub nodes-preserved : goal.nodes-preserved
nodes-preserved c = record {
  same =
      c.nodes.invariant.same
      ∙ sym (forth_other c.args.dom.now c.is_tree.ensures c.nodes.at c.in-Some.n c.in-Some.is c.nodes.invariant.there c.next-at.result c.next-at.ensures
      (sym c.is_element.ensures ∙ c.if-is_element.false));
  there = (forth_step c.args.dom.now c.is_tree.ensures c.in-Some.n c.next-at.result c.next-at.ensures).1;
}
