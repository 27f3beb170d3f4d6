use Rattle.std.proofs.Common.{sym, ◌∙◌, ap, filter}
use Rattle.page_tree.specs.Directions.{is_in}
use Rattle.page_tree.specs.Standings.{all}
use Rattle.page_tree.proofs.Walk.{once_in_order}
use Rattle.page_tree.specs.Forest.{rooted}
use Rattle.selector_match.specs.Walks.{order}
use Rattle.selector_match.proofs.Onward.{elements_left, step_on, left_here, left_other, left_falls}
use Rattle.selector_match.proofs.walks.next_element.Goals as goal

pub nodes-init : goal.nodes-init
nodes-init c =
    let on = step_on c.args.from (order c.args.dom.now) (once_in_order (rooted c.args.dom.now.nodes) c.is_tree.ensures.once) c.next_in_order-at.result c.next_in_order-at.ensures in
    record { same = ap (filter (is_in (all c.args.dom.now))) on.0; there = on.1 }

pub returns-then-is_element-clause-first : goal.returns-then-is_element-clause-first
returns-then-is_element-clause-first c =
    c.nodes.invariant.same ∙ left_here c.args.dom.now (order c.args.dom.now) c.nodes.at c.in-Some.n c.in-Some.is (sym c.is_element.ensures ∙ c.if-is_element.true)

pub nodes-smaller : goal.nodes-smaller
nodes-smaller c =
    let on = step_on c.in-Some.n (order c.args.dom.now) (once_in_order (rooted c.args.dom.now.nodes) c.is_tree.ensures.once) c.next_in_order-at-in-Some.result c.next_in_order-at-in-Some.ensures in
    left_falls c.args.dom.now (order c.args.dom.now) c.nodes.at c.next_in_order-at-in-Some.result c.in-Some.n c.in-Some.is on.0

pub nodes-preserved : goal.nodes-preserved
nodes-preserved c =
    let on = step_on c.in-Some.n (order c.args.dom.now) (once_in_order (rooted c.args.dom.now.nodes) c.is_tree.ensures.once) c.next_in_order-at-in-Some.result c.next_in_order-at-in-Some.ensures in
    record {
      same =
          c.nodes.invariant.same
          ∙ left_other c.args.dom.now (order c.args.dom.now) c.nodes.at c.in-Some.n c.in-Some.is (sym c.is_element.ensures ∙ c.if-is_element.false)
          ∙ ap (filter (is_in (all c.args.dom.now))) on.0;
      there = on.1;
    }

pub returns-clause-first : goal.returns-clause-first
returns-clause-first c = c.nodes.invariant.same ∙ ap (elements_left c.args.dom.now (order c.args.dom.now)) c.in_default.is
