use Rattle.std.proofs.Common.{sym, ◌∙◌, ap, filter}
use Rattle.page_tree.specs.Directions.{is_in}
use Rattle.page_tree.specs.Standings.{all}
use Rattle.selector_match.specs.Asked.{below}
use Rattle.selector_match.proofs.Under.{once_below}
use Rattle.selector_match.proofs.Onward.{elements_left, step_on, left_here, left_other, left_falls}
use Rattle.selector_match.proofs.walks.next_element_below.Goals as goal

pub nodes-init : goal.nodes-init
nodes-init c =
    let on = step_on c.args.from (below c.args.dom.now c.args.top) (once_below c.args.dom.now c.is_tree.ensures c.args.top c.requires.element) c.next_below-at.result c.next_below-at.ensures in
    record { same = ap (filter (is_in (all c.args.dom.now))) on.0; there = on.1 }

pub returns-then-is_element-clause-first : goal.returns-then-is_element-clause-first
returns-then-is_element-clause-first c =
    c.nodes.invariant.same ∙ left_here c.args.dom.now (below c.args.dom.now c.args.top) c.nodes.at c.in-Some.n c.in-Some.is (sym c.is_element.ensures ∙ c.if-is_element.true)

pub nodes-smaller : goal.nodes-smaller
nodes-smaller c =
    let on = step_on c.in-Some.n (below c.args.dom.now c.args.top) (once_below c.args.dom.now c.is_tree.ensures c.args.top c.requires.element) c.next_below-at-in-Some.result c.next_below-at-in-Some.ensures in
    left_falls c.args.dom.now (below c.args.dom.now c.args.top) c.nodes.at c.next_below-at-in-Some.result c.in-Some.n c.in-Some.is on.0

pub nodes-preserved : goal.nodes-preserved
nodes-preserved c =
    let on = step_on c.in-Some.n (below c.args.dom.now c.args.top) (once_below c.args.dom.now c.is_tree.ensures c.args.top c.requires.element) c.next_below-at-in-Some.result c.next_below-at-in-Some.ensures in
    record {
      same =
          c.nodes.invariant.same
          ∙ left_other c.args.dom.now (below c.args.dom.now c.args.top) c.nodes.at c.in-Some.n c.in-Some.is (sym c.is_element.ensures ∙ c.if-is_element.false)
          ∙ ap (filter (is_in (all c.args.dom.now))) on.0;
      there = on.1;
    }

pub returns-clause-first : goal.returns-clause-first
returns-clause-first c = c.nodes.invariant.same ∙ ap (elements_left c.args.dom.now (below c.args.dom.now c.args.top)) c.in_default.is
