use Rattle.std.proofs.Common.{sym, ◌∙◌}
use Rattle.selector_match.proofs.Under.{in_part, first_below, leaf_below, end_below, next_is, up_is, no_up}
use Rattle.selector_match.proofs.below.next_below.Goals as goal

pub returns-in-Some : goal.returns-in-Some
returns-in-Some c =
    first_below c.args.dom.now c.is_tree.ensures c.args.top c.requires.element c.args.from c.in-Some.child c.requires.there c.in-Some.ensures

pub up-init : goal.up-init
up-init c = record {
  there = in_part c.args.dom.now c.is_tree.ensures c.args.top c.requires.element c.args.from c.requires.there;
  same = leaf_below c.args.dom.now c.is_tree.ensures c.args.top c.requires.element c.args.from c.requires.there (sym c.first_child.ensures ∙ c.in_default.is);
}

pub returns-in-Some-next : goal.returns-in-Some-next
returns-in-Some-next c =
    sym (c.up.invariant.same
    ∙ next_is c.args.dom.now c.is_tree.ensures c.args.top c.requires.element c.up.at c.up-test.true c.up.invariant.there c.in-Some-next.next c.in-Some-next.ensures)

pub up-smaller : goal.up-smaller
up-smaller c =
    (up_is c.args.dom.now c.is_tree.ensures c.args.top c.requires.element c.up.at c.up-test.true c.up.invariant.there (sym c.next.ensures ∙ c.in_default-next.is)
    c.in-Some-parent.parent c.in-Some-parent.ensures).2

pub up-preserved : goal.up-preserved
up-preserved c =
    let up = up_is c.args.dom.now c.is_tree.ensures c.args.top c.requires.element c.up.at c.up-test.true c.up.invariant.there (sym c.next.ensures ∙ c.in_default-next.is)
    c.in-Some-parent.parent c.in-Some-parent.ensures in
    record { there = up.0; same = c.up.invariant.same ∙ up.1 }

pub returns-in-None : goal.returns-in-None
returns-in-None c =
    absurd (no_up c.args.dom.now c.is_tree.ensures c.args.top c.requires.element c.up.at c.up-test.true c.up.invariant.there (sym c.next.ensures ∙ c.in_default-next.is) c.in-None.ensures)

pub returns : goal.returns
returns c = sym (c.up.invariant.same ∙ end_below c.args.dom.now c.is_tree.ensures c.args.top c.requires.element c.up.at c.up-test.false)
