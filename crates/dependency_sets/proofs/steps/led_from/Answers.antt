use Rattle.std.proofs.Common.{sym, ap, ◌∙◌}
use Rattle.page_tree.specs.Directions.{is_in}
use Rattle.sensor_meaning.specs.Dirty.{led}
use Rattle.dependency_sets.proofs.Members.{if_ok}
use Rattle.dependency_sets.proofs.Leading.{to_children, to_all_below, to_parents, to_all_above, to_nexts, to_all_after, to_previouses, to_all_before, to_none, to_whole}
use Rattle.dependency_sets.proofs.steps.led_from.Goals as goal

pub returns-in-ToChild : goal.returns-in-ToChild
returns-in-ToChild c = rw c.in-ToChild.is (if_ok c.near_from.result (λ to h. to_children c.args.dom.now c.args.from.now to h) c.near_from.ensures)

pub returns-in-ToBelow : goal.returns-in-ToBelow
returns-in-ToBelow c = rw c.in-ToBelow.is (if_ok c.all_from.result (λ to h. to_all_below c.args.dom.now c.args.from.now to h) c.all_from.ensures)

pub returns-in-ToParent : goal.returns-in-ToParent
returns-in-ToParent c = rw c.in-ToParent.is (if_ok c.near_from-in-ToParent.result (λ to h. to_parents c.args.dom.now c.args.from.now to h) c.near_from-in-ToParent.ensures)

pub returns-in-ToAbove : goal.returns-in-ToAbove
returns-in-ToAbove c = rw c.in-ToAbove.is (if_ok c.all_from-in-ToAbove.result (λ to h. to_all_above c.args.dom.now c.args.from.now to h) c.all_from-in-ToAbove.ensures)

pub returns-in-ToNext : goal.returns-in-ToNext
returns-in-ToNext c = rw c.in-ToNext.is (if_ok c.near_from-in-ToNext.result (λ to h. to_nexts c.args.dom.now c.args.from.now to h) c.near_from-in-ToNext.ensures)

pub returns-in-ToAfter : goal.returns-in-ToAfter
returns-in-ToAfter c = rw c.in-ToAfter.is (if_ok c.all_from-in-ToAfter.result (λ to h. to_all_after c.args.dom.now c.args.from.now to h) c.all_from-in-ToAfter.ensures)

pub returns-in-ToPrevious : goal.returns-in-ToPrevious
returns-in-ToPrevious c = rw c.in-ToPrevious.is (if_ok c.near_from-in-ToPrevious.result (λ to h. to_previouses c.args.dom.now c.args.from.now to h) c.near_from-in-ToPrevious.ensures)

pub returns-in-ToBefore : goal.returns-in-ToBefore
returns-in-ToBefore c = rw c.in-ToBefore.is (if_ok c.all_from-in-ToBefore.result (λ to h. to_all_before c.args.dom.now c.args.from.now to h) c.all_from-in-ToBefore.ensures)

pub returns-in-true : goal.returns-in-true
returns-in-true c = λ x.
    ap (λ l. is_in l x) c.new.ensures ∙ to_none c.args.dom.now c.args.from.now (sym c.is_empty.ensures ∙ c.in-true.is) x
    ∙ ap (λ w. is_in (led c.args.dom.now w c.args.from.now) x) (sym c.in-Whole.is)

pub returns-in-false : goal.returns-in-false
returns-in-false c =
    rw c.in-Whole.is
    (if_ok c.all_from-in-false.result (λ to h. to_whole c.args.dom.now c.args.from.now to (sym c.is_empty.ensures ∙ c.in-false.is) h) c.all_from-in-false.ensures)
