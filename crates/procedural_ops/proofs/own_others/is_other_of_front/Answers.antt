use Rattle.std.proofs.Common.{◌∙◌, List, sym, ap, arith}
use Rattle.selector_tree.specs.declared.selector.Step.{Step}
use Rattle.procedural_ops.specs.Noted.{chain_cells}
use Rattle.procedural_ops.specs.Others.{leads_below}
use Rattle.procedural_ops.proofs.Around as around
use Rattle.procedural_ops.proofs.Parts as parts
use Rattle.procedural_ops.proofs.Remembered as remembered
use Rattle.procedural_ops.proofs.own_others.is_other_of_front.Goals as goal

pub reaches_above-requires-clause-at : goal.reaches_above-requires-clause-at
reaches_above-requires-clause-at g c =
    parts.part_all (chain_cells c.args.steps.now)

pub reaches_below-requires-clause-at : goal.reaches_below-requires-clause-at
reaches_below-requires-clause-at g c =
    parts.part_all (chain_cells c.args.steps.now)

pub reaches_below_parent-requires-clause-at : goal.reaches_below_parent-requires-clause-at
reaches_below_parent-requires-clause-at g c =
    parts.part_all (chain_cells c.args.steps.now)

pub returns-in_err-reaches_above-clause-asked : goal.returns-in_err-reaches_above-clause-asked
returns-in_err-reaches_above-clause-asked g c =
    omega (arith, c.reaches_above.ensures.asked, remembered.few_unknown c.args.context.now.dom.now c.args.steps.now c.in_ok-notes.notes)

pub returns-then-branch-clause-asked : goal.returns-then-branch-clause-asked
returns-then-branch-clause-asked g c =
    omega (arith, c.reaches_above.ensures.asked, remembered.few_unknown c.args.context.now.dom.now c.args.steps.now c.in_ok-notes.notes)

pub returns-in_err-reaches_below-clause-asked : goal.returns-in_err-reaches_below-clause-asked
returns-in_err-reaches_below-clause-asked g c =
    omega (arith, c.reaches_above.ensures.asked, c.reaches_below.ensures.asked, remembered.few_unknown c.args.context.now.dom.now c.args.steps.now c.in_ok-notes.notes)

pub returns-then-branch-2-clause-asked : goal.returns-then-branch-2-clause-asked
returns-then-branch-2-clause-asked g c =
    omega (arith, c.reaches_above.ensures.asked, c.reaches_below.ensures.asked, remembered.few_unknown c.args.context.now.dom.now c.args.steps.now c.in_ok-notes.notes)

pub returns-in-Some-clause-asked : goal.returns-in-Some-clause-asked
returns-in-Some-clause-asked g c =
    omega (arith, c.reaches_above.ensures.asked, c.reaches_below.ensures.asked, remembered.few_unknown c.args.context.now.dom.now c.args.steps.now c.in_ok-notes.notes)

pub returns-in_err-found-clause-asked : goal.returns-in_err-found-clause-asked
returns-in_err-found-clause-asked g c =
    omega (arith, c.reaches_above.ensures.asked, c.reaches_below.ensures.asked, c.reaches_below_parent.ensures.asked, remembered.few_unknown c.args.context.now.dom.now c.args.steps.now c.in_ok-notes.notes)

pub returns-in_err-put-clause-asked : goal.returns-in_err-put-clause-asked
returns-in_err-put-clause-asked g c =
    omega (arith, c.reaches_above.ensures.asked, c.reaches_below.ensures.asked, c.reaches_below_parent.ensures.asked, remembered.few_unknown c.args.context.now.dom.now c.args.steps.now c.in_ok-notes.notes)

pub returns-clause-asked : goal.returns-clause-asked
returns-clause-asked g c =
    omega (arith, c.reaches_above.ensures.asked, c.reaches_below.ensures.asked, c.reaches_below_parent.ensures.asked, remembered.few_unknown c.args.context.now.dom.now c.args.steps.now c.in_ok-notes.notes)

pub returns-then-branch-clause-answer : goal.returns-then-branch-clause-answer
returns-then-branch-clause-answer g c =
    around.hit_above c.args.context.now.dom.now c.is_tree.ensures c.args.context.now.path.now c.args.steps.now c.args.x c.requires.element (sym c.in_ok-reaches_above.ensures.answer ∙ c.if-branch.true)

pub returns-then-branch-2-clause-answer : goal.returns-then-branch-2-clause-answer
returns-then-branch-2-clause-answer g c =
    around.hit_below c.args.context.now.dom.now c.is_tree.ensures c.args.context.now.path.now c.args.steps.now c.args.x c.requires.element (sym c.in_ok-reaches_below.ensures.answer ∙ c.if-branch-2.true)

pub returns-in-Some-clause-answer : goal.returns-in-Some-clause-answer
returns-in-Some-clause-answer g c =
    c.requires.right.right _ c.in-Some.known (sym c.in-Some.ensures)
    ∙ ap (λ (s : List Step). leads_below c.args.context.now.dom.now c.args.context.now.path.now s c.parent_or_document.result) (sym c.requires.front)
    ∙ ap (leads_below c.args.context.now.dom.now c.args.context.now.path.now c.args.steps.now) c.parent_or_document.ensures
    ∙ around.beside_is_other c.args.context.now.dom.now c.is_tree.ensures c.args.context.now.path.now c.args.steps.now c.args.x c.requires.element
    (sym c.in_ok-reaches_above.ensures.answer ∙ c.if-branch.false) (sym c.in_ok-reaches_below.ensures.answer ∙ c.if-branch-2.false) (sym c.is_shown.ensures ∙ c.if-not-is_shown.false)

pub returns-clause-answer : goal.returns-clause-answer
returns-clause-answer g c =
    c.in_ok-found.ensures.answer ∙ around.beside_is_other c.args.context.now.dom.now c.is_tree.ensures c.args.context.now.path.now c.args.steps.now c.args.x c.requires.element
    (sym c.in_ok-reaches_above.ensures.answer ∙ c.if-branch.false) (sym c.in_ok-reaches_below.ensures.answer ∙ c.if-branch-2.false) (sym c.is_shown.ensures ∙ c.if-not-is_shown.false)
