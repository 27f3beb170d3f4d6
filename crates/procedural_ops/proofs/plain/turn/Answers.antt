use Rattle.std.proofs.Common.{◌-◌, Option, Some, take, drop, ap, sym, subst, ◌∙◌, arith}
use Rattle.procedural_ops.specs.Count.{unasked_in}
use Rattle.procedural_ops.specs.Once.{GoesFurther}
use Rattle.procedural_ops.specs.Standing.{GoesOn, is_open_at, remaining_at}
use Rattle.procedural_ops.specs.declared.climb.Climb.{Climb}
use Rattle.procedural_ops.proofs.Asking as asking
use Rattle.procedural_ops.proofs.Climbs as climbs
use Rattle.procedural_ops.proofs.Counts as counts
use Rattle.procedural_ops.proofs.Simple as simple
use Rattle.procedural_ops.proofs.Weights as weights
use Rattle.procedural_ops.proofs.plain.turn.Goals as goal

pub singles_hold-requires-clause-proper : goal.singles_hold-requires-clause-proper
singles_hold-requires-clause-proper g c =
    weights.own_slice c.args.context.now.table.now.patterns (c.args.climb.now.here.left - c.run_start-first.result) c.run_start-first.result c.args.steps.now c.requires.proper

pub returns-then-branch-clause-once : goal.returns-then-branch-clause-once
returns-then-branch-clause-once g c =
    subst (λ (d : Climb). GoesFurther c.args.context.now.dom.now c.args.steps.now c.args.climb.now (Some d)) (sym c.descend.ensures)
    (asking.tests_further c.args.context.now.dom.now c.is_tree.ensures c.args.context.now.path.now c.args.steps.now c.args.climb.now c.requires.stands c.requires.level c.requires.some c.index-steps-left.result c.index-steps-left.is
    c.in-Keep.field-0 c.in-Keep.is c.run_start-first.result c.run_start-first.ensures.within c.run_start-first.ensures.run)

pub returns-then-branch-clause-goes : goal.returns-then-branch-clause-goes
returns-then-branch-clause-goes g c =
    subst (λ (d : Climb). GoesOn c.args.context.now.dom.now c.args.context.now.path.now c.args.steps.now (is_open_at c.args.context.now.dom.now c.args.context.now.path.now c.args.steps.now c.args.climb.now) (remaining_at c.args.context.now.dom.now c.args.context.now.path.now c.args.steps.now c.args.climb.now) (Some d)) (sym c.descend.ensures)
    (climbs.tests_hold c.args.context.now.dom.now c.is_tree.ensures c.args.context.now.path.now c.args.steps.now c.args.climb.now c.requires.stands c.requires.some c.index-steps-left.result c.index-steps-left.is
    c.in-Keep.field-0 c.in-Keep.is c.run_start-first.result c.run_start-first.ensures.within c.run_start-first.ensures.run c.in_ok-singles_hold-in-Keep.field-0
    (c.in_ok-singles_hold-in-Keep.ensures.answer ∙ simple.plain_run c.args.context.now.dom.now c.args.context.now.path.now c.args.climb.now.here.at (take (c.args.climb.now.here.left - c.run_start-first.result) (drop c.run_start-first.result c.args.steps.now)) (simple.plain_slice (c.args.climb.now.here.left - c.run_start-first.result) c.run_start-first.result c.args.steps.now c.requires.plain)) c.if-branch.true)

pub returns-then-branch-clause-asked : goal.returns-then-branch-clause-asked
returns-then-branch-clause-asked g c =
    let h = counts.descend_asked c.args.context.now.dom.now c.is_tree.ensures c.args.context.now.path.now c.args.steps.now c.args.climb.now c.requires.stands c.requires.level c.requires.some c.index-steps-left.result c.index-steps-left.is
    c.in-Keep.field-0 c.in-Keep.is c.run_start-first.result c.run_start-first.ensures.within c.run_start-first.ensures.run in
    let e = ap (λ (d : Climb). unasked_in c.args.context.now.dom.now c.args.steps.now (Some d)) c.descend.ensures in
    omega (arith, h, e, c.singles_hold.ensures.asked)

pub returns-else-branch-clause-once : goal.returns-else-branch-clause-once
returns-else-branch-clause-once g c =
    subst (λ (d : Option Climb). GoesFurther c.args.context.now.dom.now c.args.steps.now c.args.climb.now d) (sym c.retreat.ensures)
    (asking.retreat_further c.args.context.now.dom.now c.is_tree.ensures c.args.context.now.path.now c.args.steps.now c.args.climb.now c.requires.stands c.requires.level)

pub returns-else-branch-clause-goes : goal.returns-else-branch-clause-goes
returns-else-branch-clause-goes g c =
    subst (λ (d : Option Climb). GoesOn c.args.context.now.dom.now c.args.context.now.path.now c.args.steps.now (is_open_at c.args.context.now.dom.now c.args.context.now.path.now c.args.steps.now c.args.climb.now) (remaining_at c.args.context.now.dom.now c.args.context.now.path.now c.args.steps.now c.args.climb.now) d) (sym c.retreat.ensures)
    (climbs.tests_fail c.args.context.now.dom.now c.is_tree.ensures c.args.context.now.path.now c.args.steps.now c.args.climb.now c.requires.stands c.requires.some c.index-steps-left.result c.index-steps-left.is
    c.in-Keep.field-0 c.in-Keep.is c.run_start-first.result c.run_start-first.ensures.within c.run_start-first.ensures.run c.in_ok-singles_hold-in-Keep.field-0
    (c.in_ok-singles_hold-in-Keep.ensures.answer ∙ simple.plain_run c.args.context.now.dom.now c.args.context.now.path.now c.args.climb.now.here.at (take (c.args.climb.now.here.left - c.run_start-first.result) (drop c.run_start-first.result c.args.steps.now)) (simple.plain_slice (c.args.climb.now.here.left - c.run_start-first.result) c.run_start-first.result c.args.steps.now c.requires.plain)) c.if-branch.false)

pub returns-else-branch-clause-asked : goal.returns-else-branch-clause-asked
returns-else-branch-clause-asked g c =
    let h = counts.retreat_asked c.args.context.now.dom.now c.is_tree.ensures c.args.context.now.path.now c.args.steps.now c.args.climb.now c.requires.stands c.requires.level c.requires.some c.index-steps-left.result c.index-steps-left.is
    c.in-Keep.field-0 c.in-Keep.is c.run_start-first.result c.run_start-first.ensures.within c.run_start-first.ensures.run in
    let e = ap (λ (d : Option Climb). unasked_in c.args.context.now.dom.now c.args.steps.now d) c.retreat.ensures in
    omega (arith, h, e, c.singles_hold.ensures.asked)

pub returns-then-branch-clause-few : goal.returns-then-branch-clause-few
returns-then-branch-clause-few g c =
    let h = counts.descend_asked c.args.context.now.dom.now c.is_tree.ensures c.args.context.now.path.now c.args.steps.now c.args.climb.now c.requires.stands c.requires.level c.requires.some c.index-steps-left.result c.index-steps-left.is
    c.in-Keep.field-0 c.in-Keep.is c.run_start-first.result c.run_start-first.ensures.within c.run_start-first.ensures.run in
    omega (arith, h, c.singles_hold.ensures.asked)

pub returns-else-branch-clause-few : goal.returns-else-branch-clause-few
returns-else-branch-clause-few g c =
    let h = counts.descend_asked c.args.context.now.dom.now c.is_tree.ensures c.args.context.now.path.now c.args.steps.now c.args.climb.now c.requires.stands c.requires.level c.requires.some c.index-steps-left.result c.index-steps-left.is
    c.in-Keep.field-0 c.in-Keep.is c.run_start-first.result c.run_start-first.ensures.within c.run_start-first.ensures.run in
    omega (arith, h, c.singles_hold.ensures.asked)

pub returns-in-Move-clause-once : goal.returns-in-Move-clause-once
returns-in-Move-clause-once g c =
    subst (λ (d : Option Climb). GoesFurther c.args.context.now.dom.now c.args.steps.now c.args.climb.now d) (sym c.advance.ensures)
    (asking.move_further c.args.context.now.dom.now c.is_tree.ensures c.args.context.now.path.now c.args.steps.now c.args.climb.now c.requires.stands c.requires.level c.requires.some c.index-steps-left.result c.index-steps-left.is c.in-Move.place c.in-Move.is)

pub returns-in-Move-clause-goes : goal.returns-in-Move-clause-goes
returns-in-Move-clause-goes g c =
    subst (λ (d : Option Climb). GoesOn c.args.context.now.dom.now c.args.context.now.path.now c.args.steps.now (is_open_at c.args.context.now.dom.now c.args.context.now.path.now c.args.steps.now c.args.climb.now) (remaining_at c.args.context.now.dom.now c.args.context.now.path.now c.args.steps.now c.args.climb.now) d) (sym c.advance.ensures)
    (climbs.move_goes c.args.context.now.dom.now c.is_tree.ensures c.args.context.now.path.now c.args.steps.now c.args.climb.now c.requires.stands c.requires.some c.index-steps-left.result c.index-steps-left.is c.in-Move.place c.in-Move.is)

pub returns-in-Move-clause-asked : goal.returns-in-Move-clause-asked
returns-in-Move-clause-asked g c =
    let h = counts.move_asked c.args.context.now.dom.now c.is_tree.ensures c.args.context.now.path.now c.args.steps.now c.args.climb.now c.requires.stands c.requires.level c.requires.some c.index-steps-left.result c.index-steps-left.is c.in-Move.place c.in-Move.is in
    let e = ap (λ (d : Option Climb). unasked_in c.args.context.now.dom.now c.args.steps.now d) c.advance.ensures in
    omega (arith, h, e)

pub returns-in_err-singles_hold-in-Keep-clause-few : goal.returns-in_err-singles_hold-in-Keep-clause-few
returns-in_err-singles_hold-in-Keep-clause-few g c =
    let h = counts.descend_asked c.args.context.now.dom.now c.is_tree.ensures c.args.context.now.path.now c.args.steps.now c.args.climb.now c.requires.stands c.requires.level c.requires.some c.index-steps-left.result c.index-steps-left.is
    c.in-Keep.field-0 c.in-Keep.is c.run_start-first.result c.run_start-first.ensures.within c.run_start-first.ensures.run in
    omega (arith, h, c.singles_hold.ensures.asked)
