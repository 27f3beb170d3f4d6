use Rattle.std.proofs.Common.{◌+◌, ap, sym, ◌∙◌, arith}
use Rattle.std.proofs.lemmas.Bool.{and_from}
use Rattle.std.proofs.lemmas.List.Folds.{list_all_more}
use Rattle.procedural_ops.specs.Runs.{cost_keeps}
use Rattle.procedural_ops.proofs.Simple as simple
use Rattle.procedural_ops.proofs.Weights as weights
use Rattle.procedural_ops.proofs.runs.all_of_cost.Goals as goal

pub step_keeps-requires-clause-proper : goal.step_keeps-requires-clause-proper
step_keeps-requires-clause-proper g c = weights.own_step_at c.args.context.now.table.now.patterns c.args.run.now c.loop-step.step-index c.step-item.result c.loop-step-test.true c.step-item.is c.requires.proper

pub returns-in_err-step_keeps-clause-asked : goal.returns-in_err-step_keeps-clause-asked
returns-in_err-step_keeps-clause-asked g c =
    let m = simple.costing_more c.args.cost c.args.run.now c.loop-step.step-index c.step-item.result c.loop-step-test.true c.step-item.is in
    let f = simple.costing_few c.args.cost c.args.run.now (c.loop-step.step-index + 1) in
    let i = c.loop-step.invariant.asked in
    let s = c.step_keeps.ensures.asked in
    omega (arith, m, f, i, s)

pub returns-then-not-branch-clause-asked : goal.returns-then-not-branch-clause-asked
returns-then-not-branch-clause-asked g c =
    let m = simple.costing_more c.args.cost c.args.run.now c.loop-step.step-index c.step-item.result c.loop-step-test.true c.step-item.is in
    let f = simple.costing_few c.args.cost c.args.run.now (c.loop-step.step-index + 1) in
    let i = c.loop-step.invariant.asked in
    let s = c.step_keeps.ensures.asked in
    omega (arith, m, f, i, s)

pub loop-step-preserved : goal.loop-step-preserved
loop-step-preserved g c =
    let m = simple.costing_more c.args.cost c.args.run.now c.loop-step.step-index c.step-item.result c.loop-step-test.true c.step-item.is in
    let i = c.loop-step.invariant.asked in
    let s = c.step_keeps.ensures.asked in
    record {
      kept = list_all_more (cost_keeps c.args.context.now.dom.now c.args.context.now.path.now c.args.cost c.args.x) c.args.run.now c.loop-step.step-index c.step-item.result c.loop-step-test.true
          ∙ and_from _ _ c.loop-step.invariant.kept
          (ap (cost_keeps c.args.context.now.dom.now c.args.context.now.path.now c.args.cost c.args.x) (sym c.step-item.is) ∙ sym c.in_ok-step_keeps.ensures.answer ∙ c.if-not-branch.false);
      asked = omega (arith, m, i, s);
    }
