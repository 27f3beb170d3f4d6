use Rattle.std.proofs.Common.{refl, ap, sym, ◌∙◌, arith}
use Rattle.std.proofs.lemmas.Bool.{and_from}
use Rattle.std.proofs.lemmas.List.Folds.{list_all_more}
use Rattle.procedural_ops.specs.Noted.{chain_cells}
use Rattle.procedural_ops.specs.Runs.{cost_keeps}
use Rattle.procedural_ops.proofs.Parts as parts
use Rattle.procedural_ops.proofs.Weights as weights
use Rattle.procedural_ops.proofs.noted.all_of_cost.Goals as goal

pub loop-step-init : goal.loop-step-init
loop-step-init g c = record {
  kept = refl;
  at = omega (arith, parts.none_in_chain c.args.run.now);
  right = c.requires.right;
  asked = omega arith;
}

pub step_keeps-requires-clause-proper : goal.step_keeps-requires-clause-proper
step_keeps-requires-clause-proper g c = weights.own_step_at c.args.inquiry.now.context.table.now.patterns c.args.run.now c.loop-step.step-index c.step-item.result c.loop-step-test.true c.step-item.is c.requires.proper

pub step_keeps-requires-clause-at : goal.step_keeps-requires-clause-at
step_keeps-requires-clause-at g c =
    parts.part_step (chain_cells c.args.inquiry.now.chain.now) c.args.begin c.args.run.now c.loop-step.step-index c.loop-step.place c.step-item.result c.requires.at c.loop-step-test.true c.step-item.is
    c.loop-step.invariant.at

pub loop-step-preserved : goal.loop-step-preserved
loop-step-preserved g c = record {
  kept = list_all_more (cost_keeps c.args.inquiry.now.context.dom.now c.args.inquiry.now.context.path.now c.args.cost c.args.x) c.args.run.now c.loop-step.step-index c.step-item.result c.loop-step-test.true
      ∙ and_from _ _ c.loop-step.invariant.kept
      (ap (cost_keeps c.args.inquiry.now.context.dom.now c.args.inquiry.now.context.path.now c.args.cost c.args.x) (sym c.step-item.is) ∙ sym c.in_ok-step_keeps.ensures.answer ∙ c.if-not-branch.false);
  at = parts.place_more c.args.begin c.loop-step.place c.in_ok-place.place c.loop-step.step-index c.args.run.now c.step-item.result c.loop-step-test.true c.step-item.is c.loop-step.invariant.at c.in_ok-place.ensures;
  right = c.in_ok-step_keeps.ensures.right;
  asked = omega (arith, c.loop-step.invariant.asked, c.in_ok-step_keeps.ensures.asked);
}
