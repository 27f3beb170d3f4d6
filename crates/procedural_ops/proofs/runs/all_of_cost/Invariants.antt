use Rattle.std.proofs.Common.{◌≡◌, ◌≤◌, ◌+◌, true, take}
use Rattle.std.specs.List.{list_all}
use Rattle.procedural_ops.specs.Count.{many_costing}
use Rattle.procedural_ops.specs.Runs.{cost_keeps}
use Rattle.procedural_ops.proofs.runs.all_of_cost.Given as goal

abbrev pub invariant-loop-step : goal.invariant-loop-step
invariant-loop-step g l = record {
  kept : list_all (cost_keeps l.context.dom.now l.context.path.now l.cost l.x) (take l.step-index l.run) ≡ true;
  asked : l.parts ≤ l.fn.parts + many_costing l.cost (take l.step-index l.run);
}
