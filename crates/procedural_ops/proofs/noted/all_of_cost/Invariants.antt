use Rattle.std.proofs.Common.{◌≡◌, ◌≤◌, ◌+◌, true, length, take}
use Rattle.std.specs.List.{list_all}
use Rattle.procedural_ops.specs.Noted.{IsRight, chain_cells, unknown}
use Rattle.procedural_ops.specs.Runs.{cost_keeps}
use Rattle.procedural_ops.proofs.noted.all_of_cost.Given as goal

abbrev pub invariant-loop-step : goal.invariant-loop-step
invariant-loop-step g l = record {
  kept : list_all (cost_keeps l.inquiry.context.dom.now l.inquiry.context.path.now l.cost l.x) (take l.step-index l.run) ≡ true;
  at : l.place ≡ l.begin + length (chain_cells (take l.step-index l.run));
  right : IsRight l.inquiry.context.dom.now l.inquiry.chain.now l.notes l.inquiry.context.path.now;
  asked : l.parts + unknown l.inquiry.context.dom.now l.inquiry.chain.now l.notes ≤ l.fn.parts + unknown l.inquiry.context.dom.now l.inquiry.chain.now l.fn.notes;
}
