use Rattle.std.proofs.Common.{sym, ◌∙◌}
use Rattle.procedural_ops.proofs.Keeping as keeping
use Rattle.procedural_ops.proofs.Weights as weights
use Rattle.procedural_ops.proofs.runs.step_keeps.Goals as goal

pub holds-requires-clause-ready : goal.holds-requires-clause-ready
holds-requires-clause-ready g c =
    weights.ready_alone c.args.context.now.table.now.patterns c.in-Keep.test (keeping.single_cost c.in-Keep.test c.args.cost (sym c.has_cost.ensures ∙ c.if-has_cost.true))
    (weights.own_Keep c.args.context.now.table.now.patterns c.args.step.now c.in-Keep.test c.in-Keep.is c.requires.proper).1
