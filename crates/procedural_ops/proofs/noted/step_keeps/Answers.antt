use Rattle.std.proofs.Common.{sym, ◌∙◌, subst}
use Rattle.procedural_ops.specs.Noted.{IsPart, chain_cells}
use Rattle.procedural_ops.proofs.Keeping as keeping
use Rattle.procedural_ops.proofs.Parts as parts
use Rattle.procedural_ops.proofs.Weights as weights
use Rattle.procedural_ops.proofs.noted.step_keeps.Goals as goal

pub test_holds-requires-clause-single : goal.test_holds-requires-clause-single
test_holds-requires-clause-single g c = keeping.single_cost c.in-Keep.test c.args.cost (sym c.has_cost.ensures ∙ c.if-has_cost.true)

pub test_holds-requires-clause-ready : goal.test_holds-requires-clause-ready
test_holds-requires-clause-ready g c =
    weights.ready_alone c.args.inquiry.now.context.table.now.patterns c.in-Keep.test (keeping.single_cost c.in-Keep.test c.args.cost (sym c.has_cost.ensures ∙ c.if-has_cost.true))
    (weights.own_Keep c.args.inquiry.now.context.table.now.patterns c.args.step.now c.in-Keep.test c.in-Keep.is c.requires.proper).1

pub test_holds-requires-clause-at : goal.test_holds-requires-clause-at
test_holds-requires-clause-at g c =
    subst (IsPart (chain_cells c.args.inquiry.now.chain.now) c.args.begin)
    (parts.of_Keep c.args.step.now c.in-Keep.test c.in-Keep.is ∙ parts.of_single c.in-Keep.test (keeping.single_cost c.in-Keep.test c.args.cost (sym c.has_cost.ensures ∙ c.if-has_cost.true)))
    c.requires.at
