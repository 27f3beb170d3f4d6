use Rattle.std.proofs.Common.{length, sym, ◌∙◌}
use Rattle.page_tree.specs.Standings.{all}
use Rattle.procedural_ops.specs.Count.{many_asked}
use Rattle.procedural_ops.specs.Noted.{chain_tests}
use Rattle.procedural_ops.proofs.Totals as totals
use Rattle.procedural_ops.proofs.Simple as simple
use Rattle.procedural_ops.proofs.verdict.chain_selects.Goals as goal

pub returns-then-is_plain-clause-asked : goal.returns-then-is_plain-clause-asked
returns-then-is_plain-clause-asked g c =
    simple.product_few (many_asked c.args.steps.now) (length (chain_tests c.args.steps.now)) (length (all c.args.context.now.dom.now)) c.args.parts.now c.is_reached.new.parts c.is_reached.ensures.asked
    (totals.plain_tests c.args.steps.now (sym c.is_plain.ensures ∙ c.if-is_plain.true))
