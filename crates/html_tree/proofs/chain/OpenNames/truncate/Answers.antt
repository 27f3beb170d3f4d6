use Rattle.std.proofs.Common.{◌∙◌, arith}
use Rattle.html_tree.proofs.Counts.{take_enough, pop_take}
use Rattle.html_tree.proofs.chain.OpenNames.truncate.Goals as goal

pub loop-left-preserved : goal.loop-left-preserved
loop-left-preserved c =
    record {
      names = pop_take c.loop-left.left c.loop-left.self _ c.pop.new.self c.loop-left.invariant.within c.loop-left.invariant.names c.pop.ensures;
      within = omega arith;
      most = omega arith;
    }

pub returns : goal.returns
returns c = c.loop-left.invariant.names ∙ take_enough c.args.count c.loop-left.left _ (omega arith) c.loop-left.invariant.most
