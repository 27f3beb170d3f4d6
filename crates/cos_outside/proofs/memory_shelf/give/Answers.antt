use Rattle.std.proofs.Common.{arith}
use Rattle.std.proofs.lemmas.Grind.{common_steps}
use Rattle.cos_outside.proofs.Cuts.{copied}
use Rattle.cos_outside.proofs.memory_shelf.give.Goals as goal

-- the bytes copied stand at the front of the buffer, and the rest behind them
pub returns-clause-taken : goal.returns-clause-taken
returns-clause-taken c =
    copied c.args.bytes.now c.args.buf.now c.copy_from_slice.new.self c.args.at c.min-count.result (grind (arith, common_steps)) (omega arith)
