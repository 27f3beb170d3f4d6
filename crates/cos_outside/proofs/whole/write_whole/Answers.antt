use Rattle.std.proofs.Common.{arith}
use Rattle.std.proofs.lemmas.Grind.{common_steps}
use Rattle.std.proofs.Math.Seq.{take-add}
use Rattle.cos_outside.proofs.whole.write_whole.Goals as goal

-- the piece that was taken stands behind the bytes written before
pub loop-done-preserved : goal.loop-done-preserved
loop-done-preserved g c =
    let cut = take-add c.loop-done.done c.in_ok-done.field-0 c.args.bytes.now in
    grind (arith, common_steps, cut)
