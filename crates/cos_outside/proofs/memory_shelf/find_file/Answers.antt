use Rattle.std.proofs.Common.{arith, ◌∙◌, sym, add-one}
use Rattle.cos_outside.proofs.Finds.{found, passed}
use Rattle.cos_outside.proofs.memory_shelf.find_file.Goals as goal

-- the name stands here
pub returns-then-eq : goal.returns-then-eq
returns-then-eq c =
    let here = found c.args.files.now c.loop-i.i c.args.name.now c.index-files-i.result (omega arith) c.index-files-i.is (cc) in
    sym here ∙ c.loop-i.invariant

-- another name stands here
pub loop-i-preserved : goal.loop-i-preserved
loop-i-preserved c =
    let here = passed c.args.files.now c.loop-i.i c.args.name.now c.index-files-i.result (omega arith) c.index-files-i.is (cc) in
    rw add-one (sym here ∙ c.loop-i.invariant)
