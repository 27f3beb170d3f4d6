use Rattle.generic_tables.proofs.Entering.{undone}
use Rattle.generic_tables.proofs.tables.Tables.enter.Goals as goal

pub returns-in-Err-clause-err : goal.returns-in-Err-clause-err
returns-in-Err-clause-err c =
    undone c.args.dom.now c.args.n c.args.self.now.filed c.put_in.new.filed c.take_out.new.filed c.requires.absent c.in-Err.ensures.err c.take_out.ensures
