use Rattle.generic_tables.proofs.Entering.{left_all}
use Rattle.generic_tables.proofs.tables.Tables.leave.Goals as goal

pub returns : goal.returns
returns c = left_all c.args.dom.now c.args.n c.args.self.now.filed c.take_out.new.filed c.requires c.take_out.ensures
