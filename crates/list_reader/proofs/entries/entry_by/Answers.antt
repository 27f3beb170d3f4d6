use Rattle.list_reader.proofs.Gives.{exception_is, filter_is}
use Rattle.list_reader.proofs.entries.entry_by.Goals as goal

pub returns-then-exception-clause-given : goal.returns-then-exception-clause-given
returns-then-exception-clause-given c =
    exception_is c.args.place.list c.args.place.line c.args.at c.args.scope c.in-Filter.selector c.in-Filter.action _ _ _ c.if-exception.true c.in-Filter.is c.in_ok-canonical-in-Filter.ensures

pub returns-else-exception-clause-given : goal.returns-else-exception-clause-given
returns-else-exception-clause-given c =
    filter_is c.args.place.list c.args.place.line c.args.at c.args.scope c.in-Filter.selector c.in-Filter.action _ _ _ c.if-exception.false c.in-Filter.is c.in_ok-canonical-in-Filter.ensures
