use Rattle.list_files.proofs.Asking.{are_askable}
use Rattle.list_files.proofs.reading.active_filters.Goals as goal

pub returns-clause-askable : goal.returns-clause-askable
returns-clause-askable c =
    are_askable c.args.table.now.patterns c.args.lists c.in_ok-store.store c.active.result c.in_ok-store.ensures c.requires.proper c.requires.within c.active.ensures.each c.active.ensures.few
