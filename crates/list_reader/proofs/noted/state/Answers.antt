-- The law, proved in `Laws`.
use Rattle.list_reader.proofs.Laws.{noted_alone}
use Rattle.list_reader.proofs.noted.state.Goals as goal

pub returns : goal.returns
returns c = noted_alone
