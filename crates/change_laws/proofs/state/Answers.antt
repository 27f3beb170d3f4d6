use Rattle.change_laws.proofs.Came.{new_is_brought}
use Rattle.change_laws.proofs.Seen.{proper_is_outer, change_is_seen}
use Rattle.change_laws.proofs.state.Goals as goal

pub returns-clause-outer : goal.returns-clause-outer
returns-clause-outer c = proper_is_outer

pub returns-clause-brought : goal.returns-clause-brought
returns-clause-brought c = new_is_brought

pub returns-clause-seen : goal.returns-clause-seen
returns-clause-seen c = change_is_seen
