use Rattle.change_laws.proofs.Made.{attr_set_made, attr_dropped_made, text_set_made, taken_out_made, fragment_made, moved_made}
use Rattle.change_laws.proofs.Gone.{goes}
use Rattle.change_laws.proofs.state_made.Goals as goal

pub returns-clause-attr_set : goal.returns-clause-attr_set
returns-clause-attr_set c = attr_set_made

pub returns-clause-attr_dropped : goal.returns-clause-attr_dropped
returns-clause-attr_dropped c = attr_dropped_made

pub returns-clause-text_set : goal.returns-clause-text_set
returns-clause-text_set c = text_set_made

pub returns-clause-taken_out : goal.returns-clause-taken_out
returns-clause-taken_out c = taken_out_made

pub returns-clause-fragment : goal.returns-clause-fragment
returns-clause-fragment c = fragment_made

pub returns-clause-moved : goal.returns-clause-moved
returns-clause-moved c = moved_made

pub returns-clause-gone : goal.returns-clause-gone
returns-clause-gone c = goes
