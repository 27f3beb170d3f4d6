-- The laws, proved in `Notes` and `Counts`.
use Rattle.retest_laws.proofs.Notes.{noted_all, retested, at_rest, at_start, dropped}
use Rattle.retest_laws.proofs.Counts.{grouped}
use Rattle.retest_laws.proofs.state.Goals as goal

pub returns-clause-noted : goal.returns-clause-noted
returns-clause-noted c = noted_all

pub returns-clause-retested : goal.returns-clause-retested
returns-clause-retested c = retested

pub returns-clause-resting : goal.returns-clause-resting
returns-clause-resting c = at_rest

pub returns-clause-starting : goal.returns-clause-starting
returns-clause-starting c = at_start

pub returns-clause-dropped : goal.returns-clause-dropped
returns-clause-dropped c = dropped

pub returns-clause-grouped : goal.returns-clause-grouped
returns-clause-grouped c = grouped
