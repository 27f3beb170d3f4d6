-- The laws, proved in `Counts`.
use Rattle.retest_laws.proofs.Counts.{bounded, sole_asking}
use Rattle.retest_laws.proofs.state_counts.Goals as goal

pub returns-clause-bounded : goal.returns-clause-bounded
returns-clause-bounded c = bounded

pub returns-clause-sole : goal.returns-clause-sole
returns-clause-sole c = sole_asking
