-- The laws, proved in `KeyLaws` and `Carrying`.
use Rattle.generic_tables.proofs.KeyLaws.{key_law}
use Rattle.generic_tables.proofs.Carrying.{carried, keyed_at}
use Rattle.generic_tables.proofs.state.Goals as goal

pub returns-clause-keys : goal.returns-clause-keys
returns-clause-keys c = key_law

pub returns-clause-carried : goal.returns-clause-carried
returns-clause-carried c = carried

pub returns-clause-found : goal.returns-clause-found
returns-clause-found c = keyed_at
