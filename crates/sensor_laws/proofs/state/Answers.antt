-- The laws, proved in `Completeness` and `Unobserved`.
use Rattle.sensor_laws.proofs.Completeness.{completeness}
use Rattle.sensor_laws.proofs.Unobserved.{unobserved}
use Rattle.sensor_laws.proofs.state.Goals as goal

pub returns : goal.returns
returns c = record { complete = completeness; unobserved = unobserved }
