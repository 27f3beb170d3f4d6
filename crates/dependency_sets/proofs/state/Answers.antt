use Rattle.dependency_sets.proofs.SameSets.{one_order, same_dirty}
use Rattle.dependency_sets.proofs.state.Goals as goal

pub returns : goal.returns
returns c = record { one_order = one_order; same_dirty = same_dirty }
