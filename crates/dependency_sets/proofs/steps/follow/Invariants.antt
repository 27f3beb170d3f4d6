use Rattle.std.proofs.Common.{drop}
use Rattle.sensor_meaning.specs.Dirty.{spread}
use Rattle.dependency_sets.specs.Reaching.{ArePlaces, HasSame}
use Rattle.dependency_sets.proofs.steps.follow.Given as goal

abbrev pub invariant-loop-way : goal.invariant-loop-way
invariant-loop-way l = record {
  places : ArePlaces l.dom l.at;
  same : HasSame (spread l.dom (drop l.way-index l.route) l.at) (spread l.dom l.route l.initial.at);
}
