use Rattle.std.proofs.Common.{length}
use Rattle.host_names.specs.Hosts.{labels_of}
use Rattle.host_names.specs.Suffixes.{longest}
use Rattle.host_names.proofs.Walks.{LeftOf}
use Rattle.host_names.proofs.suffixes.Suffixes.longest.Given as goal

abbrev pub invariant-ends : goal.invariant-ends
invariant-ends l = LeftOf l.exceptions l.self (longest l.exceptions l.self (labels_of l.host)) l.count l.ends

abbrev pub decreases-ends : goal.decreases-ends
decreases-ends l = length l.ends
