use Rattle.std.proofs.Common.{◌-◌, ◌^◌}
use Rattle.dependency_sets.proofs.Closing.{Closing}
use Rattle.dependency_sets.proofs.near.close.Given as goal

abbrev pub invariant-each : goal.invariant-each
invariant-each l = Closing l.dom l.near l.initial.found l.found l.k

-- no list of numbers is longer than addresses reach
abbrev pub decreases-each : goal.decreases-each
decreases-each l = 2 ^ 63 - l.k
