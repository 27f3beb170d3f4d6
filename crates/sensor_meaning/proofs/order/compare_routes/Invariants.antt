use Rattle.std.proofs.Common.{◌≡◌, length}
use Rattle.std.specs.Cmp.Lexicographic.{slice_cmp}
use Rattle.std.specs.Ordering.{nat_cmp}
use Rattle.sensor_meaning.specs.Order.{ways}
use Rattle.sensor_meaning.proofs.order.compare_routes.Given as goal

abbrev pub invariant-ways : goal.invariant-ways
invariant-ways l = slice_cmp nat_cmp (ways l.left) (ways l.right) ≡ slice_cmp nat_cmp (ways l.a) (ways l.b)

abbrev pub decreases-ways : goal.decreases-ways
decreases-ways l = length l.left
