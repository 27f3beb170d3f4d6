use Rattle.std.proofs.Common.{◌≡◌, ◌++◌, length}
use Rattle.std.specs.List.{flat_map}
use Rattle.hostname_buckets.specs.Held.{numbers_at, under}
use Rattle.hostname_buckets.proofs.tables.add_under.Given as goal

abbrev pub invariant-ends : goal.invariant-ends
invariant-ends l = l.found ++ flat_map (numbers_at l.numbers) l.ends ≡ l.fn.found ++ under l.numbers l.name

abbrev pub decreases-ends : goal.decreases-ends
decreases-ends l = length l.ends
