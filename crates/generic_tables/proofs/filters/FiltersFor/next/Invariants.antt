use Rattle.std.proofs.Common.{◌≡◌, length}
use Rattle.generic_tables.specs.FilterTables.{filters_left}
use Rattle.generic_tables.proofs.filters.FiltersFor.next.Given as goal

-- what was passed over is not among the filters of the key
abbrev pub invariant-entries : goal.invariant-entries
invariant-entries l = filters_left l.self ≡ filters_left l.initial.self

abbrev pub decreases-entries : goal.decreases-entries
decreases-entries l = length l.self.entries.now
