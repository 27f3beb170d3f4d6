use Rattle.generic_tables.proofs.Filing.{AreEntered}
use Rattle.generic_tables.proofs.filters.entries_of.Given as goal

-- the filters so far stand at the numbers of their keys
abbrev pub invariant-loop-place : goal.invariant-loop-place
invariant-loop-place l = AreEntered l.active l.place l.entries.items
