use Rattle.std.proofs.Common.{◌≡◌, ◌==◌, ◌&&◌, ◌||◌, ℕ, take}
use Rattle.generic_tables.specs.FilterTables.{has_number, stands_at}
use Rattle.generic_tables.proofs.filters.enter.Given as goal

abbrev pub invariant-loop-chain : goal.invariant-loop-chain
invariant-loop-chain l =
    (n g : ℕ) → stands_at l.entries.items n g ≡ (stands_at l.initial.entries.items n g || ((l.f == g) && has_number (take l.chain-index l.chain-items) n))
