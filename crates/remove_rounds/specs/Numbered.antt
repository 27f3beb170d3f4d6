-- The rows of a round under its number.
use Rattle.std.specs.Prelude.{ℕ}
use Rattle.selector_tree.specs.declared.filter.Taken.{Taken}

-- the same row in the round of this number
abbrev pub in_round : ℕ → Taken → Taken
in_round number row = record row { round = number }
