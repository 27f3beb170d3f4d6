use Rattle.std.proofs.Common.{◌≡◌, length}
use Rattle.address_patterns.specs.Pieces.{first_of, tails}
use Rattle.address_patterns.proofs.pieces.find_piece.Given as goal

abbrev pub invariant-places : goal.invariant-places
invariant-places l = first_of l.at_end l.pattern (tails l.fn.address) ≡ first_of l.at_end l.pattern (tails l.address)

abbrev pub decreases-places : goal.decreases-places
decreases-places l = length l.address
