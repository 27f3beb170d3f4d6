use Rattle.std.proofs.Common.{◌≡◌, length}
use Rattle.address_patterns.specs.Pieces.{piece_of}
use Rattle.address_patterns.proofs.pieces.piece.Given as goal

abbrev pub invariant-items : goal.invariant-items
invariant-items l = piece_of l.at_end l.fn.pattern l.fn.address ≡ piece_of l.at_end l.pattern l.address

abbrev pub decreases-items : goal.decreases-items
decreases-items l = length l.pattern
