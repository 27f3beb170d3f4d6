use Rattle.std.proofs.Common.{◌≡◌}
use Rattle.address_patterns.specs.Patterns.{matches}
use Rattle.address_patterns.specs.Pieces.{left_of}
use Rattle.address_patterns.proofs.Greedy.{verdict}
use Rattle.address_patterns.proofs.Shorter.{size_left}
use Rattle.address_patterns.proofs.pattern.AddressPattern.matches.Given as goal

abbrev pub invariant-pieces : goal.invariant-pieces
invariant-pieces l = matches l.self l.page ≡ verdict l.self.at_end (left_of l.found)

abbrev pub decreases-pieces : goal.decreases-pieces
decreases-pieces l = size_left (left_of l.found)
