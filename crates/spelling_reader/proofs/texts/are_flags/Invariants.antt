use Rattle.std.proofs.Common.{◌≡◌, length}
use Rattle.selector_spelling.specs.Arguments.{are_flags}
use Rattle.spelling_reader.proofs.texts.are_flags.Given as goal

abbrev pub invariant-loop-byte : goal.invariant-loop-byte
invariant-loop-byte l = are_flags l.rest ≡ are_flags l.bytes

abbrev pub decreases-loop-byte : goal.decreases-loop-byte
decreases-loop-byte l = length l.rest
