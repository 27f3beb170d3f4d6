use Rattle.std.proofs.Common.{◌≡◌, false, take, drop}
use Rattle.selector_spelling.specs.Arguments.{up_to}
use Rattle.spelling_reader.proofs.Slashes.{behind_front}
use Rattle.spelling_reader.proofs.pairs.closing_sign.Given as goal

abbrev pub invariant-loop-place : goal.invariant-loop-place
invariant-loop-place l = behind_front (take l.place l.bytes) (up_to l.sign l.odd (drop l.place l.bytes)) ≡ up_to l.sign false l.bytes
