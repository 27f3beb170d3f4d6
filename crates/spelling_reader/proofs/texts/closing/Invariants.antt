use Rattle.std.proofs.Common.{◌≡◌, true, false, eqb, take, drop}
use Rattle.selector_spelling.specs.Arguments.{closing}
use Rattle.spelling_reader.proofs.Slashes.{with_front}
use Rattle.spelling_reader.proofs.texts.closing.Given as goal

abbrev pub invariant-loop-place : goal.invariant-loop-place
invariant-loop-place l = with_front (take l.place l.bytes) (closing l.odd (eqb l.place 0) (drop l.place l.bytes)) ≡ closing false true l.bytes
