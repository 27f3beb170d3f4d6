use Rattle.std.proofs.Common.{◌≡◌, ◌++◌, false, length}
use denote.Text.{Utf8}
use denote.Shadow.{shadow}
use Rattle.selector_spelling.specs.Arguments.{unescaped}
use Rattle.spelling_reader.specs.Texts.{marked}
use Rattle.spelling_reader.proofs.texts.unescaped.Given as goal

abbrev pub invariant-loop-c : goal.invariant-loop-c
invariant-loop-c l = shadow (Utf8 l.rest) × (l.out ++ unescaped (marked l.marks) l.paired l.rest ≡ unescaped (marked l.marks) false l.text)

abbrev pub decreases-loop-c : goal.decreases-loop-c
decreases-loop-c l = length l.rest
