use Rattle.std.proofs.Common.{◌≡◌, zero, length}
use denote.Text.{Utf8}
use denote.Shadow.{shadow}
use Rattle.selector_spelling.specs.Names.{string}
use Rattle.selector_lexer.proofs.LetterLaws.{before}
use Rattle.selector_lexer.proofs.names.push_string.Given as goal

abbrev pub invariant-loop-rest : goal.invariant-loop-rest
invariant-loop-rest l = shadow (Utf8 l.rest) × (before l.value (string l.quote zero l.rest) ≡ string l.quote zero l.text)

abbrev pub decreases-loop-rest : goal.decreases-loop-rest
decreases-loop-rest l = length l.rest
