use Rattle.std.proofs.Common.{◌≡◌, zero, length}
use denote.Text.{Utf8}
use denote.Shadow.{shadow}
use Rattle.selector_spelling.specs.Names.{run, onto}
use Rattle.selector_lexer.proofs.names.push_run.Given as goal

abbrev pub invariant-loop-c : goal.invariant-loop-c
invariant-loop-c l = shadow (Utf8 l.rest) × (onto l.value (run zero l.rest) ≡ onto l.initial.value (run zero l.text))

abbrev pub decreases-loop-c : goal.decreases-loop-c
decreases-loop-c l = length l.rest
