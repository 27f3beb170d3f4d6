use Rattle.std.proofs.Common.{◌≡◌, ◌++◌, false, length}
use denote.Text.{Utf8}
use denote.Shadow.{shadow}
use Rattle.selector_tree.specs.Letters.{body_text}
use Rattle.selector_tree.proofs.letters.push_body.Given as goal

abbrev pub invariant-loop-c : goal.invariant-loop-c
invariant-loop-c l = shadow (Utf8 l.rest) × (l.out ++ body_text l.paired l.rest ≡ l.initial.out ++ body_text false l.body)

abbrev pub decreases-loop-c : goal.decreases-loop-c
decreases-loop-c l = length l.rest
