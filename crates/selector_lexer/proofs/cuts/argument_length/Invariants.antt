use Rattle.std.proofs.Common.{length, ◌-◌, ◌≡◌, ◌≤◌, ◌++◌, false, [], ◌∷◌, take, drop}
use Rattle.selector_spelling.specs.Bytes.{is_empty}
use Rattle.selector_spelling.specs.Scan.{standing, within}
use Rattle.selector_lexer.proofs.cuts.argument_length.Given as goal

abbrev pub invariant-loop-at : goal.invariant-loop-at
invariant-loop-at l = record {
  most : l.at ≤ length l.text;
  same : take l.at l.text ++ within l.scanner (drop l.at l.text) ≡ within (standing (l.fn.opened ∷ [])) l.text;
  inside : is_empty l.scanner.stack ≡ false;
}

abbrev pub decreases-loop-at : goal.decreases-loop-at
decreases-loop-at l = length l.text - l.at
