use Rattle.std.proofs.Common.{length, ◌-◌, ◌≡◌, ◌≤◌, drop}
use Rattle.selector_spelling.specs.Scan.{bare, too_nested}
use Rattle.selector_lexer.proofs.cuts.too_nested.Given as goal

abbrev pub invariant-loop-at : goal.invariant-loop-at
invariant-loop-at l = record {
  most : l.at ≤ length l.text;
  same : too_nested l.scanner l.at (drop l.at l.text) ≡ too_nested bare 0 l.text;
}

abbrev pub decreases-loop-at : goal.decreases-loop-at
decreases-loop-at l = length l.text - l.at
