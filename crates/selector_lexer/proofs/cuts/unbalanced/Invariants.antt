use Rattle.std.proofs.Common.{length, ◌-◌, ◌≡◌, ◌≤◌, drop}
use Rattle.selector_spelling.specs.Scan.{bare, unbalanced}
use Rattle.selector_lexer.proofs.cuts.unbalanced.Given as goal

abbrev pub invariant-loop-at : goal.invariant-loop-at
invariant-loop-at l = record {
  most : l.at ≤ length l.text;
  same : unbalanced l.scanner l.outermost l.at (drop l.at l.text) ≡ unbalanced bare 0 0 l.text;
}

abbrev pub decreases-loop-at : goal.decreases-loop-at
decreases-loop-at l = length l.text - l.at
