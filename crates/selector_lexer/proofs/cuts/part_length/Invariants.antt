use Rattle.std.proofs.Common.{length, ◌-◌, ◌≡◌, ◌≤◌, ◌++◌, take, drop}
use Rattle.selector_spelling.specs.Scan.{bare}
use Rattle.selector_lexer.specs.Splits.{cuts, first_part}
use Rattle.selector_lexer.proofs.cuts.part_length.Given as goal

abbrev pub invariant-loop-at : goal.invariant-loop-at
invariant-loop-at l = record {
  most : l.at ≤ length l.text;
  same : take l.at l.text ++ first_part (cuts l.cut) l.scanner (drop l.at l.text) ≡ first_part (cuts l.cut) bare l.text;
}

abbrev pub decreases-loop-at : goal.decreases-loop-at
decreases-loop-at l = length l.text - l.at
