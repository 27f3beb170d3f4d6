use Rattle.std.proofs.Common.{length, ◌-◌, ◌≡◌, ◌≤◌, ◌++◌, take, drop}
use Rattle.selector_spelling.specs.Bytes.{differs, front, behind}
use Rattle.selector_lexer.proofs.fronts.length_before.Given as goal

abbrev pub invariant-loop-n : goal.invariant-loop-n
invariant-loop-n l = record {
  most : l.n ≤ length l.bytes;
  front : front (differs l.byte) l.bytes ≡ take l.n l.bytes ++ front (differs l.byte) (drop l.n l.bytes);
  behind : behind (differs l.byte) l.bytes ≡ behind (differs l.byte) (drop l.n l.bytes);
}

abbrev pub decreases-loop-n : goal.decreases-loop-n
decreases-loop-n l = length l.bytes - l.n
