use Rattle.std.proofs.Common.{ℕ, length, get_or, true, ◌<◌, ◌-◌, ◌≡◌, ◌≤◌, ◌++◌, take, drop}
use Rattle.selector_spelling.specs.Bytes.{front, behind}
use Rattle.selector_lexer.specs.Fronts.{passes}
use Rattle.selector_lexer.proofs.fronts.front_length.Given as goal

abbrev pub invariant-loop-n : goal.invariant-loop-n
invariant-loop-n l = record {
  within : l.n ≤ length l.bytes;
  front : front (passes l.class) l.bytes ≡ take l.n l.bytes ++ front (passes l.class) (drop l.n l.bytes);
  passing : (k : ℕ) → k < l.n → passes l.class (get_or l.bytes k 0) ≡ true;
  behind : behind (passes l.class) l.bytes ≡ behind (passes l.class) (drop l.n l.bytes);
}

abbrev pub decreases-loop-n : goal.decreases-loop-n
decreases-loop-n l = length l.bytes - l.n
