use Rattle.std.proofs.Common.{ℕ, length, get_or, true, ◌<◌, ◌-◌, ◌≡◌, ◌≤◌, ◌++◌, take, drop}
use Rattle.cos_source.specs.Classes.{front, is_in, past_front}
use Rattle.cos_source.proofs.classes.front_length.Given as goal

abbrev pub invariant-loop-n : goal.invariant-loop-n
invariant-loop-n l = record {
  within : l.n ≤ length l.bytes;
  front : front (is_in l.class) l.bytes ≡ take l.n l.bytes ++ front (is_in l.class) (drop l.n l.bytes);
  passing : (k : ℕ) → k < l.n → is_in l.class (get_or l.bytes k 0) ≡ true;
  behind : past_front (is_in l.class) l.bytes ≡ past_front (is_in l.class) (drop l.n l.bytes);
}

abbrev pub decreases-loop-n : goal.decreases-loop-n
decreases-loop-n l = length l.bytes - l.n
