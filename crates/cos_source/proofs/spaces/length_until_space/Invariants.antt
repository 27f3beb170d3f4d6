use Rattle.std.proofs.Common.{length, take, drop, ◌-◌, ◌≡◌, ◌≤◌, ◌++◌}
use Rattle.cos_source.specs.Spaces.{until_space}
use Rattle.cos_source.proofs.spaces.length_until_space.Given as goal

abbrev pub invariant-loop-n : goal.invariant-loop-n
invariant-loop-n l = record {
  within : l.n ≤ length l.bytes;
  front : until_space l.bytes ≡ take l.n l.bytes ++ until_space (drop l.n l.bytes);
}

abbrev pub decreases-loop-n : goal.decreases-loop-n
decreases-loop-n l = length l.bytes - l.n
