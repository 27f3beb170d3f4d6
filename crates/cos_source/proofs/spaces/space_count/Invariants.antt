use Rattle.std.proofs.Common.{length, drop, ◌-◌, ◌≡◌, ◌≤◌}
use Rattle.cos_source.specs.Spaces.{without_first_spaces}
use Rattle.cos_source.proofs.spaces.space_count.Given as goal

abbrev pub invariant-loop-n : goal.invariant-loop-n
invariant-loop-n l = record {
  within : l.n ≤ length l.bytes;
  behind : without_first_spaces l.bytes ≡ without_first_spaces (drop l.n l.bytes);
}

abbrev pub decreases-loop-n : goal.decreases-loop-n
decreases-loop-n l = length l.bytes - l.n
