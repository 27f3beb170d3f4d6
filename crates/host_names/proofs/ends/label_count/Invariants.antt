use Rattle.std.proofs.Common.{◌≡◌, ◌+◌, ◌≤◌, ◌==◌, take}
use Rattle.std.specs.List.{count_by}
use Rattle.host_names.proofs.ends.label_count.Given as goal

abbrev pub invariant-bytes : goal.invariant-bytes
invariant-bytes l = record {
  count : l.count ≡ count_by (λ b. b == 46) (take l.byte-index l.bytes) + 1;
  within : l.count ≤ l.byte-index + 1;
}
