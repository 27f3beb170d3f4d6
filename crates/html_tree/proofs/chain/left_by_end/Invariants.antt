use Rattle.std.proofs.Common.{◌≡◌, ◌≤◌, false, length, drop}
use Rattle.std.specs.List.{list_any}
use Rattle.std.specs.Str.{bytes_eq, str_to_ascii_lowercase}
use Rattle.html_tree.specs.Chain.{names_of}
use Rattle.html_tree.proofs.chain.left_by_end.Given as goal

abbrev pub invariant-loop-left : goal.invariant-loop-left
invariant-loop-left l =
    record { within : l.left ≤ length l.chain; others : list_any (λ name. bytes_eq name (str_to_ascii_lowercase l.tag)) (drop l.left (names_of l.chain)) ≡ false }

abbrev pub decreases-loop-left : goal.decreases-loop-left
decreases-loop-left l = l.left
