use Rattle.std.proofs.Common.{◌≡◌, ◌≤◌, true, length, drop}
use Rattle.std.specs.List.{list_all}
use Rattle.std.specs.Str.{str_to_ascii_lowercase}
use Rattle.html_meaning.specs.Bytes.{is_among}
use Rattle.html_meaning.specs.Elements.{implied_ends}
use Rattle.html_tree.specs.Chain.{names_of}
use Rattle.html_tree.proofs.chain.left_by_start.Given as goal

abbrev pub invariant-loop-left : goal.invariant-loop-left
invariant-loop-left l =
    record { within : l.left ≤ length l.chain; closed : list_all (λ name. is_among name (implied_ends (str_to_ascii_lowercase l.tag))) (drop l.left (names_of l.chain)) ≡ true }

abbrev pub decreases-loop-left : goal.decreases-loop-left
decreases-loop-left l = l.left
