use Rattle.std.proofs.Common.{◌≡◌, ◌≤◌, take, length, min}
use Rattle.html_tree.proofs.chain.OpenNames.truncate.Given as goal

abbrev pub invariant-loop-left : goal.invariant-loop-left
invariant-loop-left l =
    record { names : l.self ≡ take l.left l.fn.self; within : l.left ≤ length l.fn.self; most : min l.count (length l.fn.self) ≤ l.left }

abbrev pub decreases-loop-left : goal.decreases-loop-left
decreases-loop-left l = l.left
