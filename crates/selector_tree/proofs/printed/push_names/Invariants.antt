use Rattle.std.proofs.Common.{◌≡◌, ◌++◌, drop}
use Rattle.selector_tree.specs.Canonical.{joined}
use Rattle.selector_tree.proofs.Joined.{left}
use Rattle.selector_tree.proofs.printed.push_names.Given as goal

abbrev pub invariant-loop-name : goal.invariant-loop-name
invariant-loop-name l = l.out ++ left l.behind (drop l.name-index l.name-items) ≡ l.initial.out ++ joined l.name-items
