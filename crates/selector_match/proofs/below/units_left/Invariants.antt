use Rattle.std.proofs.Common.{◌≡◌, ◌-◌, length, drop}
use Rattle.std.specs.Str.{chars}
use Rattle.page_tree.specs.Words.{units}
use Rattle.selector_match.proofs.below.units_left.Given as goal

abbrev pub invariant-loop-c : goal.invariant-loop-c
invariant-loop-c l = l.wanted - units (chars l.text) ≡ l.left - units (drop (length l.yielded) (chars l.text))
