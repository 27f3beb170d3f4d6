use Rattle.std.proofs.Common.{◌≡◌, ◌+◌, ◌*◌, Some, length}
use Rattle.list_lines.specs.Conditions.{all_true, and_of, any_true, both, either, nested_in, or_of}
use Rattle.list_lines.proofs.condition.+condition.Given as goal

-- the levels that are left, and then how far down a function is
abbrev pub decreases-base_of : goal.decreases-base_of
decreases-base_of l = 4 * l.levels

abbrev pub decreases-not_of : goal.decreases-not_of
decreases-not_of l = 4 * l.levels + 1

abbrev pub decreases-all_of : goal.decreases-all_of
decreases-all_of l = 4 * l.levels + 2

abbrev pub decreases-any_of : goal.decreases-any_of
decreases-any_of l = 4 * l.levels + 3

abbrev pub invariant-any_of-parts : goal.invariant-any_of-parts
invariant-any_of-parts l = either (Some l.value) (or_of l.given (nested_in l.given l.levels) l.rest) ≡ or_of l.given (nested_in l.given l.levels) l.text

abbrev pub decreases-any_of-parts : goal.decreases-any_of-parts
decreases-any_of-parts l = length l.rest

abbrev pub invariant-all_of-parts : goal.invariant-all_of-parts
invariant-all_of-parts l = both (Some l.value) (and_of l.given (nested_in l.given l.levels) l.rest) ≡ and_of l.given (nested_in l.given l.levels) l.text

abbrev pub decreases-all_of-parts : goal.decreases-all_of-parts
decreases-all_of-parts l = length l.rest
