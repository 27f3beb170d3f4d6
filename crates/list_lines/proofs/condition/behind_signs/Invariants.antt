use Rattle.std.proofs.Common.{◌≡◌, ℕ, Bool, List, length}
use Rattle.std.specs.Prelude.{Option}
use Rattle.list_lines.specs.Conditions.{not_of}
use Rattle.list_lines.specs.FirstParts.{turned}
use Rattle.list_lines.proofs.condition.behind_signs.Given as goal

abbrev pub invariant-signs : goal.invariant-signs
invariant-signs l = (given : List (List ℕ)) (nested : List ℕ → Option Bool) → turned l.negated (not_of given nested l.rest) ≡ not_of given nested l.text

abbrev pub decreases-signs : goal.decreases-signs
decreases-signs l = length l.rest
