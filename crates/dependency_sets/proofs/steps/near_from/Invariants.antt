use Rattle.std.proofs.Common.{◌≡◌, ℕ, take}
use Rattle.page_tree.specs.Directions.{is_in}
use Rattle.dependency_sets.specs.Reaching.{leads_from, one_step}
use Rattle.dependency_sets.proofs.steps.near_from.Given as goal

abbrev pub invariant-loop-y : goal.invariant-loop-y
invariant-loop-y l = (x : ℕ) → is_in l.to x ≡ leads_from l.dom (one_step l.near) (take l.y-index l.from) x
