use Rattle.std.proofs.Common.{◌≡◌, ◌||◌, ℕ, take}
use Rattle.page_tree.specs.Directions.{is_in}
use Rattle.retest.specs.Noted.{is_pending}
use Rattle.retest.proofs.noting.note_for_all.Given as goal

abbrev pub invariant-loop-x : goal.invariant-loop-x
invariant-loop-x l = (h y : ℕ) → is_pending l.pending h y ≡ (is_pending l.initial.pending h y || is_in (take l.x-index l.found) y)
