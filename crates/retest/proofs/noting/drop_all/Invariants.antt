use Rattle.std.proofs.Common.{◌≡◌, ◌&&◌, not, ℕ, take}
use Rattle.page_tree.specs.Directions.{is_in}
use Rattle.kept_marks.specs.Kept.{is_marked}
use Rattle.retest.proofs.noting.drop_all.Given as goal

abbrev pub invariant-loop-x : goal.invariant-loop-x
invariant-loop-x l = (f y : ℕ) → is_marked l.marks f y ≡ (is_marked l.initial.marks f y && not (is_in (take l.x-index l.gone) y))
