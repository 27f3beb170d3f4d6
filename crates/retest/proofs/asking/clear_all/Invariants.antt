use Rattle.std.proofs.Common.{◌≡◌, ◌==◌, ◌&&◌, not, ℕ, take}
use Rattle.page_tree.specs.Directions.{is_in}
use Rattle.kept_marks.specs.Kept.{is_marked}
use Rattle.retest.proofs.asking.clear_all.Given as goal

abbrev pub invariant-loop-f : goal.invariant-loop-f
invariant-loop-f l = (g y : ℕ) → is_marked l.marks g y ≡ (is_marked l.initial.marks g y && not (y == l.x && is_in (take l.f-index l.stale) g))
