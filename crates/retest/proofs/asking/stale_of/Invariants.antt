use Rattle.std.proofs.Common.{◌≡◌, ◌&&◌, ℕ, take}
use Rattle.page_tree.specs.Directions.{is_in}
use Rattle.retest.specs.Asked.{group_in}
use Rattle.retest.proofs.asking.stale_of.Given as goal

abbrev pub invariant-loop-f : goal.invariant-loop-f
invariant-loop-f g l = (f : ℕ) → is_in l.stale f ≡ (is_in (take l.f-index l.marked) f && g.W.Pends.pends l.pending (group_in l.groups f) l.x)
