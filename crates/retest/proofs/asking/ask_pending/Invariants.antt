use Rattle.std.proofs.Common.{◌≡◌, ◌+◌, ◌≤◌, ◌&&◌, false, cond, ℕ, filter, take, length}
use Rattle.std.specs.List.{sum_by}
use Rattle.page_tree.specs.Standings.{all}
use Rattle.page_tree.specs.Directions.{is_in}
use Rattle.kept_marks.specs.Kept.{is_marked, IsSame}
use Rattle.retest_laws.specs.Pending.{due_at}
use Rattle.retest.specs.Asked.{answers, carried, pends, AreRightFor}
use Rattle.retest.specs.Priced.{price, IsPriced}
use Rattle.retest.proofs.asking.ask_pending.Given as goal

-- what is pending at the elements so far was asked again, within what is due there
abbrev pub invariant-loop-x : goal.invariant-loop-x
invariant-loop-x g l =
    let elements = all l.asking.context.dom.now in
    record {
      marks : (f y : ℕ) → is_marked l.marks f y ≡ cond (is_in (take l.x-index l.x-items) y && (is_in elements y && pends l.asking l.pending f y)) (carried l.asking f y && answers l.asking f y) (is_marked l.initial.marks f y);
      right : AreRightFor l.asking l.members;
      checks : l.checks ≤ l.initial.checks + sum_by (due_at (length l.asking.active.now) (carried l.asking) (pends l.asking l.pending)) (filter (is_in elements) (take l.x-index l.x-items));
      parts : IsPriced (price l.asking.active.now l.asking.context.dom.now) l.initial.checks l.checks l.initial.parts l.parts;
      same : l.changed ≡ false → IsSame l.initial.marks l.marks;
    }
