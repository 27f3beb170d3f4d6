use Rattle.std.proofs.Common.{◌≡◌, ◌==◌, ◌+◌, ◌&&◌, cond, ℕ, take}
use Rattle.page_tree.specs.Directions.{is_in}
use Rattle.kept_marks.specs.Kept.{is_marked}
use Rattle.retest.specs.Asked.{answers, AreRightFor}
use Rattle.retest.specs.Priced.{price, IsPriced}
use Rattle.retest.proofs.asking.ask_all.Given as goal

abbrev pub invariant-loop-f : goal.invariant-loop-f
invariant-loop-f g l = record {
  marks : (h y : ℕ) → is_marked l.marks h y ≡ cond (y == l.x && is_in (take l.f-index l.due) h) (answers l.asking h y) (is_marked l.initial.marks h y);
  right : AreRightFor l.asking l.members;
  checks : l.checks ≡ l.initial.checks + l.f-index;
  parts : IsPriced (price l.asking.active.now l.asking.context.dom.now) l.initial.checks l.checks l.initial.parts l.parts;
}
