use Rattle.std.proofs.Common.{◌≡◌, ◌≤◌, ◌+◌, ◌*◌, false, take, length}
use Rattle.std.specs.List.{list_any}
use Rattle.page_tree.specs.Standings.{all}
use Rattle.page_tree.specs.Directions.{is_in}
use Rattle.procedural_ops.specs.Noted.{simple_tests}
use Rattle.procedural_ops.specs.Others.{AreRight}
use Rattle.procedural_ops.specs.Reaching.{reached}
use Rattle.procedural_ops.proofs.verdict.selects.Given as goal

abbrev pub invariant-loop-i : goal.invariant-loop-i
invariant-loop-i g l = record {
  none : list_any (λ c. is_in (reached l.context.dom.now l.context.path.now c) l.x) (take l.i l.selector) ≡ false;
  right : AreRight l.context.dom.now l.context.path.now l.active l.members;
  asked : l.parts ≤ l.fn.parts + simple_tests (take l.i l.selector) * length (all l.context.dom.now);
}
