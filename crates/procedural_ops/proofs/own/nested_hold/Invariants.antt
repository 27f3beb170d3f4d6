use Rattle.std.proofs.Common.{◌≡◌, ◌≤◌, ◌+◌, ◌*◌, true, length, take}
use Rattle.std.specs.List.{list_all}
use Rattle.page_tree.specs.Standings.{all}
use Rattle.procedural_ops.specs.Noted.{nested_tests}
use Rattle.procedural_ops.specs.Runs.{nested_keeps}
use Rattle.procedural_ops.proofs.own.nested_hold.Given as goal

abbrev pub invariant-loop-i : goal.invariant-loop-i
invariant-loop-i g l = record {
  kept : list_all (nested_keeps l.context.dom.now l.context.path.now l.x) (take l.i l.run) ≡ true;
  asked : l.parts ≤ l.fn.parts + nested_tests (take l.i l.run) * length (all l.context.dom.now);
}
