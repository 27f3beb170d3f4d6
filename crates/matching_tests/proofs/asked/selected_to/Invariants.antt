use Rattle.procedural_ops.specs.Others.{AreRight}
use Rattle.matching_tests.proofs.asked.selected_to.Given as goal

-- what is remembered is right
abbrev pub invariant-loop-x : goal.invariant-loop-x
invariant-loop-x g l = AreRight l.context.dom.now l.context.path.now l.active l.members
