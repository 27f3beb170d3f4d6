use Rattle.std.proofs.Common.{arith, sym, ◌∙◌}
use Rattle.page_tree.specs.Standings.{above}
use Rattle.procedural_ops.proofs.Chains.{ancestor-next, ancestor-none, ancestor-last}
use Rattle.procedural_ops.proofs.places.ancestor.Goals as goal

pub loop-left-preserved : goal.loop-left-preserved
loop-left-preserved c = record {
  element = c.in-Some.ensures.element;
  some = omega (arith, c.loop-left-test.true);
  same = c.loop-left.invariant.same ∙ ancestor-next c.loop-left.left (above c.args.dom.now c.loop-left.at) c.in-Some.above _ c.loop-left-test.true c.in-Some.ensures.first;
}

pub returns-in-None-clause-ancestor : goal.returns-in-None-clause-ancestor
returns-in-None-clause-ancestor c =
    sym (c.loop-left.invariant.same ∙ ancestor-none c.loop-left.left (above c.args.dom.now c.loop-left.at) c.in-None.ensures.first)

pub returns-clause-ancestor : goal.returns-clause-ancestor
returns-clause-ancestor c =
    ancestor-last c.loop-left.left (above c.args.dom.now c.loop-left.at) c.parent-2.result (above c.args.dom.now) c.loop-left.invariant.some c.loop-left-test.false
    c.parent-2.ensures.first
    ∙ sym c.loop-left.invariant.same
