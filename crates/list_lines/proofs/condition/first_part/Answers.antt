use Rattle.std.proofs.Common.{arith, refl, slice_index, false}
use Rattle.list_lines.proofs.ConditionLaws.{cut_here, front_none, not_deeper, uncut_here}
use Rattle.list_lines.proofs.condition.first_part.Goals as goal

pub loop-at-init : goal.loop-at-init
loop-at-init c = record { within = omega arith; deep = omega arith; same = front_none c.args.sign false 0 c.args.text.now }

pub returns-then-is_cut-clause-parts : goal.returns-then-is_cut-clause-parts
returns-then-is_cut-clause-parts c =
    cut_here c.args.sign c.loop-at.depth c.loop-at.at c.args.text.now _ _ _ _ c.split_at.ensures.front c.split_at.ensures.back c.split_at-then-is_cut.ensures.back
    (c.if-is_cut.ensures.room refl) c.if-is_cut.ensures.cut c.loop-at.invariant.same

pub loop-at-preserved : goal.loop-at-preserved
loop-at-preserved c = record {
  within = omega arith;
  deep = not_deeper (slice_index c.args.text.now c.loop-at.at) c.loop-at.depth _ c.loop-at.at c.depth_behind-depth.ensures c.loop-at.invariant.deep;
  same = uncut_here c.args.sign c.loop-at.depth _ c.loop-at.at c.args.text.now _ _ c.loop-at-test.true c.split_at.ensures.back c.if-is_cut.ensures.cut c.depth_behind-depth.ensures c.loop-at.invariant.same;
}
