use Rattle.std.proofs.Common.{◌∙◌}
use Rattle.dependency_sets.proofs.Leading.{follow_next, follow_end, led-places}
use Rattle.dependency_sets.proofs.steps.follow.Goals as goal

pub loop-way-preserved : goal.loop-way-preserved
loop-way-preserved c = record {
  places = led-places c.args.dom.now _ _ _ c.in_ok-at.ensures;
  same = λ x.
      follow_next c.args.dom.now c.args.route.now c.loop-way.way-index _ c.loop-way.at c.as_slice.result.now c.in_ok-at.at c.loop-way-test.true c.as_slice.ensures c.in_ok-at.ensures x
      ∙ c.loop-way.invariant.same x;
}

pub returns-clause-same : goal.returns-clause-same
returns-clause-same c = λ x.
    follow_end c.args.dom.now c.args.route.now c.loop-way.way-index c.loop-way.at c.loop-way-test.false x ∙ c.loop-way.invariant.same x
