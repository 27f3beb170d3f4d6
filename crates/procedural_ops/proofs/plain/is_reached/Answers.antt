use Rattle.std.proofs.Common.{length, ap, sym, subst, ◌∙◌, arith}
use Rattle.procedural_ops.specs.Once.{IsLevelAt}
use Rattle.procedural_ops.specs.Standing.{StandsAt, is_open_at}
use Rattle.procedural_ops.specs.declared.climb.Climb.{Climb}
use Rattle.procedural_ops.proofs.Asking as asking
use Rattle.procedural_ops.proofs.Climbs as climbs
use Rattle.procedural_ops.proofs.Counts as counts
use Rattle.procedural_ops.proofs.plain.is_reached.Goals as goal

pub climb-init : goal.climb-init
climb-init g c =
    let b = climbs.begins c.args.context.now.dom.now c.is_tree.ensures c.args.context.now.path.now c.args.steps.now c.args.x c.requires.element in
    record {
      stands = subst (λ (d : Climb). StandsAt c.args.context.now.dom.now c.args.context.now.path.now c.args.steps.now d) (sym c.start-climb.ensures) b.0;
      level = λ h. subst (λ (d : Climb). IsLevelAt c.args.context.now.dom.now c.args.steps.now d) (sym c.start-climb.ensures) (asking.flat_start c.args.context.now.dom.now c.args.steps.now (length c.args.steps.now) c.args.x);
      same = b.1 ∙ ap (λ (d : Climb). is_open_at c.args.context.now.dom.now c.args.context.now.path.now c.args.steps.now d) (sym c.start-climb.ensures);
      asked = omega (arith, counts.all_unasked c.args.context.now.dom.now c.args.steps.now c.start-climb.result);
    }

pub returns-clause-answer : goal.returns-clause-answer
returns-clause-answer g c =
    climbs.ends c.args.context.now.dom.now c.is_tree.ensures c.args.context.now.path.now c.args.steps.now c.climb.climb c.climb.invariant.stands c.climb-test.false ∙ sym c.climb.invariant.same
