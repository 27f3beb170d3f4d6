use Rattle.std.proofs.Common.{inl, inr, ap, subst, ◌∙◌}
use Rattle.std.proofs.lemmas.List.Elements.{All-more}
use Rattle.selector_tree.specs.declared.selector.Step.TheVariants as step
use Rattle.procedural_ops.specs.Blocked.{KeepsLevel}
use Rattle.procedural_ops.proofs.places.looks_later.Goals.{in-Keep, in-Move+in-Next}
use Rattle.procedural_ops.proofs.places.looks_later.Goals as goal

pub loop-i-preserved : goal.loop-i-preserved
loop-i-preserved c =
    All-more KeepsLevel c.args.steps.now c.loop-i.i c.index-steps-i.result c.loop-i-test.true c.loop-i.invariant
    (subst KeepsLevel c.index-steps-i.is (elim c.match-step.branch as (λ b. KeepsLevel c.index-steps-i.result) [
      | in-Keep w ↦ inl (w.in-Keep.field-0, w.in-Keep.is)
      | in-Move+in-Next w ↦ inr (w.in-Move.is ∙ ap step.Move w.in-Next.is)
    ]))
