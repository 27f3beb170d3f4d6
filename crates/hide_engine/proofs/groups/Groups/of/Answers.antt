use Rattle.std.proofs.Common.{◌+◌, List, get_or, ap, sym, subst, ◌∙◌, arith}
use Rattle.selector_tree.specs.declared.filter.Filter.{Filter}
use Rattle.selector_tree.specs.declared.selector.Step.{Step}
use Rattle.sensor_meaning.specs.Sensors.{sensors}
use Rattle.hide_engine.specs.Groups.{HasSet}
use Rattle.hide_engine.proofs.Filing.{selector_there}
use Rattle.hide_engine.proofs.Grouping.{AreGroupedBefore, one_grouped}
use Rattle.hide_engine.proofs.groups.Groups.of.Goals as goal

pub loop-place-preserved : goal.loop-place-preserved
loop-place-preserved c =
    let here = c.index-as_slice-place.result in
    let place = c.loop-place.place in
    record {
      grouped =
          subst (AreGroupedBefore (place + 1) c.args.active.now c.group_of.new.sets.items) (sym c.in_ok-push.ensures.ok)
          (one_grouped c.args.active.now place c.loop-place.sets.items c.group_of.new.sets.items c.loop-place.numbers c.in_ok-group.group c.loop-place.invariant.grouped c.in_ok-group.ensures.begins
          (subst (λ (l : List (List Step)). HasSet c.group_of.new.sets.items c.in_ok-group.group (sensors l))
          (sym (selector_there c.args.active.now place here (omega arith) ∙ ap (λ (f : Filter). f.selector) (ap (λ (l : List Filter). get_or l place here) (sym c.as_slice.ensures) ∙ sym c.index-as_slice-place.is)))
          c.in_ok-group.ensures.group));
      numbered = c.in_ok-group.ensures.numbered;
      few = omega (arith, c.in_ok-group.ensures.few, c.loop-place.invariant.few);
    }
