use Rattle.std.proofs.Common.{◌≡◌, Some, length, sym, subst, ◌∙◌, arith}
use Rattle.std.specs.BTreeMap.{Updates}
use Rattle.std.specs.Cmp.Lexicographic.{slice_cmp}
use Rattle.sensor_meaning.specs.Order.{sensor_cmp}
use Rattle.hide_engine.specs.Groups.{AreNumbered}
use Rattle.hide_engine.proofs.Grouping.{one_numbered}
use Rattle.hide_engine.proofs.groups.group_of.Goals as goal

pub returns-clause-numbered : goal.returns-clause-numbered
returns-clause-numbered c =
    let sets = c.args.sets.now in
    let count : sets.len ≡ length sets.items = omega (arith, sets.ok) in
    subst (AreNumbered c.insert.new.self) (sym c.in_ok-push.ensures.items)
    (one_numbered c.args.places.now c.insert.new.self c.args.sets.now.items c.in_ok-set.set c.in_ok-of.field-0 c.requires.numbered
    (subst (λ n. Updates (slice_cmp sensor_cmp) c.args.places.now c.insert.new.self c.in_ok-set.set (Some n)) (c.len-group.ensures ∙ count) c.in_ok-insert.ensures.updates)
    (λ p. c.in_ok-of.ensures p ∙ sym (c.in_ok-set.ensures p)))
