use Rattle.std.proofs.Common.{refl, sym, ap, ◌∙◌}
use Rattle.std.specs.List.{list_any, dedup}
use Rattle.std.proofs.lemmas.List.Filters.{dedup_is}
use Rattle.std.proofs.lemmas.List.Kept.{IsStrictlySortedBy-dedup}
use Rattle.std.proofs.lemmas.List.Sorted.{list_any-IsPermutation}
use Rattle.sensor_meaning.specs.Order.{sensor_eq}
use Rattle.dependency_sets.proofs.SameSets.{total, same}
use Rattle.dependency_sets.proofs.SetLaws.{any-dedup}
use Rattle.dependency_sets.proofs.set.Sensors.of.Goals as goal

pub invariant_of-result : goal.invariant_of-result
invariant_of-result c =
    rw (dedup_is sensor_eq c.sort.new.self.items c.dedup.new.self.items c.dedup.ensures.filtered)
    (IsStrictlySortedBy-dedup total (λ r s. refl) c.sort.new.self.items c.in_ok-sort.ensures.sorted)

pub returns : goal.returns
returns c p =
    ap (list_any p) (dedup_is sensor_eq c.sort.new.self.items c.dedup.new.self.items c.dedup.ensures.filtered)
    ∙ any-dedup sensor_eq same p c.sort.new.self.items
    ∙ sym (list_any-IsPermutation p c.in_ok-sorted.sorted.items c.sort.new.self.items c.in_ok-sort.ensures.permutation)
    ∙ ap (list_any p) c.in_ok-sorted.ensures
