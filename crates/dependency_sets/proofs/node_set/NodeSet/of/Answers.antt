use Rattle.std.proofs.Common.{◌==◌, sym, ap, ◌∙◌}
use Rattle.std.specs.Prelude.{nat_eq}
use Rattle.std.proofs.lemmas.Bool.{eqb-true}
use Rattle.std.proofs.lemmas.Cmp.{nat_cmp_total}
use Rattle.std.proofs.lemmas.List.Filters.{dedup_is}
use Rattle.std.proofs.lemmas.List.Kept.{IsStrictlySortedBy-dedup}
use Rattle.std.proofs.lemmas.List.Sorted.{list_any-IsPermutation}
use Rattle.page_tree.specs.Directions.{is_in}
use Rattle.dependency_sets.proofs.SetLaws.{any-dedup, ties}
use Rattle.dependency_sets.proofs.node_set.NodeSet.of.Goals as goal

pub invariant_of-result : goal.invariant_of-result
invariant_of-result c =
    rw (dedup_is nat_eq c.sort_unstable.new.self.items c.dedup.new.self.items c.dedup.ensures.filtered)
    (IsStrictlySortedBy-dedup nat_cmp_total ties c.sort_unstable.new.self.items c.sort_unstable.ensures.sorted)

pub returns : goal.returns
returns c = λ x.
    ap (λ l. is_in l x) (dedup_is nat_eq c.sort_unstable.new.self.items c.dedup.new.self.items c.dedup.ensures.filtered)
    ∙ any-dedup nat_eq (λ y z h. eqb-true y z h) (λ y. y == x) c.sort_unstable.new.self.items
    ∙ sym (list_any-IsPermutation (λ y. y == x) c.args.numbers.items c.sort_unstable.new.self.items c.sort_unstable.ensures.permutation)
