use Rattle.std.proofs.Common.{ltb, leb, subst, sym, rules}
use Rattle.std.specs.List.Sorted.{IsNonDecreasingBy}
use Rattle.std.proofs.lemmas.List.Sorted.{IsPartitionPoint-from_clause, IsPartitionedBy-leb, IsPartitionedBy-ltb, IsNonDecreasingBy-drop}
use Rattle.generic_tables.specs.declared.filters.Entry.{Entry}
use Rattle.generic_tables.proofs.Filing.{at_run}
use Rattle.generic_tables.proofs.filters.at_number.Goals as goal

pub returns : goal.returns
returns c =
    let number = λ (e : Entry). e.number in
    let n = c.args.number in
    let rest = subst (IsNonDecreasingBy number) (sym c.split_at.ensures.back) (IsNonDecreasingBy-drop number _ _ c.requires) in
    at_run n c.args.entries.now _ _ _ _ c.partition_point-start.ensures.bound c.partition_point-count.ensures.bound c.split_at.ensures.back c.split_at-2.ensures.front
    (IsPartitionPoint-from_clause (λ e. ltb e.number n) _ _ c.partition_point-start.ensures.partitioned (IsPartitionedBy-ltb number _ n c.requires) (λ a r q k. search rules))
    (IsPartitionPoint-from_clause (λ e. leb e.number n) _ _ c.partition_point-count.ensures.partitioned (IsPartitionedBy-leb number _ n rest) (λ a r q k. search rules))
