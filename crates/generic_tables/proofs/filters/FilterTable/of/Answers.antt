use Rattle.std.proofs.Common.{◌∙◌, ◌==◌, ◌&&◌, sym, rules}
use Rattle.std.proofs.lemmas.List.Sorted.{IsNonDecreasingBy-from_sort_by_key, list_any-IsPermutation}
use Rattle.generic_tables.specs.declared.filters.Entry.{Entry}
use Rattle.generic_tables.proofs.filters.FilterTable.of.Goals as goal

pub returns : goal.returns
returns c = record {
  stands = λ n f.
      sym (list_any-IsPermutation (λ (e : Entry). (e.number == n) && (e.filter == f)) _ _ c.sort_unstable_by_key.ensures.permutation)
      ∙ c.in_ok-entries.ensures n f;
  rise = IsNonDecreasingBy-from_sort_by_key (λ (e : Entry). e.number) _ c.sort_unstable_by_key.ensures.sorted (λ a r q k. search rules);
}
