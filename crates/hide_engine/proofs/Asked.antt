-- What is asked of a page by some filters: what is said of it, said of the page and the filters.
use Rattle.std.proofs.Common.{◌≡◌, ◌<◌, ℕ, true, List, length, sym, subst}
use Rattle.page_tree.specs.Forest.{Tree}
use Rattle.cos_patterns.specs.Tables.{Noted}
use Rattle.proper_filters.specs.Proper.{is_proper}
use Rattle.procedural_ops.specs.Told.{selector_at}
use Rattle.selector_tree.specs.declared.filter.Filter.{Filter}
use Rattle.generic_tables.specs.FilterTables.{IsTableOf}
use Rattle.generic_tables.specs.declared.filters.FilterTable.{FilterTable}
use Rattle.retest.specs.Asked.{IsReady}
use Rattle.retest.specs.declared.asking.Asking.{Asking}

-- the filters may be asked
pub ready_of : (asking : Asking) (table : Noted) (active : List Filter) (keyed : FilterTable) → asking.context.table.now ≡ table → asking.active.now ≡ active → asking.keyed.now ≡ keyed →
    ((f : ℕ) → f < length active → is_proper table.patterns (selector_at active f) ≡ true) → IsTableOf active keyed → IsReady asking
ready_of asking table active keyed is_table is_active is_keyed proper filed = record {
  proper =
      subst (λ active. (f : ℕ) → f < length active → is_proper asking.context.table.now.patterns (selector_at active f) ≡ true) (sym is_active)
      (subst (λ (table : Noted). (f : ℕ) → f < length active → is_proper table.patterns (selector_at active f) ≡ true) (sym is_table) proper);
  filed = subst (λ active. IsTableOf active asking.keyed.now) (sym is_active) (subst (λ keyed. IsTableOf active keyed) (sym is_keyed) filed);
}

-- what holds of its tree, path, filters and groups
pub told_of : (P : Tree → List ℕ → List Filter → List ℕ → Type 0) (asking : Asking) (tree : Tree) (path : List ℕ) (active : List Filter) (groups : List ℕ) →
    asking.context.dom.now ≡ tree → asking.context.path.now ≡ path → asking.active.now ≡ active → asking.groups.now ≡ groups →
    P asking.context.dom.now asking.context.path.now asking.active.now asking.groups.now → P tree path active groups
told_of P asking tree path active groups is_tree is_path is_active are_groups told =
    let dom = asking.context.dom.now in
    let at = asking.context.path.now in
    subst (λ tree. P tree path active groups) is_tree
    (subst (λ path. P dom path active groups) is_path
    (subst (λ active. P dom at active groups) is_active
    (subst (λ groups. P dom at asking.active.now groups) are_groups told)))
