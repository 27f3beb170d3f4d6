use Rattle.std.proofs.Common.{◌≡◌, ◌&&◌, ◌||◌, true, nat_eq, ℕ, length}
use Rattle.std.specs.List.{list_any}
use Rattle.page_tree.specs.Directions.{is_in}
use Rattle.generic_tables.specs.Carried.{key_in}
use Rattle.generic_tables.specs.FilterTables.{filters_left, has_key}
use Rattle.retest.specs.Asked.{answers, group_in}
use Rattle.retest.proofs.asking.add_due.Given as goal

-- with those that are left, no filter is due that isn't pending, and each is that is pending and selects the element
abbrev pub invariant-filters : goal.invariant-filters
invariant-filters g l = record {
  within : (f : ℕ) →
      (list_any (nat_eq f) l.due.keys || (is_in (filters_left l.filters) f && g.W.Pends.pends l.pending (group_in l.asking.groups.now f) l.x)) ≡ true →
      (list_any (nat_eq f) l.initial.due.keys || (has_key l.asking.active.now (key_in l.key) f && g.W.Pends.pends l.pending (group_in l.asking.groups.now f) l.x)) ≡ true;
  enough : (f : ℕ) →
      (list_any (nat_eq f) l.initial.due.keys || (has_key l.asking.active.now (key_in l.key) f && (g.W.Pends.pends l.pending (group_in l.asking.groups.now f) l.x && answers l.asking f l.x))) ≡ true →
      (list_any (nat_eq f) l.due.keys || (is_in (filters_left l.filters) f && (g.W.Pends.pends l.pending (group_in l.asking.groups.now f) l.x && answers l.asking f l.x))) ≡ true;
}

abbrev pub decreases-filters : goal.decreases-filters
decreases-filters g l = length (filters_left l.filters)
