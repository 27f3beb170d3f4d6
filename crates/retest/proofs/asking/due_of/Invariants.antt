use Rattle.std.proofs.Common.{◌≡◌, ◌&&◌, ◌||◌, true, nat_eq, ℕ, length}
use Rattle.std.specs.List.{list_any}
use Rattle.generic_tables.specs.KeysLeft.{keys_left}
use Rattle.generic_tables.specs.FilterTables.{has_key}
use Rattle.retest.specs.Asked.{answers, carried, group_in}
use Rattle.retest.proofs.asking.due_of.Given as goal

-- with those of the keys that are left, no filter is due that isn't carried and pending, and each is that is pending and selects the element
abbrev pub invariant-keys : goal.invariant-keys
invariant-keys g l = record {
  within : (f : ℕ) →
      (list_any (nat_eq f) l.due.keys || (list_any (λ k. has_key l.asking.active.now k f) (keys_left l.keys) && g.W.Pends.pends l.pending (group_in l.asking.groups.now f) l.x)) ≡ true →
      (carried l.asking f l.x && g.W.Pends.pends l.pending (group_in l.asking.groups.now f) l.x) ≡ true;
  enough : (f : ℕ) →
      (g.W.Pends.pends l.pending (group_in l.asking.groups.now f) l.x && answers l.asking f l.x) ≡ true →
      (list_any (nat_eq f) l.due.keys || (list_any (λ k. has_key l.asking.active.now k f) (keys_left l.keys) && (g.W.Pends.pends l.pending (group_in l.asking.groups.now f) l.x && answers l.asking f l.x))) ≡ true;
}

abbrev pub decreases-keys : goal.decreases-keys
decreases-keys g l = length (keys_left l.keys)
