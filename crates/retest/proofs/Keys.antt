-- Filters and the keys of their chains.
use Rattle.std.proofs.Common.{◌≡◌, ◌<◌, ℕ, zero, suc, true, List, [], ◌∷◌, length, arith}
use Rattle.std.specs.List.{list_any}
use Rattle.std.proofs.lemmas.Bool.{false≢true}
use Rattle.selector_tree.specs.declared.filter.Filter.{Filter}
use Rattle.page_tree.specs.Standings.{all}
use Rattle.cos_patterns.specs.Found.{pattern_found}
use Rattle.procedural_ops.specs.Told.{selector_at}
use Rattle.generic_tables.specs.Keys.{is_keyed}
use Rattle.generic_tables.specs.Carried.{keys_at}
use Rattle.generic_tables.specs.FilterTables.{has_key}
use Rattle.generic_tables.proofs.KeyLaws.{key_law}
use Rattle.generic_tables.proofs.Carrying.{keyed_at}
use Rattle.retest_laws.specs.Pending.{HasKeys}
use Rattle.retest.specs.declared.asking.Asking.{Asking}
use Rattle.retest.specs.Asked.{answers, carried}

-- an element carries a key of the filters that have some key of it
pub filed_at : (asking : Asking) (f x : ℕ) → list_any (λ k. has_key asking.active.now k f) (keys_at asking.context.dom.now x) ≡ carried asking f x
filed_at asking f x = keyed_at asking.context.dom.now (selector_at asking.active.now f) x

-- no filter past the last has a key
pub active_filter : (asking : Asking) (f x : ℕ) → carried asking f x ≡ true → f < length asking.active.now
active_filter asking f x h = by asking.active.now f h
  where
    by : (filters : List Filter) (n : ℕ) → is_keyed asking.context.dom.now (selector_at filters n) x ≡ true → n < length filters
    by [] n h = absurd (false≢true h)
    by (filter ∷ filters) zero h = omega arith
    by (filter ∷ filters) (suc n) h = let less = by filters n h in omega arith

-- an element carries a key of each filter that selects it
pub keyed : (asking : Asking) (f x : ℕ) → answers asking f x ≡ true → carried asking f x ≡ true
keyed asking f x h = key_law pattern_found asking.context.dom.now asking.context.path.now (selector_at asking.active.now f) x h

pub has_keys : (asking : Asking) → HasKeys (all asking.context.dom.now) (answers asking) (carried asking)
has_keys asking f x here h = keyed asking f x h
