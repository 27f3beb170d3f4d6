-- What holds of the active filters since they are filters of the lists.
use Rattle.std.proofs.Common.{◌≡◌, ℕ, ◌≤◌, Bool, true, false, cond, List, [], ◌∷◌, ◌++◌, Option, Some, None, length, suc, refl, arith}
use Rattle.std.specs.List.{flat_map, list_all}
use Rattle.std.specs.Prelude.{option_to_list}
use Rattle.address_patterns.specs.declared.page.Page.{Page}
use Rattle.host_names.specs.Suffixes.{Rule, rest}
use Rattle.list_entries.specs.declared.entry.Entry.{Entry}
use Rattle.list_entries.specs.declared.entry.Entry.TheVariants as entry
use Rattle.selector_tree.specs.declared.filter.Filter.{Filter}
use Rattle.hostname_buckets.specs.declared.store.SwitchedOff.{SwitchedOff}
use Rattle.hostname_buckets.specs.Active.{active_among, active_by, filters_of, is_active, switched_off}
use Rattle.hostname_buckets.proofs.Entering.{and_both, and_parts}

module _ (off : SwitchedOff) (all : List Entry) (host : List ℕ) (left : Option (List ℕ)) where
  each : (holds : Filter → Bool) (entries : List Entry) → list_all holds (filters_of entries) ≡ true →
      list_all holds (flat_map (λ e. option_to_list (active_by off all host left e)) entries) ≡ true
  each holds [] h = refl
  each holds (entry.Filter filter scope ∷ entries) h =
      let parts = and_parts (holds filter) (list_all holds (filters_of entries)) h in
      go (is_active off all host left filter scope) parts.0 (each holds entries parts.1)
    where
      go : (t : Bool) → holds filter ≡ true → list_all holds (flat_map (λ e. option_to_list (active_by off all host left e)) entries) ≡ true →
          list_all holds (option_to_list (cond t (Some filter) None) ++ flat_map (λ e. option_to_list (active_by off all host left e)) entries) ≡ true
      go true first more = and_both (holds filter) _ first more
      go false first more = more
  each holds (entry.Exception canonical scope ∷ entries) h = each holds entries h
  each holds (entry.Page pattern domain options ∷ entries) h = each holds entries h

  few : (entries : List Entry) → length (flat_map (λ e. option_to_list (active_by off all host left e)) entries) ≤ length entries
  few [] = omega arith
  few (entry.Filter filter scope ∷ entries) = go (is_active off all host left filter scope) (few entries)
    where
      go : (t : Bool) → length (flat_map (λ e. option_to_list (active_by off all host left e)) entries) ≤ length entries →
          length (option_to_list (cond t (Some filter) None) ++ flat_map (λ e. option_to_list (active_by off all host left e)) entries) ≤ suc (length entries)
      go true more = omega arith
      go false more = omega arith
  few (entry.Exception canonical scope ∷ entries) = raised _ (length entries) (few entries)
    where
      raised : (k l : ℕ) → k ≤ l → k ≤ suc l
      raised k l h = omega arith
  few (entry.Page pattern domain options ∷ entries) = raised _ (length entries) (few entries)
    where
      raised : (k l : ℕ) → k ≤ l → k ≤ suc l
      raised k l h = omega arith

-- what holds of all filters holds of the active ones
pub active_each : (holds : Filter → Bool) (entries : List Entry) (page : Page) (rules : List Rule) → list_all holds (filters_of entries) ≡ true →
    list_all holds (active_among entries page rules) ≡ true
active_each holds entries page rules h = each (switched_off entries page (rest rules page.host)) entries page.host (rest rules page.host) holds entries h

-- no more are active than there are entries
pub active_few : (entries : List Entry) (page : Page) (rules : List Rule) → length (active_among entries page rules) ≤ length entries
active_few entries page rules = few (switched_off entries page (rest rules page.host)) entries page.host (rest rules page.host) entries
