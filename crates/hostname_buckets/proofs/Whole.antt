-- The walk over what is looked up gives the active filters.
use Rattle.std.proofs.Common.{◌≡◌, ◌∙◌, ℕ, ◌&&◌, ◌==◌, Bool, true, false, cond, not, List, [], Option, Some, None, refl, sym, ap, subst, true≢false}
use Rattle.std.proofs.lemmas.List.Sorted.{IsNonDecreasingBy-from_sort, list_any-IsPermutation}
use Rattle.std.specs.List.{flat_map, list_any}
use Rattle.std.specs.List.Sorted.{IsPermutation, IsSorted}
use Rattle.std.specs.Ordering.{nat_cmp}
use Rattle.std.specs.Prelude.{option_and_then, option_to_list, slice_get}
use Rattle.address_patterns.specs.declared.page.Page.{Page}
use Rattle.filter_scope.specs.declared.scope.Scope.{Scope}
use Rattle.filter_scope.specs.Scopes.{applies}
use Rattle.host_names.specs.Suffixes.{Rule, rest}
use Rattle.list_entries.specs.declared.entry.Entry.{Entry}
use Rattle.list_entries.specs.declared.entry.Entry.TheVariants as entry
use Rattle.selector_tree.specs.declared.filter.Filter.{Filter}
use Rattle.hostname_buckets.specs.declared.store.SwitchedOff.{SwitchedOff}
use Rattle.hostname_buckets.specs.declared.tables.Tables.{Tables}
use Rattle.hostname_buckets.specs.Active.{active_among, active_by, active_with, excepts, is_off, switched_off}
use Rattle.hostname_buckets.specs.Held.{AreEntered, gathered, has, stands}
use Rattle.hostname_buckets.proofs.Finding.{scope_found}
use Rattle.hostname_buckets.proofs.Walking.{gives, rise, walk, walked}

module _ (tables : Tables) (entries : List Entry) (off : SwitchedOff) (host : List ℕ) (left : Option (List ℕ)) (numbers : List ℕ)
    (entered : AreEntered tables entries) (same : IsPermutation (gathered tables host left) numbers) where
  -- an entry that isn't looked up isn't active
  unfound : (m : ℕ) → has numbers m ≡ false → gives (active_by off entries host left) entries m ≡ []
  unfound m absent = go (slice_get entries m) refl
    where
      by_scope : (filter : Filter) (scope : Scope) (applied : Bool) → applies scope host left ≡ applied → stands tables m (entry.Filter filter scope) ≡ true → (on free : Bool) →
          option_to_list (cond (applied && on && free) (Some filter) None) ≡ []
      by_scope filter scope true a s on free =
          let found = sym (list_any-IsPermutation (λ n. n == m) (gathered tables host left) numbers same) ∙ scope_found tables host left m scope s a in
          absurd (true≢false (sym found ∙ absent))
      by_scope filter scope false a s on free = refl

      by_entry : (e : Entry) → stands tables m e ≡ true → option_to_list (active_by off entries host left e) ≡ []
      by_entry (entry.Filter filter scope) s =
          by_scope filter scope (applies scope host left) refl s (not (is_off off scope)) (not (list_any (excepts host left filter.canonical) entries))
      by_entry (entry.Exception canonical scope) s = refl
      by_entry (entry.Page pattern domain options) s = refl

      go : (o : Option Entry) → slice_get entries m ≡ o → option_to_list (option_and_then (active_by off entries host left) o) ≡ []
      go None e = refl
      go (Some e) is = by_entry e (entered m e is)

  pub walked_active : IsSorted nat_cmp numbers → walk (active_by off entries host left) entries 0 numbers ≡ flat_map (λ e. option_to_list (active_by off entries host left e)) entries
  walked_active sorted = walked (active_by off entries host left) entries numbers 0 (rise numbers (IsNonDecreasingBy-from_sort (λ x. x) numbers sorted)) (λ m l absent. unfound m absent)

-- under what was read of the page and the rules
pub all_active : (tables : Tables) (inside entries : List Entry) (page : Page) (rules : List Rule) (off : SwitchedOff) (host : List ℕ) (left : Option (List ℕ)) (numbers items : List ℕ) →
    AreEntered tables inside → inside ≡ entries → IsPermutation (gathered tables host left) numbers → IsSorted nat_cmp numbers → items ≡ numbers →
    host ≡ page.host → off ≡ switched_off entries page left → left ≡ rest rules page.host →
    walk (active_by off entries page.host left) entries 0 items ≡ active_among entries page rules
all_active tables inside entries page rules off host left numbers items entered view same sorted is named switched rested =
    ap (walk (active_by off entries page.host left) entries 0) is
    ∙ walked_active tables entries off page.host left numbers (subst (AreEntered tables) view entered) (subst (λ (h : List ℕ). IsPermutation (gathered tables h left) numbers) named same) sorted
    ∙ ap (λ o. flat_map (λ e. option_to_list (active_by o entries page.host left e)) entries) switched
    ∙ ap (active_with entries page) rested
