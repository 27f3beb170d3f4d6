-- Which filters of lists may be asked.
use Rattle.std.proofs.Common.{◌≡◌, ◌≤◌, ◌<◌, ◌^◌, ◌&&◌, Bool, true, false, List, [], ◌∷◌, length, Result, Ok, Err, IfOk, All, refl, ap, arith}
use Rattle.std.specs.List.{list_all}
use Rattle.std.proofs.lemmas.List.Elements.{All-append, All-cons, All-head, All-nil, All-tail}
use Rattle.cos_patterns.specs.declared.written.Written.{Written}
use Rattle.engine_meaning.specs.Filters.{AreAskable, MayBeAsked}
use Rattle.hostname_buckets.specs.Active.{entries_of, filters_of}
use Rattle.list_entries.specs.declared.entry.Entry.{Entry}
use Rattle.list_entries.specs.declared.entry.Entry.TheVariants as entry
use Rattle.list_entries.specs.declared.entry.ListRead.{ListRead}
use Rattle.list_reader.specs.Entries.{IsProperEntry}
use Rattle.proper_filters.specs.Degrees.{have_degrees}
use Rattle.proper_filters.specs.Proper.{is_proper}
use Rattle.selector_tree.specs.declared.filter.Filter.{Filter}

both : (a b : Bool) → a ≡ true → b ≡ true → (a && b) ≡ true
both a b p q = rw p q

first_of : (a b : Bool) → (a && b) ≡ true → a ≡ true
first_of true b h = refl
first_of false b h = h

second_of : (a b : Bool) → (a && b) ≡ true → b ≡ true
second_of true b h = h
second_of false b h = let no : false ≡ true = h in cc

module _ (patterns : List Written) where
  -- the filter may be asked
  abbrev pub may_be_asked : Filter → Bool
  may_be_asked f = is_proper patterns f.selector && have_degrees f.selector

  all_entries : (lists : List ListRead) → All (λ list. All (IsProperEntry patterns) list.entries) lists → All (IsProperEntry patterns) (entries_of lists)
  all_entries [] h = All-nil (IsProperEntry patterns)
  all_entries (list ∷ lists) h =
      let Proper : ListRead → Type 0 = λ l. All (IsProperEntry patterns) l.entries in
      All-append (IsProperEntry patterns) list.entries (entries_of lists) (All-head Proper list lists h) (all_entries lists (All-tail Proper list lists h))

  all_filters : (entries : List Entry) → All (IsProperEntry patterns) entries → list_all may_be_asked (filters_of entries) ≡ true
  all_filters [] h = refl
  all_filters (entry.Filter filter scope ∷ entries) h =
      let p = All-head (IsProperEntry patterns) (entry.Filter filter scope) entries h in
      both (may_be_asked filter) (list_all may_be_asked (filters_of entries))
      (both (is_proper patterns filter.selector) (have_degrees filter.selector) p.0 p.1)
      (all_filters entries (All-tail (IsProperEntry patterns) (entry.Filter filter scope) entries h))
  all_filters (entry.Exception canonical scope ∷ entries) h = all_filters entries (All-tail (IsProperEntry patterns) (entry.Exception canonical scope) entries h)
  all_filters (entry.Page pattern domain options ∷ entries) h = all_filters entries (All-tail (IsProperEntry patterns) (entry.Page pattern domain options) entries h)

  -- filters that pass the test
  passed : (filters : List Filter) → list_all may_be_asked filters ≡ true → All (MayBeAsked patterns) filters
  passed [] h = All-nil (MayBeAsked patterns)
  passed (f ∷ filters) h =
      let own = first_of (may_be_asked f) (list_all may_be_asked filters) h in
      All-cons (MayBeAsked patterns) f filters
      (first_of (is_proper patterns f.selector) (have_degrees f.selector) own, second_of (is_proper patterns f.selector) (have_degrees f.selector) own)
      (passed filters (second_of (may_be_asked f) (list_all may_be_asked filters) h))

  -- filters of lists may be asked
  pub are_askable : {E : Type 0} (lists : List ListRead) (entries : List Entry) (result : Result (List Filter) E) → entries ≡ entries_of lists
      → All (λ list. All (IsProperEntry patterns) list.entries) lists → length (entries_of lists) < 2 ^ 32
      → IfOk result (λ active. (holds : Filter → Bool) → list_all holds (filters_of entries) ≡ true → list_all holds active ≡ true)
      → IfOk result (λ active. length active ≤ length entries) → IfOk result (AreAskable patterns)
  are_askable lists entries (Ok active) e proper within each few = record {
    proper = passed active (each may_be_asked (rw e (all_filters (entries_of lists) (all_entries lists proper))));
    few = omega (arith, few, within, ap length e);
  }
  are_askable lists entries (Err error) e proper within each few = tt
