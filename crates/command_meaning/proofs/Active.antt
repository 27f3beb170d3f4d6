-- The same filters are active without the numbers of their patterns.
use Rattle.std.proofs.Common.{◌≡◌, ℕ, ◌&&◌, ◌||◌, ◌++◌, Bool, true, false, not, cond, List, [], ◌∷◌, Option, Some, None, map, flat_map, refl, sym, ap, ap₂, ◌∙◌}
use Rattle.std.specs.List.{list_any}
use Rattle.std.specs.Prelude.{option_to_list}
use Rattle.std.proofs.lemmas.List.{map-append}
use Rattle.address_patterns.specs.declared.page.Page.{Page}
use Rattle.filter_scope.specs.Scopes.{applies}
use Rattle.host_names.specs.Suffixes.{rest}
use Rattle.hostname_buckets.specs.Active.{active_by, active_with, entries_of, excepts, is_off, switched_off, switches_off}
use Rattle.list_entries.specs.declared.entry.Entry.{Entry}
use Rattle.list_entries.specs.declared.entry.Entry.TheVariants as entry
use Rattle.list_entries.specs.declared.entry.ListRead.{ListRead}
use Rattle.list_reader.specs.Entries.{unnumbered_entry}
use Rattle.selector_tree.specs.declared.filter.Filter.{Filter}
use Rattle.command_meaning.specs.Laws.{ActiveUnnumbered}
use Rattle.command_meaning.specs.Numbers.{unnumbered_filter, unnumbered_list}

-- a question that each entry answers alike with and without its numbers
any_alike : (p : Entry → Bool) → ((e : Entry) → p (unnumbered_entry e) ≡ p e) → (entries : List Entry) → list_any p (map unnumbered_entry entries) ≡ list_any p entries
any_alike p h [] = refl
any_alike p h (e ∷ entries) = ap₂ ◌||◌ (h e) (any_alike p h entries)

same_switch : (page : Page) (left : Option (List ℕ)) (generic : Bool) (e : Entry) → switches_off page left generic (unnumbered_entry e) ≡ switches_off page left generic e
same_switch page left generic (entry.Filter filter scope) = refl
same_switch page left generic (entry.Exception canonical scope) = refl
same_switch page left generic (entry.Page pattern domain options) = refl

same_excepts : (host : List ℕ) (left : Option (List ℕ)) (canonical : List ℕ) (e : Entry) → excepts host left canonical (unnumbered_entry e) ≡ excepts host left canonical e
same_excepts host left canonical (entry.Filter filter scope) = refl
same_excepts host left canonical (entry.Exception text scope) = refl
same_excepts host left canonical (entry.Page pattern domain options) = refl

same_off : (page : Page) (left : Option (List ℕ)) (entries : List Entry) → switched_off (map unnumbered_entry entries) page left ≡ switched_off entries page left
same_off page left entries =
    rw (any_alike (switches_off page left true) (same_switch page left true) entries, any_alike (switches_off page left false) (same_switch page left false) entries)

if_active : (b d : Bool) (f : Filter) → b ≡ d → (more rest : List Filter) → more ≡ map unnumbered_filter rest →
    option_to_list (cond b (Some (unnumbered_filter f)) None) ++ more ≡ map unnumbered_filter (option_to_list (cond d (Some f) None) ++ rest)
if_active true true f e more rest h = ap (λ (l : List Filter). unnumbered_filter f ∷ l) h
if_active true false f e more rest h = absurd (cc)
if_active false true f e more rest h = absurd (cc)
if_active false false f e more rest h = h

-- of some entries, under what the options of others switch off and what the exceptions of others take away
same_active : (page : Page) (left : Option (List ℕ)) (options all entries : List Entry) →
    flat_map (λ e. option_to_list (active_by (switched_off options page left) (map unnumbered_entry all) page.host left e)) (map unnumbered_entry entries)
    ≡ map unnumbered_filter (flat_map (λ e. option_to_list (active_by (switched_off options page left) all page.host left e)) entries)
same_active page left options all [] = refl
same_active page left options all (entry.Filter f scope ∷ entries) =
    if_active _ _ f
    (ap (λ (b : Bool). applies scope page.host left && not (is_off (switched_off options page left) scope) && not b)
    (any_alike (excepts page.host left f.canonical) (same_excepts page.host left f.canonical) all))
    _ _ (same_active page left options all entries)
same_active page left options all (entry.Exception canonical scope ∷ entries) = same_active page left options all entries
same_active page left options all (entry.Page pattern domain given ∷ entries) = same_active page left options all entries

same_with : (page : Page) (left : Option (List ℕ)) (entries : List Entry) → active_with (map unnumbered_entry entries) page left ≡ map unnumbered_filter (active_with entries page left)
same_with page left entries =
    ap (λ off. flat_map (λ e. option_to_list (active_by off (map unnumbered_entry entries) page.host left e)) (map unnumbered_entry entries)) (same_off page left entries)
    ∙ same_active page left entries entries entries

same_entries : (lists : List ListRead) → entries_of (map unnumbered_list lists) ≡ map unnumbered_entry (entries_of lists)
same_entries [] = refl
same_entries (list ∷ lists) = ap (λ (es : List Entry). map unnumbered_entry list.entries ++ es) (same_entries lists) ∙ sym (map-append unnumbered_entry list.entries (entries_of lists))

-- the active filters without the numbers of their patterns
pub active_unnumbered : ActiveUnnumbered
active_unnumbered lists page rules =
    ap (λ (es : List Entry). active_with es page (rest rules page.host)) (same_entries lists) ∙ same_with page (rest rules page.host) (entries_of lists)
