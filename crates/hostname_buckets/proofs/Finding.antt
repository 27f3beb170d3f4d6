-- What passes is found by the numbers that stand in tables.
use Rattle.std.proofs.Common.{◌≡◌, ◌∙◌, ℕ, ◌==◌, ◌&&◌, ◌||◌, Bool, true, false, not, List, [], ◌∷◌, ◌++◌, Option, Some, None, refl, sym, ap, true≢false, zero, suc}
use Rattle.std.specs.List.{flat_map, list_all, list_any}
use Rattle.std.specs.Prelude.{slice_get}
use Rattle.std.specs.Str.{bytes_eq}
use Rattle.std.proofs.lemmas.Bool.{eqb-true}
use Rattle.std.proofs.lemmas.Slice.Eq.{bytes_eq-Decides}
use Rattle.address_patterns.specs.declared.page.Page.{Page}
use Rattle.filter_scope.specs.declared.scope.Item.{Item}
use Rattle.filter_scope.specs.declared.scope.Scope.{Scope}
use Rattle.filter_scope.specs.declared.scope.Target.{Target}
use Rattle.filter_scope.specs.declared.scope.Target.TheVariants.{All, Host, Entity}
use Rattle.filter_scope.specs.Scopes.{applies, is_generic, item_matches, names}
use Rattle.host_names.specs.Hosts.{ends_of}
use Rattle.host_names.proofs.Under.{under_ends}
use Rattle.list_entries.specs.declared.entry.Entry.{Entry}
use Rattle.list_entries.specs.declared.entry.Entry.TheVariants as entry
use Rattle.hostname_buckets.specs.declared.tables.Tables.{Tables}
use Rattle.hostname_buckets.specs.declared.by_name.ByName.{ByName}
use Rattle.hostname_buckets.specs.Active.{excepts, switches_off}
use Rattle.hostname_buckets.specs.Held.{AreEntered, gathered, has, item_stands, numbers_at, passes, passes_at, scope_stands, stands, target_stands, under, under_rest}
use Rattle.hostname_buckets.proofs.Entering.{and_parts, keeps_before, keeps_more, or_left, or_right}

-- ---- a test of entries by their numbers

any_at : (test : Entry → Bool) (entries : List Entry) → list_any test entries ≡ true → (n : ℕ) × (e : Entry) × (slice_get entries n ≡ Some e) × (test e ≡ true)
any_at test [] h = absurd (true≢false (sym h))
any_at test (e ∷ entries) h = go (test e) refl h (λ g. any_at test entries g)
  where
    go : (t : Bool) → test e ≡ t → (t || list_any test entries) ≡ true →
        (list_any test entries ≡ true → (n : ℕ) × (d : Entry) × (slice_get entries n ≡ Some d) × (test d ≡ true)) →
        (n : ℕ) × (d : Entry) × (slice_get (e ∷ entries) n ≡ Some d) × (test d ≡ true)
    go true passed g more = (zero, e, refl, passed)
    go false failed g more = (suc (more g).0, (more g).1, (more g).2, (more g).3)

at_any : (test : Entry → Bool) (entries : List Entry) (n : ℕ) → passes_at test entries n ≡ true → list_any test entries ≡ true
at_any test [] n h = absurd (true≢false (sym h))
at_any test (e ∷ entries) zero h = or_left (test e) (list_any test entries) h
at_any test (e ∷ entries) (suc n) h = or_right (test e) (list_any test entries) (at_any test entries n h)

any_number : (test : ℕ → Bool) (numbers : List ℕ) → list_any test numbers ≡ true → (n : ℕ) × (test n ≡ true)
any_number test [] h = absurd (true≢false (sym h))
any_number test (n ∷ numbers) h = go (test n) refl h (λ g. any_number test numbers g)
  where
    go : (t : Bool) → test n ≡ t → (t || list_any test numbers) ≡ true → (list_any test numbers ≡ true → (m : ℕ) × (test m ≡ true)) → (m : ℕ) × (test m ≡ true)
    go true passed g more = (n, passed)
    go false failed g more = more g

has_any : (test : ℕ → Bool) (numbers : List ℕ) (n : ℕ) → has numbers n ≡ true → test n ≡ true → list_any test numbers ≡ true
has_any test [] n h p = absurd (true≢false (sym h))
has_any test (m ∷ numbers) n h p = go (m == n) refl h (λ g. has_any test numbers n g p)
  where
    go : (t : Bool) → (m == n) ≡ t → (t || has numbers n) ≡ true → (has numbers n ≡ true → list_any test numbers ≡ true) → (test m || list_any test numbers) ≡ true
    go true same g more = or_left (test m) (list_any test numbers) (ap test (eqb-true m n same) ∙ p)
    go false other g more = or_right (test m) (list_any test numbers) (more g)

-- where each entry that passes stands with its number among some, one of them passes where any entry does
pub found_any : (test : Entry → Bool) (entries : List Entry) (numbers : List ℕ) →
    ((n : ℕ) (e : Entry) → slice_get entries n ≡ Some e → test e ≡ true → has numbers n ≡ true) → list_any (passes_at test entries) numbers ≡ list_any test entries
found_any test entries numbers h = go (list_any test entries) refl (list_any (passes_at test entries) numbers) refl
  where
    go : (t : Bool) → list_any test entries ≡ t → (u : Bool) → list_any (passes_at test entries) numbers ≡ u → u ≡ t
    go true e true f = refl
    go false e false f = refl
    go true e false f =
        let at = any_at test entries e in
        let passed : passes_at test entries at.0 ≡ true = ap (passes test) at.2 ∙ at.3 in
        sym f ∙ has_any (passes_at test entries) numbers at.0 (h at.0 at.1 at.2 at.3) passed
    go false e true f =
        let at = any_number (passes_at test entries) numbers f in
        sym (at_any test entries at.0 at.1) ∙ e

-- exceptions are found by their canonical texts
pub exception_found : (tables : Tables) (entries : List Entry) (host : List ℕ) (rest : Option (List ℕ)) (canonical : List ℕ) → AreEntered tables entries →
    list_any (passes_at (excepts host rest canonical) entries) (numbers_at tables.exceptions canonical) ≡ list_any (excepts host rest canonical) entries
exception_found tables entries host rest canonical entered =
    found_any (excepts host rest canonical) entries (numbers_at tables.exceptions canonical) (λ n e is p. at n e (entered n e is) p)
  where
    at : (n : ℕ) (e : Entry) → stands tables n e ≡ true → excepts host rest canonical e ≡ true → has (numbers_at tables.exceptions canonical) n ≡ true
    at n (entry.Filter filter scope) s p = absurd (true≢false (sym p))
    at n (entry.Exception text scope) s p =
        let same : text ≡ canonical = (bytes_eq-Decides text canonical).0 (and_parts (bytes_eq text canonical) (applies scope host rest) p).0 in
        ap (λ (name : List ℕ). has (numbers_at tables.exceptions name) n) (sym same) ∙ s
    at n (entry.Page pattern domain options) s p = absurd (true≢false (sym p))

-- page options are found by a list of their own
pub option_found : (tables : Tables) (entries : List Entry) (page : Page) (rest : Option (List ℕ)) (generic : Bool) → AreEntered tables entries →
    list_any (passes_at (switches_off page rest generic) entries) tables.options ≡ list_any (switches_off page rest generic) entries
option_found tables entries page rest generic entered =
    found_any (switches_off page rest generic) entries tables.options (λ n e is p. at n e (entered n e is) p)
  where
    at : (n : ℕ) (e : Entry) → stands tables n e ≡ true → switches_off page rest generic e ≡ true → has tables.options n ≡ true
    at n (entry.Filter filter scope) s p = absurd (true≢false (sym p))
    at n (entry.Exception text scope) s p = absurd (true≢false (sym p))
    at n (entry.Page pattern domain options) s p = s

-- ---- filters by the hosts and entities of their scopes

has_under : (index : ByName) (name : List ℕ) (n : ℕ) → has (numbers_at index name) n ≡ true → (ends : List (List ℕ)) → list_any (bytes_eq name) ends ≡ true →
    has (flat_map (numbers_at index) ends) n ≡ true
has_under index name n h [] p = absurd (true≢false (sym p))
has_under index name n h (end ∷ ends) p = go (bytes_eq name end) refl p (λ g. has_under index name n h ends g)
  where
    go : (t : Bool) → bytes_eq name end ≡ t → (t || list_any (bytes_eq name) ends) ≡ true → (list_any (bytes_eq name) ends ≡ true → has (flat_map (numbers_at index) ends) n ≡ true) →
        has (numbers_at index end ++ flat_map (numbers_at index) ends) n ≡ true
    go true same g more =
        let names : name ≡ end = (bytes_eq-Decides name end).0 same in
        keeps_more (numbers_at index end) (flat_map (numbers_at index) ends) n (ap (λ (l : List ℕ). has (numbers_at index l) n) (sym names) ∙ h)
    go false other g more = keeps_before (numbers_at index end) (flat_map (numbers_at index) ends) n (more g)

module _ (tables : Tables) (host : List ℕ) (rest : Option (List ℕ)) (n : ℕ) where
  in_rest : has tables.rest n ≡ true → has (gathered tables host rest) n ≡ true
  in_rest h =
      keeps_more (tables.rest ++ under tables.hosts host) (under_rest tables.entities rest) n (keeps_more tables.rest (under tables.hosts host) n h)

  in_hosts : has (under tables.hosts host) n ≡ true → has (gathered tables host rest) n ≡ true
  in_hosts h =
      keeps_more (tables.rest ++ under tables.hosts host) (under_rest tables.entities rest) n (keeps_before tables.rest (under tables.hosts host) n h)

  in_entities : has (under_rest tables.entities rest) n ≡ true → has (gathered tables host rest) n ≡ true
  in_entities h = keeps_before (tables.rest ++ under tables.hosts host) (under_rest tables.entities rest) n h

  by_target : (target : Target) → target_stands tables n target ≡ true → names host rest target ≡ true → has (gathered tables host rest) n ≡ true
  by_target All s m = in_rest s
  by_target (Host name) s m = in_hosts (has_under tables.hosts name n s (ends_of host) (sym (under_ends name host) ∙ m))
  by_target (Entity name) s m = go rest refl m
    where
      go : (r : Option (List ℕ)) → r ≡ rest → names host r (Entity name) ≡ true → has (gathered tables host rest) n ≡ true
      go None e m = absurd (true≢false (sym m))
      go (Some left) e m =
          in_entities (ap (λ (o : Option (List ℕ)). has (under_rest tables.entities o) n) (sym e)
          ∙ has_under tables.entities name n s (ends_of left) (sym (under_ends name left) ∙ m))

  by_items : (items : List Item) → list_all (item_stands tables n) items ≡ true → list_any (λ i. not i.negated && item_matches host rest i) items ≡ true →
      has (gathered tables host rest) n ≡ true
  by_items [] s m = absurd (true≢false (sym m))
  by_items (item ∷ items) s m =
      let parts = and_parts (item_stands tables n item) (list_all (item_stands tables n) items) s in
      go item.negated (item_matches host rest item) refl parts.0 m (λ g. by_items items parts.1 g)
    where
      go : (negated matched : Bool) → item_matches host rest item ≡ matched → (negated || target_stands tables n item.target) ≡ true →
          ((not negated && matched) || list_any (λ i. not i.negated && item_matches host rest i) items) ≡ true →
          (list_any (λ i. not i.negated && item_matches host rest i) items ≡ true → has (gathered tables host rest) n ≡ true) → has (gathered tables host rest) n ≡ true
      go true matched e s m more = more m
      go false true e s m more = by_target item.target s e
      go false false e s m more = more m

  -- a filter whose scope applies is among those that are looked up
  pub scope_found : (scope : Scope) → scope_stands tables n scope ≡ true → applies scope host rest ≡ true → has (gathered tables host rest) n ≡ true
  scope_found scope s a =
      let parts = and_parts (list_all (item_stands tables n) scope.items) (not (is_generic scope) || has tables.rest n) s in
      let refused = list_any (λ i. i.negated && item_matches host rest i) scope.items in
      let named = list_any (λ i. not i.negated && item_matches host rest i) scope.items in
      go (is_generic scope) parts.1 (and_parts (not refused) (is_generic scope || named) a).1 parts.0
    where
      go : (generic : Bool) → (not generic || has tables.rest n) ≡ true → (generic || list_any (λ i. not i.negated && item_matches host rest i) scope.items) ≡ true →
          list_all (item_stands tables n) scope.items ≡ true → has (gathered tables host rest) n ≡ true
      go true r m s = in_rest r
      go false r m s = by_items scope.items s m
