-- What stands in tables stays there while entries are put in.
use Rattle.std.proofs.Common.{◌≡◌, ◌∙◌, ℕ, ◌==◌, ◌&&◌, ◌||◌, ◌⊎◌, inl, inr, Bool, true, false, cond, not, List, [], ◌∷◌, ◌++◌, Option, Some, length, refl, sym, ap, subst, arith, true≢false, zero, suc}
use Rattle.std.specs.List.{list_all}
use Rattle.std.specs.Map.{update}
use Rattle.std.specs.Prelude.{slice_get, unwrap_or}
use Rattle.std.specs.Str.{bytes_eq}
use Rattle.std.proofs.lemmas.Bool.{eq-eqb}
use Rattle.std.proofs.lemmas.List.Folds.{list_any-append}
use Rattle.std.proofs.lemmas.Slice.Eq.{bytes_eq-Decides}
use Rattle.filter_scope.specs.declared.scope.Item.{Item}
use Rattle.filter_scope.specs.declared.scope.Scope.{Scope}
use Rattle.filter_scope.specs.declared.scope.Target.{Target}
use Rattle.filter_scope.specs.declared.scope.Target.TheVariants.{All, Host, Entity}
use Rattle.filter_scope.specs.Scopes.{is_generic}
use Rattle.list_entries.specs.declared.entry.Entry.{Entry}
use Rattle.list_entries.specs.declared.entry.Entry.TheVariants as entry
use Rattle.hostname_buckets.specs.declared.tables.Tables.{Tables}
use Rattle.hostname_buckets.specs.Held.{AreEntered, Grows, Keeps, has, item_stands, scope_stands, stands, target_stands}

-- ---- one more number

pub or_left : (a b : Bool) → a ≡ true → (a || b) ≡ true
or_left true b e = refl
or_left false b e = absurd (true≢false (sym e))

pub or_right : (a b : Bool) → b ≡ true → (a || b) ≡ true
or_right true b e = refl
or_right false b e = e

pub and_both : (a b : Bool) → a ≡ true → b ≡ true → (a && b) ≡ true
and_both true b e f = f
and_both false b e f = absurd (true≢false (sym e))

pub and_parts : (a b : Bool) → (a && b) ≡ true → (a ≡ true) × (b ≡ true)
and_parts true b e = (refl, e)
and_parts false b e = absurd (true≢false (sym e))

pub keeps_itself : (numbers : List ℕ) → Keeps numbers numbers
keeps_itself numbers = λ n h. h

pub keeps_more : (numbers more : List ℕ) → Keeps numbers (numbers ++ more)
keeps_more numbers more = λ n h. list_any-append (λ m. m == n) numbers more ∙ or_left (has numbers n) (has more n) h

pub keeps_before : (before numbers : List ℕ) → Keeps numbers (before ++ numbers)
keeps_before before numbers = λ n h. list_any-append (λ m. m == n) before numbers ∙ or_right (has before n) (has numbers n) h

pub has_last : (numbers : List ℕ) (n : ℕ) → has (numbers ++ n ∷ []) n ≡ true
has_last numbers n = keeps_before numbers (n ∷ []) n (or_left (n == n) false (eq-eqb n n refl))

-- ---- a number at a name

-- a map by names after a number is put at one
pub at_put : (old : List ℕ → Option (List ℕ)) (name other numbers new : List ℕ) (n : ℕ) → unwrap_or (old name) [] ≡ numbers → new ≡ numbers ++ n ∷ [] →
    unwrap_or (update bytes_eq old name (Some new) other) [] ≡ cond (bytes_eq name other) (unwrap_or (old other) [] ++ n ∷ []) (unwrap_or (old other) [])
at_put old name other numbers new n e f = go (bytes_eq name other) refl
  where
    go : (t : Bool) → bytes_eq name other ≡ t → unwrap_or (cond t (Some new) (old other)) [] ≡ cond t (unwrap_or (old other) [] ++ n ∷ []) (unwrap_or (old other) [])
    go true same =
        let names : name ≡ other = (bytes_eq-Decides name other).0 same in
        f ∙ ap (λ (l : List ℕ). l ++ n ∷ []) (sym e ∙ ap (λ (l : List ℕ). unwrap_or (old l) []) names)
    go false differs = refl

-- what stands at a name after a number is put at one
abbrev pub IsPut : (List ℕ → List ℕ) → (List ℕ → List ℕ) → List ℕ → ℕ → Type 0
IsPut old new name n = (other : List ℕ) → new other ≡ cond (bytes_eq name other) (old other ++ n ∷ []) (old other)

pub put_keeps : (old new : List ℕ → List ℕ) (name : List ℕ) (n : ℕ) → IsPut old new name n → (other : List ℕ) → Keeps (old other) (new other)
put_keeps old new name n h other = subst (Keeps (old other)) (sym (h other)) (go (bytes_eq name other))
  where
    go : (t : Bool) → Keeps (old other) (cond t (old other ++ n ∷ []) (old other))
    go true = keeps_more (old other) (n ∷ [])
    go false = keeps_itself (old other)

pub put_has : (old new : List ℕ → List ℕ) (name : List ℕ) (n : ℕ) → IsPut old new name n → has (new name) n ≡ true
put_has old new name n h =
    let same : bytes_eq name name ≡ true = (bytes_eq-Decides name name).1 refl in
    ap (λ (l : List ℕ). has l n) (h name ∙ ap (λ t. cond t (old name ++ n ∷ []) (old name)) same) ∙ has_last (old name) n

-- ---- tables that grow

pub grows_itself : (tables : Tables) → Grows tables tables
grows_itself tables = record { hosts = λ name n h. h; entities = λ name n h. h; rest = λ n h. h; exceptions = λ name n h. h; options = λ n h. h }

pub grows_through : (a b c : Tables) → Grows a b → Grows b c → Grows a c
grows_through a b c f g = record {
  hosts = λ name n h. g.hosts name n (f.hosts name n h);
  entities = λ name n h. g.entities name n (f.entities name n h);
  rest = λ n h. g.rest n (f.rest n h);
  exceptions = λ name n h. g.exceptions name n (f.exceptions name n h);
  options = λ n h. g.options n (f.options n h);
}

module _ (old new : Tables) (g : Grows old new) (n : ℕ) where
  target_stays : (target : Target) → target_stands old n target ≡ true → target_stands new n target ≡ true
  target_stays All h = g.rest n h
  target_stays (Host name) h = g.hosts name n h
  target_stays (Entity name) h = g.entities name n h

  pub item_stays : (item : Item) → item_stands old n item ≡ true → item_stands new n item ≡ true
  item_stays item h = go item.negated h
    where
      go : (t : Bool) → (t || target_stands old n item.target) ≡ true → (t || target_stands new n item.target) ≡ true
      go true h = refl
      go false h = target_stays item.target h

  pub items_stay : (items : List Item) → list_all (item_stands old n) items ≡ true → list_all (item_stands new n) items ≡ true
  items_stay [] h = refl
  items_stay (item ∷ items) h =
      let parts = and_parts (item_stands old n item) (list_all (item_stands old n) items) h in
      and_both (item_stands new n item) (list_all (item_stands new n) items) (item_stays item parts.0) (items_stay items parts.1)

  scope_stays : (scope : Scope) → scope_stands old n scope ≡ true → scope_stands new n scope ≡ true
  scope_stays scope h =
      let parts = and_parts (list_all (item_stands old n) scope.items) (not (is_generic scope) || has old.rest n) h in
      and_both (list_all (item_stands new n) scope.items) (not (is_generic scope) || has new.rest n) (items_stay scope.items parts.0) (go (is_generic scope) parts.1)
    where
      go : (t : Bool) → (not t || has old.rest n) ≡ true → (not t || has new.rest n) ≡ true
      go true h = g.rest n h
      go false h = refl

  pub entry_stays : (e : Entry) → stands old n e ≡ true → stands new n e ≡ true
  entry_stays (entry.Filter filter scope) h = scope_stays scope h
  entry_stays (entry.Exception canonical scope) h = g.exceptions canonical n h
  entry_stays (entry.Page pattern domain options) h = g.options n h

-- an item stands where what it names does
pub target_item : (tables : Tables) (n : ℕ) (item : Item) (target : Target) → item.target ≡ target → target_stands tables n target ≡ true → item_stands tables n item ≡ true
target_item tables n item target e h = or_right item.negated (target_stands tables n item.target) (ap (target_stands tables n) e ∙ h)

-- a scope's items stand, and with a generic scope the number is among the rest
pub scope_entered : (tables : Tables) (n : ℕ) (scope : Scope) → list_all (item_stands tables n) scope.items ≡ true →
    (is_generic scope ≡ true → has tables.rest n ≡ true) → scope_stands tables n scope ≡ true
scope_entered tables n scope h r = and_both (list_all (item_stands tables n) scope.items) (not (is_generic scope) || has tables.rest n) h (go (is_generic scope) refl)
  where
    go : (t : Bool) → is_generic scope ≡ t → (not t || has tables.rest n) ≡ true
    go true e = r e
    go false e = refl

-- an entry of a longer list is of the shorter one, or the last
slice_get_more : (entries : List Entry) (e : Entry) (m : ℕ) (f : Entry) → slice_get (entries ++ e ∷ []) m ≡ Some f →
    (slice_get entries m ≡ Some f) ⊎ ((m ≡ length entries) × (e ≡ f))
slice_get_more [] e zero f is = inr (refl, cc)
slice_get_more [] e (suc m) f is = absurd (none is)
  where
    none : slice_get (let l : List Entry = [] in l) m ≡ Some f → ⊥
    none h = cc
slice_get_more (d ∷ entries) e zero f is = inl is
slice_get_more (d ∷ entries) e (suc m) f is = elim (slice_get_more entries e m f is) [
  | inl h ↦ inl h
  | inr h ↦ inr (omega (arith, h.0), h.1)
]

-- one more entry
pub one_entered : (old new : Tables) (entries : List Entry) (e : Entry) (n : ℕ) → n ≡ length entries → Grows old new → stands new n e ≡ true → AreEntered old entries →
    AreEntered new (entries ++ e ∷ [])
one_entered old new entries e n number g s h = λ m f is. elim (slice_get_more entries e m f is) [
  | inl at ↦ entry_stays old new g m f (h m f at)
  | inr last ↦ subst (λ (d : Entry). stands new m d ≡ true) last.1 (subst (λ k. stands new k e ≡ true) (number ∙ sym last.0) s)
]
