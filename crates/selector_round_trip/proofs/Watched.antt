-- Names between commas: their canonical text is read as they are.
use Rattle.std.proofs.Common.{◌≡◌, ℕ, ◌<◌, Bool, true, false, not, eqb, leb, ◌&&◌, ◌||◌, List, [], ◌∷◌, ◌++◌, Option, Some, None, if◌then◌else◌, refl, sym, ap, subst, ◌∙◌, append-nil, arith, inl, inr}
use Rattle.std.specs.Prelude.{option_and_then}
use Rattle.std.specs.List.{list_all, slice_split, onto_first}
use Rattle.std.specs.Char.{is_ascii_alphanumeric, to_ascii_lowercase}
use Rattle.std.specs.Str.{str_to_ascii_lowercase}
use Rattle.std.proofs.lemmas.Bool.{cases_Bool, cases_lt, or_from, ne_eqb, not-true, both_ways, and_parts, and_from, lt-leb}
use Rattle.std.proofs.Math.Bool.{and-false}
use Rattle.cos_source.specs.Spaces.{is_space, without_first_spaces, without_last_spaces, trimmed}
use Rattle.selector_tree.specs.Canonical.{behind_comma, joined}
use Rattle.selector_spelling.specs.Bytes.{Bytes, is_empty, is_blank}
use Rattle.selector_spelling.specs.declared.open.Open.TheVariants.{Raw}
use Rattle.selector_spelling.specs.Arguments.{is_watched_byte, watched_name, watched_names, is_comma, watched}
use Rattle.selector_round_trip.proofs.Scanned.{IsKept, IsKept-nil, IsKept-append}
use Rattle.selector_round_trip.proofs.Classes.{apart, implied}
use Rattle.selector_round_trip.proofs.Names.{lower_lower}
use Rattle.selector_round_trip.proofs.NameScans.{calm_raw}
use Rattle.selector_round_trip.proofs.Numbers.{is_solid, solid_kept, then_some, some_cond}

-- a name as it is read
pub record IsWatched (name : Bytes) : Type 0 where
  pub some : is_empty name ≡ false
  pub bytes : list_all is_watched_byte name ≡ true
  pub lower : str_to_ascii_lowercase name ≡ name

abbrev pub AreWatched : List Bytes → Type 0
AreWatched [] = Unit {0}
AreWatched (name ∷ names) = IsWatched name × AreWatched names

-- ---- what is read

watched_low : (b : ℕ) → is_watched_byte b ≡ true → b < 128
watched_low b h =
    elim (cases_lt b 128) [
      | inl low ↦ low
      | inr high ↦ absurd (
          let a : is_ascii_alphanumeric b ≡ false = rw (lt-leb b 57 (omega arith), lt-leb b 90 (omega arith), lt-leb b 122 (omega arith), and-false (leb 48 b), and-false (leb 65 b), and-false (leb 97 b)) refl in
          both_ways (is_watched_byte b)
          (or_from (is_ascii_alphanumeric b || eqb b 45 || eqb b 95 || eqb b 58) (eqb b 46)
          (or_from (is_ascii_alphanumeric b || eqb b 45 || eqb b 95) (eqb b 58)
          (or_from (is_ascii_alphanumeric b || eqb b 45) (eqb b 95)
          (or_from (is_ascii_alphanumeric b) (eqb b 45) a (ne_eqb b 45 (λ e. omega arith))) (ne_eqb b 95 (λ e. omega arith))) (ne_eqb b 58 (λ e. omega arith))) (ne_eqb b 46 (λ e. omega arith))) h)
    ]

lower_bytes : (text : Bytes) → list_all is_watched_byte text ≡ true → list_all is_watched_byte (str_to_ascii_lowercase text) ≡ true
lower_bytes [] h = refl
lower_bytes (b ∷ text) h =
    let p = and_parts (is_watched_byte b) (list_all is_watched_byte text) h in
    and_from (is_watched_byte (to_ascii_lowercase b)) (list_all is_watched_byte (str_to_ascii_lowercase text))
    (implied is_watched_byte (λ k. is_watched_byte (to_ascii_lowercase k)) b refl (watched_low b p.0) p.0) (lower_bytes text p.1)

lower_empty : (text : Bytes) → is_empty (str_to_ascii_lowercase text) ≡ is_empty text
lower_empty [] = refl
lower_empty (b ∷ text) = refl

name_read : (text name : Bytes) → watched_name text ≡ Some name → IsWatched name
name_read text name h =
    let p = some_cond (not (is_empty text) && list_all is_watched_byte text) (str_to_ascii_lowercase text) name h in
    let q = and_parts (not (is_empty text)) (list_all is_watched_byte text) p.0 in
    subst IsWatched p.1 (record { some = lower_empty text ∙ not-true (is_empty text) q.0; bytes = lower_bytes text q.1; lower = lower_lower text })

names_read : (texts names : List Bytes) → watched_names texts ≡ Some names → AreWatched names
names_read [] names h = (let e : [] ≡ names = cc in subst AreWatched e tt)
names_read (text ∷ texts) names h =
    let t = then_some (watched_name (trimmed text)) _ names h in
    let u = then_some (watched_names texts) _ names t.gives in
    let e : t.value ∷ u.value ≡ names = (let g = u.gives in cc) in
    subst AreWatched e (name_read (trimmed text) t.value t.is, names_read texts u.value u.is)

pub watched_read : (text : Bytes) (names : List Bytes) → watched text ≡ Some names → AreWatched names
watched_read text names h =
    elim (cases_Bool (is_blank text)) [
      | inl blank ↦ (
          let k : ◌≡◌ {A = Option (List Bytes)} (Some []) (Some names) = sym (ap (λ (c : Bool). if c then Some [] else watched_names (slice_split is_comma text)) blank) ∙ h in
          let e : [] ≡ names = cc in subst AreWatched e tt)
      | inr other ↦ names_read (slice_split is_comma text) names (sym (ap (λ (c : Bool). if c then Some [] else watched_names (slice_split is_comma text)) other) ∙ h)
    ]

-- ---- again

solid_byte : (b : ℕ) → is_watched_byte b ≡ true → is_space b ≡ false
solid_byte b h = let d = apart is_watched_byte b in rw (d 32 h refl, d 9 h refl, d 12 h refl, d 13 h refl) refl

solid_name : (text : Bytes) → list_all is_watched_byte text ≡ true → is_empty text ≡ false → is_solid text ≡ true
solid_name [] h some = absurd (both_ways true some refl)
solid_name (b ∷ []) h some = ap not (solid_byte b (and_parts (is_watched_byte b) true h).0)
solid_name (b ∷ c ∷ text) h some = solid_name (c ∷ text) (and_parts (is_watched_byte b) (list_all is_watched_byte (c ∷ text)) h).1 refl

first_kept : (text rest : Bytes) → list_all is_watched_byte text ≡ true → is_empty text ≡ false → without_first_spaces (text ++ rest) ≡ text ++ rest
first_kept [] rest h some = absurd (both_ways true some refl)
first_kept (b ∷ text) rest h some = ap (λ (c : Bool). if c then without_first_spaces (text ++ rest) else b ∷ (text ++ rest)) (solid_byte b (and_parts (is_watched_byte b) (list_all is_watched_byte text) h).0)

trimmed_name : (text : Bytes) → IsWatched text → trimmed text ≡ text
trimmed_name text h =
    ap without_last_spaces (ap without_first_spaces (sym (append-nil text)) ∙ first_kept text [] h.bytes h.some ∙ append-nil text) ∙ solid_kept text (solid_name text h.bytes h.some)

name_again : (text : Bytes) → IsWatched text → watched_name text ≡ Some text
name_again text h =
    ap (λ (c : Bool). if c then Some (str_to_ascii_lowercase text) else None) (and_from (not (is_empty text)) (list_all is_watched_byte text) (ap not h.some) h.bytes) ∙ ap (λ (t : Bytes). Some t) h.lower

-- the first part is one name, with white space before it or not
split-name : (text rest : Bytes) → list_all is_watched_byte text ≡ true → slice_split is_comma (text ++ 44 ∷ rest) ≡ text ∷ slice_split is_comma rest
split-name [] rest h = refl
split-name (b ∷ text) rest h =
    let p = and_parts (is_watched_byte b) (list_all is_watched_byte text) h in
    ap (λ (c : Bool). if c then [] ∷ slice_split is_comma (text ++ 44 ∷ rest) else onto_first b (slice_split is_comma (text ++ 44 ∷ rest))) (apart is_watched_byte b 44 p.0 refl)
    ∙ ap (onto_first b) (split-name text rest p.1)

split-last : (text : Bytes) → list_all is_watched_byte text ≡ true → slice_split is_comma text ≡ text ∷ []
split-last [] h = refl
split-last (b ∷ text) h =
    let p = and_parts (is_watched_byte b) (list_all is_watched_byte text) h in
    ap (λ (c : Bool). if c then [] ∷ slice_split is_comma text else onto_first b (slice_split is_comma text)) (apart is_watched_byte b 44 p.0 refl)
    ∙ ap (onto_first b) (split-last text p.1)

-- white space before a first part changes nothing
space_onto : (b : ℕ) (texts : List Bytes) → watched_names (onto_first 32 (onto_first b texts)) ≡ watched_names (onto_first b texts)
space_onto b [] = refl
space_onto b (text ∷ texts) = refl

space_cond : (c : Bool) (b : ℕ) (texts : List Bytes) → watched_names (onto_first 32 (if c then [] ∷ texts else onto_first b texts)) ≡ watched_names (if c then [] ∷ texts else onto_first b texts)
space_cond true b texts = refl
space_cond false b texts = space_onto b texts

space_first : (text : Bytes) → watched_names (onto_first 32 (slice_split is_comma text)) ≡ watched_names (slice_split is_comma text)
space_first [] = refl
space_first (b ∷ text) = space_cond (is_comma b) b (slice_split is_comma text)

some_front : (a b : Bytes) → is_empty a ≡ false → is_empty (a ++ b) ≡ false
some_front [] b h = absurd (both_ways true h refl)
some_front (c ∷ a) b h = refl

-- further names, each behind a comma and white space
more_again : (text : Bytes) (names : List Bytes) → IsWatched text → AreWatched names → watched_names (slice_split is_comma (text ++ behind_comma names)) ≡ Some (text ∷ names)
more_again text [] h g =
    let w : watched_name (trimmed text) ≡ Some text = ap watched_name (trimmed_name text h) ∙ name_again text h in
    ap (λ (t : Bytes). watched_names (slice_split is_comma t)) (append-nil text) ∙ ap watched_names (split-last text h.bytes)
    ∙ ap (λ (o : Option Bytes). option_and_then (λ (first : Bytes). Some (first ∷ [])) o) w
more_again text (name ∷ names) h g =
    let w : watched_name (trimmed text) ≡ Some text = ap watched_name (trimmed_name text h) ∙ name_again text h in
    let spaced : watched_names (slice_split is_comma (32 ∷ (name ++ behind_comma names))) ≡ watched_names (slice_split is_comma (name ++ behind_comma names)) = space_first (name ++ behind_comma names) in
    ap watched_names (split-name text (32 ∷ (name ++ behind_comma names)) h.bytes)
    ∙ ap (λ (o : Option Bytes). option_and_then (λ (first : Bytes). option_and_then (λ (others : List Bytes). Some (first ∷ others)) (watched_names (slice_split is_comma (32 ∷ (name ++ behind_comma names))))) o) w
    ∙ ap (λ (o : Option (List Bytes)). option_and_then (λ (others : List Bytes). Some (text ∷ others)) o) (spaced ∙ more_again name names g.0 g.1)

pub watched_again : (names : List Bytes) → AreWatched names → watched (joined names) ≡ Some names
watched_again [] h = refl
watched_again (name ∷ names) h =
    let text = name ++ behind_comma names in
    let e : is_blank text ≡ false = ap is_empty (first_kept name (behind_comma names) h.0.bytes h.0.some) ∙ some_front name (behind_comma names) h.0.some in
    ap (λ (c : Bool). if c then Some [] else watched_names (slice_split is_comma text)) e ∙ more_again name names h.0 h.1

-- ---- the scan

raw_name : (text rest : Bytes) → list_all is_watched_byte text ≡ true → IsKept (Raw ∷ []) text rest
raw_name [] rest h = IsKept-nil (Raw ∷ []) rest
raw_name (b ∷ text) rest h =
    let p = and_parts (is_watched_byte b) (list_all is_watched_byte text) h in
    let d = apart is_watched_byte b in
    IsKept-append (Raw ∷ []) (b ∷ []) text rest (calm_raw b (text ++ rest) (d 92 p.0 refl) (d 40 p.0 refl) (d 41 p.0 refl)) (raw_name text rest p.1)

raw_names : (names : List Bytes) (rest : Bytes) → AreWatched names → IsKept (Raw ∷ []) (behind_comma names) rest
raw_names [] rest h = IsKept-nil (Raw ∷ []) rest
raw_names (name ∷ names) rest h =
    IsKept-append (Raw ∷ []) (44 ∷ []) (32 ∷ (name ++ behind_comma names)) rest (calm_raw 44 ((32 ∷ (name ++ behind_comma names)) ++ rest) refl refl refl)
    (IsKept-append (Raw ∷ []) (32 ∷ []) (name ++ behind_comma names) rest (calm_raw 32 ((name ++ behind_comma names) ++ rest) refl refl refl)
    (IsKept-append (Raw ∷ []) name (behind_comma names) rest (raw_name name (behind_comma names ++ rest) h.0.bytes) (raw_names names rest h.1)))

pub watched_raw : (names : List Bytes) (rest : Bytes) → AreWatched names → IsKept (Raw ∷ []) (joined names) rest
watched_raw [] rest h = IsKept-nil (Raw ∷ []) rest
watched_raw (name ∷ names) rest h = IsKept-append (Raw ∷ []) name (behind_comma names) rest (raw_name name (behind_comma names ++ rest) h.0.bytes) (raw_names names rest h.1)
