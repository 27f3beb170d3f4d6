-- Filters stand at the numbers of their keys, and are found there.
use Rattle.std.proofs.Common.{◌≡◌, ◌∙◌, ℕ, suc, zero, ◌+◌, ◌-◌, ◌<◌, ◌≤◌, Bool, true, false, ◌&&◌, ◌||◌, ◌==◌, List, [], ◌∷◌, map, length, take, drop, get_or, ltb, leb, leb-true, refl, sym, ap, ap₂, subst, inl, inr, arith}
use Rattle.std.specs.Prelude.{nat_lt}
use Rattle.std.specs.List.{list_any}
use Rattle.std.proofs.Math.Bool as bool
use Rattle.std.specs.List.Sorted.{IsPartitionPoint}
use Rattle.std.proofs.lemmas.Bool.{cases_Bool, eqb-true, eq-eqb, ltb-true, ltb-false, leb-false, or_left, or_right, false≢true}
use Rattle.std.proofs.lemmas.List.{get_or-drop, length-drop}
use Rattle.std.proofs.lemmas.Bool.Decides.{nat_tests}
use Rattle.std.proofs.lemmas.Slice.Eq.{bytes_eq-Decides}
use Rattle.selector_tree.specs.declared.filter.Filter.{Filter}
use Rattle.selector_tree.specs.declared.selector.Step.{Step}
use Rattle.page_tree.specs.Directions.{is_in}
use Rattle.generic_tables.specs.declared.keys.Key.{Key}
use Rattle.generic_tables.specs.declared.keys.Key.TheVariants as key
use Rattle.generic_tables.specs.declared.filters.Entry.{Entry}
use Rattle.generic_tables.specs.Keys.{key_of_chain}
use Rattle.generic_tables.specs.Carried.{same_key}
use Rattle.generic_tables.specs.FilterTables.{number_of, text_number, chains_at, has_key, has_number, stands_at, fits}

-- ---- making the entries
-- the chains of a filter that is there
pub chains_there : (filters : List Filter) (n : ℕ) (default : Filter) → n < length filters → chains_at filters n ≡ (get_or filters n default).selector
chains_there [] n default h = absurd (omega (arith, h))
chains_there (g ∷ gs) zero default h = refl
chains_there (g ∷ gs) (suc n) default h = chains_there gs n default (omega (arith, h))

-- the filters before n stand at the numbers of their keys, and nothing else does
abbrev pub AreEntered : List Filter → ℕ → List Entry → Type 0
AreEntered filters n entries = (m f : ℕ) → stands_at entries m f ≡ (nat_lt f n && has_number (chains_at filters f) m)

-- no filter
pub none_entered : (filters : List Filter) → AreEntered filters 0 []
none_entered filters m f = sym (ap (λ b. b && has_number (chains_at filters f) m) (none f))
  where
    none : (f : ℕ) → nat_lt f 0 ≡ false
    none f = grind (arith, nat_tests)

-- one more
pub one_entered : (filters : List Filter) (n : ℕ) (here : Filter) (old new : List Entry) → chains_at filters n ≡ here.selector → AreEntered filters n old →
    ((m g : ℕ) → stands_at new m g ≡ (stands_at old m g || (n == g && has_number here.selector m))) →
    AreEntered filters (n + 1) new
one_entered filters n here old new is before more m g = elim (cases_Bool (n == g)) [
  | inl e ↦
      more m g ∙ ap (λ b. b || (n == g && has_number here.selector m)) (before m g ∙ ap (λ b. b && has_number (chains_at filters g) m) (not_less e))
      ∙ ap (λ b. b && has_number here.selector m) e
      ∙ ap (λ (s : List (List Step)). has_number s m) (sym is ∙ ap (chains_at filters) (eqb-true n g e))
      ∙ sym (ap (λ b. b && has_number (chains_at filters g) m) (less e))
  | inr e ↦
      more m g ∙ ap (λ b. stands_at old m g || (b && has_number here.selector m)) e ∙ bool.or-false (stands_at old m g) ∙ before m g
      ∙ ap (λ b. b && has_number (chains_at filters g) m) (alike e)
]
  where
    not_less : (n == g) ≡ true → nat_lt g n ≡ false
    not_less e = grind (arith, nat_tests)

    less : (n == g) ≡ true → nat_lt g (n + 1) ≡ true
    less e = grind (arith, nat_tests)

    alike : (n == g) ≡ false → nat_lt g n ≡ nat_lt g (n + 1)
    alike e = grind (arith, nat_tests)

-- all of them
pub all_entered : (filters : List Filter) (entries : List Entry) → AreEntered filters (length filters) entries →
    (n f : ℕ) → stands_at entries n f ≡ has_number (chains_at filters f) n
all_entered filters entries h n f = h n f ∙ within filters f
  where
    past : (n f : ℕ) → nat_lt (suc f) (suc n) ≡ nat_lt f n
    past n f = grind (arith, nat_tests)

    first : (n : ℕ) → nat_lt 0 (suc n) ≡ true
    first n = grind (arith, nat_tests)

    within : (filters : List Filter) (f : ℕ) → (nat_lt f (length filters) && has_number (chains_at filters f) n) ≡ has_number (chains_at filters f) n
    within [] f = bool.and-false (nat_lt f 0)
    within (g ∷ gs) zero = ap (λ b. b && has_number g.selector n) (first (length gs))
    within (g ∷ gs) (suc f) = ap (λ b. b && has_number (chains_at gs f) n) (past (length gs) f) ∙ within gs f

-- ---- the run of a number
-- none stands before the first entry whose number isn't less
pub from_start : (n f : ℕ) (entries : List Entry) (start : ℕ) → start ≤ length entries →
    ((k : ℕ) (d : Entry) → k < start → (get_or entries k d).number < n) → stands_at (drop start entries) n f ≡ stands_at entries n f
from_start n f entries zero within h = refl
from_start n f [] (suc start) within h = refl
from_start n f (e ∷ es) (suc start) within h =
    from_start n f es start (omega (arith, within)) (λ k d l. h (suc k) d (omega (arith, l)))
    ∙ sym (ap (λ b. (b && e.filter == f) || stands_at es n f) (other (h 0 e (omega arith))))
  where
    other : e.number < n → (e.number == n) ≡ false
    other l = grind (arith, nat_tests)

-- none stands behind the last one whose number isn't greater
none_greater : (n f : ℕ) (entries : List Entry) → ((k : ℕ) (d : Entry) → k < length entries → n < (get_or entries k d).number) → stands_at entries n f ≡ false
none_greater n f [] h = refl
none_greater n f (e ∷ es) h =
    ap (λ b. (b && e.filter == f) || stands_at es n f) (other (h 0 e (omega arith))) ∙ none_greater n f es (λ k d l. h (suc k) d (omega (arith, l)))
  where
    other : n < e.number → (e.number == n) ≡ false
    other l = grind (arith, nat_tests)

pub in_run : (n f : ℕ) (entries : List Entry) (count : ℕ) → count ≤ length entries →
    ((k : ℕ) (d : Entry) → k < count → (get_or entries k d).number ≡ n) → ((k : ℕ) (d : Entry) → count ≤ k → k < length entries → n < (get_or entries k d).number) →
    is_in (map (λ (e : Entry). e.filter) (take count entries)) f ≡ stands_at entries n f
in_run n f entries zero within same more = sym (none_greater n f entries (λ k d l. more k d (omega arith) l))
in_run n f [] (suc count) within same more = refl
in_run n f (e ∷ es) (suc count) within same more =
    ap₂ (λ a b. (a && e.filter == f) || b) (sym (eq-eqb e.number n (same 0 e (omega arith))))
    (in_run n f es count (omega (arith, within)) (λ k d l. same (suc k) d (omega (arith, l))) (λ k d c l. more (suc k) d (omega (arith, c)) (omega (arith, l))))

-- the entries at a number, as two searches cut them out
pub at_run : (n : ℕ) (entries behind run : List Entry) (start count : ℕ) → start ≤ length entries → count ≤ length behind → behind ≡ drop start entries → run ≡ take count behind →
    IsPartitionPoint (λ (e : Entry). ltb e.number n ≡ true) (λ (e : Entry). ltb e.number n ≡ false) entries start →
    IsPartitionPoint (λ (e : Entry). leb e.number n ≡ true) (λ (e : Entry). leb e.number n ≡ false) behind count →
    (f : ℕ) → is_in (map (λ (e : Entry). e.filter) run) f ≡ stands_at entries n f
at_run n entries behind run start count s c b r first last f =
    ap (λ (es : List Entry). is_in (map (λ (e : Entry). e.filter) es) f) r
    ∙ in_run n f behind count c
    (λ k d l. equal (get_or behind k d).number n (leb-true _ _ (last.0 k d (omega arith) l)) (least k d (omega (arith, l, c))))
    (λ k d h l. leb-false _ _ (last.1 k d h l))
    ∙ ap (λ (es : List Entry). stands_at es n f) b
    ∙ from_start n f entries start s (λ k d l. ltb-true _ _ (first.0 k d (omega arith) l))
  where
    equal : (x y : ℕ) → x ≤ y → y ≤ x → x ≡ y
    equal x y h l = omega arith

    inside : (k len part : ℕ) → start ≤ len → part ≡ len - start → k < part → start + k < len
    inside k len part s p l = omega arith

    least : (k : ℕ) (d : Entry) → k < length behind → n ≤ (get_or behind k d).number
    least k d l =
        let place = ap (λ (es : List Entry). (get_or es k d).number) b ∙ ap (λ (e : Entry). e.number) (get_or-drop start entries k d) in
        let there = inside k (length entries) (length behind) s (ap (λ (es : List Entry). length es) b ∙ length-drop start entries) l in
        subst (λ m. n ≤ m) (sym place) (ltb-false _ _ (first.1 (start + k) d (omega arith) there))

-- ---- the filters of a key
-- some chain's key passes a test
pub chain_found : (test : Key → Bool) (selector : List (List Step)) (i : ℕ) (chain : List Step) → i < length selector → test (key_of_chain (get_or selector i chain)) ≡ true →
    list_any test (map key_of_chain selector) ≡ true
chain_found test [] i chain within h = absurd (omega (arith, within))
chain_found test (first ∷ selector) zero chain within h = or_left (test (key_of_chain first)) (list_any test (map key_of_chain selector)) h
chain_found test (first ∷ selector) (suc i) chain within h =
    or_right (test (key_of_chain first)) (list_any test (map key_of_chain selector)) (chain_found test selector i chain (omega (arith, within)) h)

zero_not : (m : ℕ) → (m + 1 == 0) ≡ false
zero_not m = grind (arith, nat_tests)

-- the number of nothing is no other key's
pub of_nothing : (keys : List Key) → list_any (λ k. number_of k == 0) keys ≡ list_any (same_key key.None) keys
of_nothing [] = refl
of_nothing (k ∷ keys) = ap₂ ◌||◌ (one k) (of_nothing keys)
  where
    one : (k : Key) → (number_of k == 0) ≡ same_key key.None k
    one (key.Class v) = zero_not _
    one (key.Id v) = zero_not _
    one (key.Name v) = zero_not _
    one key.None = refl

same_number : (j k : Key) → same_key j k ≡ true → (number_of k == number_of j) ≡ true
same_number (key.Class v) (key.Class w) h = eq-eqb _ _ (ap (text_number 1) (sym ((bytes_eq-Decides v w).0 h)))
same_number (key.Id v) (key.Id w) h = eq-eqb _ _ (ap (text_number 2) (sym ((bytes_eq-Decides v w).0 h)))
same_number (key.Name v) (key.Name w) h = eq-eqb _ _ (ap (text_number 3) (sym ((bytes_eq-Decides v w).0 h)))
same_number key.None key.None h = refl
same_number (key.Class v) (key.Id w) h = absurd (false≢true h)
same_number (key.Class v) (key.Name w) h = absurd (false≢true h)
same_number (key.Class v) key.None h = absurd (false≢true h)
same_number (key.Id v) (key.Class w) h = absurd (false≢true h)
same_number (key.Id v) (key.Name w) h = absurd (false≢true h)
same_number (key.Id v) key.None h = absurd (false≢true h)
same_number (key.Name v) (key.Class w) h = absurd (false≢true h)
same_number (key.Name v) (key.Id w) h = absurd (false≢true h)
same_number (key.Name v) key.None h = absurd (false≢true h)
same_number key.None (key.Class w) h = absurd (false≢true h)
same_number key.None (key.Id w) h = absurd (false≢true h)
same_number key.None (key.Name w) h = absurd (false≢true h)

-- a key among some has its number among theirs
of_key : (j : Key) (keys : List Key) → (list_any (λ k. number_of k == number_of j) keys && list_any (same_key j) keys) ≡ list_any (same_key j) keys
of_key j [] = refl
of_key j (k ∷ keys) = mixed (number_of k == number_of j) (same_key j k) (list_any (λ k. number_of k == number_of j) keys) (list_any (same_key j) keys) (same_number j k) (of_key j keys)
  where
    mixed : (a b c d : Bool) → (b ≡ true → a ≡ true) → (c && d) ≡ d → ((a || c) && (b || d)) ≡ (b || d)
    mixed true b c d f h = refl
    mixed false true c d f h = absurd (false≢true (f refl))
    mixed false false c d f h = h

pub found : (filters : List Filter) (k : Key) (f : ℕ) → (has_number (chains_at filters f) (number_of k) && fits filters k f) ≡ has_key filters k f
found filters (key.Class v) f = of_key (key.Class v) (map key_of_chain (chains_at filters f))
found filters (key.Id v) f = of_key (key.Id v) (map key_of_chain (chains_at filters f))
found filters (key.Name v) f = of_key (key.Name v) (map key_of_chain (chains_at filters f))
found filters key.None f = and_true (has_number (chains_at filters f) 0) ∙ of_nothing (map key_of_chain (chains_at filters f))
  where
    and_true : (b : Bool) → (b && true) ≡ b
    and_true true = refl
    and_true false = refl
