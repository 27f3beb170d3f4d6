-- One visit of an element, and the visits of several, one after the other.
use Rattle.std.proofs.Common.{◌≡◌, ℕ, Bool, true, false, ◌||◌, ◌&&◌, ◌==◌, ◌+◌, ◌≤◌, ◌<◌, not, cond, List, [], ◌∷◌, ◌++◌, append-nil, filter, take, length, get_or, nat_eq, refl, sym, ap, ◌∙◌, inl, inr}
use Rattle.std.specs.List.{sum_by, list_any, IsDistinct}
use Rattle.std.proofs.lemmas.Bool.{eqb-true, cases_Bool, and_parts, false≢true}
use Rattle.std.proofs.lemmas.List.{take_more}
use Rattle.std.proofs.lemmas.List.Elements.{filter-append}
use Rattle.std.proofs.lemmas.List.Folds.{list_any_more}
use Rattle.std.proofs.lemmas.List.Sums.{sum_by_push}
use Rattle.page_tree.specs.Directions.{is_in}
use Rattle.page_tree.proofs.Members.{is_in-filter}
use Rattle.retest_laws.specs.Pending.{due_at, budget}
use Rattle.retest_laws.proofs.Counts.{bounded}
use Rattle.generic_tables.proofs.Written.{contains-in}
use Rattle.retest.proofs.Sets.{distinct_take, distinct_filter}

here : (k p s o d : Bool) → (d ≡ true → (k && p) ≡ true) → ((p && s) ≡ true → d ≡ true) → cond d s (o && not (o && p)) ≡ cond p (k && s) o
here true true s o true within enough = refl
here true true true o false within enough = absurd (false≢true (enough refl))
here true true false true false within enough = refl
here true true false false false within enough = refl
here true false s o true within enough = absurd (false≢true (within refl))
here true false s true false within enough = refl
here true false s false false within enough = refl
here false p s o true within enough = absurd (false≢true (within refl))
here false true s true false within enough = refl
here false true s false false within enough = refl
here false false s true false within enough = refl
here false false s false false within enough = refl

-- one visit: what is stale goes, and what is due is asked; what is pending and isn't due has a no for its answer
pub visited : (x y : ℕ) (new cleared old says keyed pends : ℕ → Bool) (due stale : Bool) →
    new y ≡ cond (y == x && due) (says y) (cleared y) → cleared y ≡ (old y && not (y == x && stale)) →
    (due ≡ true → (keyed x && pends x) ≡ true) → ((pends x && says x) ≡ true → due ≡ true) → stale ≡ (old x && pends x) →
    new y ≡ cond (y == x && pends y) (keyed y && says y) (old y)
visited x y new cleared old says keyed pends due stale n c within enough s = elim (cases_Bool (y == x)) [
  | inl e ↦ n ∙ ap (λ b. cond (b && due) (says y) (cleared y)) e ∙ ap (λ b. cond due (says y) b) (c ∙ ap (λ b. old y && not (b && stale)) e)
      ∙ ap (λ b. cond due (says y) (old y && not b)) (s ∙ ap (λ z. old z && pends z) (sym (eqb-true y x e)))
      ∙ here (keyed y) (pends y) (says y) (old y) due (λ h. ap (λ z. keyed z && pends z) (eqb-true y x e) ∙ within h) (λ h. enough (ap (λ z. pends z && says z) (sym (eqb-true y x e)) ∙ h))
      ∙ sym (ap (λ b. cond (b && pends y) (keyed y && says y) (old y)) e)
  | inr e ↦ n ∙ ap (λ b. cond (b && due) (says y) (cleared y)) e ∙ c ∙ ap (λ b. old y && not (b && stale)) e ∙ and_true (old y)
      ∙ sym (ap (λ b. cond (b && pends y) (keyed y && says y) (old y)) e)
]
  where
    and_true : (b : Bool) → (b && true) ≡ b
    and_true true = refl
    and_true false = refl

-- the next element is visited
pub goes_on : (before turn elements pends c o now old : Bool) → (turn ≡ true → elements ≡ true) →
    now ≡ cond (turn && pends) c old → old ≡ cond (before && (elements && pends)) c o →
    now ≡ cond ((before || turn) && (elements && pends)) c o
goes_on true true true true c o now old f n h = n
goes_on true true true false c o now old f n h = n ∙ h
goes_on true false elements pends c o now old f n h = n ∙ h
goes_on false true true true c o now old f n h = n
goes_on false true true false c o now old f n h = n ∙ h
goes_on false false elements pends c o now old f n h = n ∙ h
goes_on true true false pends c o now old f n h = absurd (false≢true (f refl))
goes_on false true false pends c o now old f n h = absurd (false≢true (f refl))

-- or it is none, and stays as it is
pub passes : (before turn elements pends c o old : Bool) → (turn ≡ true → elements ≡ false) →
    old ≡ cond (before && (elements && pends)) c o → old ≡ cond ((before || turn) && (elements && pends)) c o
passes true true true pends c o old f h = absurd (false≢true (sym (f refl)))
passes true true false pends c o old f h = h
passes true false elements pends c o old f h = h
passes false true true pends c o old f h = absurd (false≢true (sym (f refl)))
passes false true false pends c o old f h = h
passes false false elements pends c o old f h = h

-- the visits of the first elements of a list without repeats ask no more than the budget
pub front_within : (n : ℕ) (elements : List ℕ) (carries pends : ℕ → ℕ → Bool) (visits : List ℕ) (i : ℕ) → IsDistinct nat_eq visits →
    sum_by (due_at n carries pends) (filter (is_in elements) (take i visits)) ≤ budget n elements carries pends
front_within n elements carries pends visits i once =
    bounded n elements (filter (is_in elements) (take i visits)) carries pends (distinct_filter (is_in elements) (take i visits) (distinct_take i visits once))
    (λ x h. (and_parts (is_in (take i visits) x) (is_in elements x) (sym (is_in-filter (is_in elements) (take i visits) x) ∙ h)).1)

-- the filters to ask, as the code finds them
pub due_members : (due slice : List ℕ) → slice ≡ due → (f : ℕ) → is_in slice f ≡ list_any (nat_eq f) due
due_members due slice s f = ap (λ l. is_in l f) s ∙ sym (contains-in due f)

-- each visited element is pending somewhere, or not: all that is pending is visited
pub all_visited : (i e p c o : Bool) → (p ≡ true → i ≡ true) → cond (i && (e && p)) c o ≡ cond (e && p) c o
all_visited true e p c o h = refl
all_visited false true true c o h = absurd (false≢true (h refl))
all_visited false true false c o h = refl
all_visited false false p c o h = refl

-- one more element of the page is visited
pub one_more : (g : ℕ → ℕ) (elements visits : List ℕ) (i : ℕ) → i < length visits → is_in elements (get_or visits i 0) ≡ true →
    sum_by g (filter (is_in elements) (take (i + 1) visits)) ≡ sum_by g (filter (is_in elements) (take i visits)) + g (get_or visits i 0)
one_more g elements visits i within there =
    let x = get_or visits i 0 in
    ap (λ l. sum_by g (filter (is_in elements) l)) (take_more visits i 0 within) ∙ ap (sum_by g) (filter-append (is_in elements) (take i visits) (x ∷ []))
    ∙ ap (λ b. sum_by g (filter (is_in elements) (take i visits) ++ cond b (x ∷ []) [])) there ∙ sum_by_push g (filter (is_in elements) (take i visits)) x

-- one more number is visited, which is no element
pub none_more : (g : ℕ → ℕ) (elements visits : List ℕ) (i : ℕ) → i < length visits → is_in elements (get_or visits i 0) ≡ false →
    sum_by g (filter (is_in elements) (take (i + 1) visits)) ≡ sum_by g (filter (is_in elements) (take i visits))
none_more g elements visits i within none =
    let x = get_or visits i 0 in
    ap (λ l. sum_by g (filter (is_in elements) l)) (take_more visits i 0 within) ∙ ap (sum_by g) (filter-append (is_in elements) (take i visits) (x ∷ []))
    ∙ ap (λ b. sum_by g (filter (is_in elements) (take i visits) ++ cond b (x ∷ []) [])) none ∙ ap (sum_by g) (append-nil (filter (is_in elements) (take i visits)))

-- whether y is among the first elements, one more of which is x
pub turn : (visits : List ℕ) (i y : ℕ) → i < length visits → is_in (take (i + 1) visits) y ≡ (is_in (take i visits) y || (get_or visits i 0 == y))
turn visits i y within = list_any_more (λ x. x == y) visits i 0 within
