-- Rising lists of numbers: what is put in at its place, or filtered.
use Rattle.std.proofs.Common.{◌≡◌, ℕ, zero, suc, Bool, true, false, ◌||◌, ◌==◌, ◌≤◌, ◌<◌, cond, List, [], ◌∷◌, filter, length, get_or, refl, sym, ap, ◌∙◌, subst, inl, inr, Ok, Err, nat_cmp, arith}
use Rattle.std.specs.Prelude.{if◌then◌else◌}
use Rattle.std.specs.List.{insert}
use Rattle.std.specs.List.Sorted.{IsBinarySearchResult}
use Rattle.std.proofs.lemmas.List.Sorted.{searched}
use Rattle.std.proofs.lemmas.List.Folds.{list_any_at}
use Rattle.std.proofs.lemmas.Bool.{eqb-true, eq-eqb}
use Rattle.std.proofs.lemmas.Bool.{cases_Bool}
use Rattle.page_tree.specs.Directions.{is_in}
use Rattle.kept_marks.specs.Rising.{IsAbove, IsRising}

above_filter : (p : ℕ → Bool) (x : ℕ) (xs : List ℕ) → IsAbove x xs → IsAbove x (filter p xs)
above_filter p x [] h = tt
above_filter p x (y ∷ ys) h = pick (p y) (above_filter p x ys h.1)
  where
    pick : (b : Bool) → IsAbove x (filter p ys) → IsAbove x (cond b (y ∷ filter p ys) (filter p ys))
    pick true rest = (h.0, rest)
    pick false rest = rest

pub filtered : (p : ℕ → Bool) (xs : List ℕ) → IsRising xs → IsRising (filter p xs)
filtered p [] h = tt
filtered p (x ∷ xs) h = pick (p x) (filtered p xs h.1)
  where
    pick : (b : Bool) → IsRising (filter p xs) → IsRising (cond b (x ∷ filter p xs) (filter p xs))
    pick true rest = (above_filter p x xs h.0, rest)
    pick false rest = rest

above_insert : (x y i : ℕ) (xs : List ℕ) → IsAbove x xs → x < y → IsAbove x (insert xs i y)
above_insert x y zero xs h l = (l, h)
above_insert x y (suc i) [] h l = (l, tt)
above_insert x y (suc i) (z ∷ zs) h l = (h.0, above_insert x y i zs h.1 l)

above_all : (y : ℕ) (xs : List ℕ) → ((k : ℕ) → k < length xs → y < get_or xs k 0) → IsAbove y xs
above_all y [] h = tt
above_all y (x ∷ xs) h = (h 0 (positive (length xs)), above_all y xs (λ k l. h (suc k) (raised k (length xs) l)))
  where
    positive : (n : ℕ) → 0 < suc n
    positive n = omega arith

    raised : (k n : ℕ) → k < n → suc k < suc n
    raised k n l = omega arith

pub put : (xs : List ℕ) (i y : ℕ) → IsRising xs → i ≤ length xs → ((k : ℕ) → k < i → get_or xs k 0 < y) →
    ((k : ℕ) → i ≤ k → k < length xs → y < get_or xs k 0) → IsRising (insert xs i y)
put xs zero y r w low high = (above_all y xs (λ k l. high k (least k) l), r)
  where
    least : (k : ℕ) → 0 ≤ k
    least k = omega arith
put [] (suc i) y r w low high = (tt, tt)
put (x ∷ xs) (suc i) y r w low high =
    (above_insert x y i xs r.0 (low 0 (positive i)), put xs i y r.1 (lowered i (length xs) w) (λ k l. low (suc k) (raised k i l)) (λ k l m. high (suc k) (raised_le i k l) (raised k (length xs) m)))
  where
    positive : (n : ℕ) → 0 < suc n
    positive n = omega arith

    raised : (k n : ℕ) → k < n → suc k < suc n
    raised k n l = omega arith

    raised_le : (k n : ℕ) → k ≤ n → suc k ≤ suc n
    raised_le k n l = omega arith

    lowered : (k n : ℕ) → suc k ≤ suc n → k ≤ n
    lowered k n l = omega arith

pub put_in : (xs : List ℕ) (i y g : ℕ) → i ≤ length xs → is_in (insert xs i y) g ≡ (is_in xs g || (y == g))
put_in xs zero y g w = or_comm (y == g) (is_in xs g)
  where
    or_comm : (a b : Bool) → (a || b) ≡ (b || a)
    or_comm true true = refl
    or_comm true false = refl
    or_comm false true = refl
    or_comm false false = refl
put_in [] (suc i) y g w = absurd (omega arith)
put_in (x ∷ xs) (suc i) y g w = ap (λ b. (x == g) || b) (put_in xs i y g (lowered i (length xs) w)) ∙ or_assoc (x == g) (is_in xs g) (y == g)
  where
    or_assoc : (a b c : Bool) → (a || (b || c)) ≡ ((a || b) || c)
    or_assoc true b c = refl
    or_assoc false b c = refl

    lowered : (k n : ℕ) → suc k ≤ suc n → k ≤ n
    lowered k n l = omega arith

above_at : (x : ℕ) (xs : List ℕ) (j : ℕ) → IsAbove x xs → j < length xs → x < get_or xs j 0
above_at x [] j h l = absurd (omega arith)
above_at x (y ∷ ys) zero h l = h.0
above_at x (y ∷ ys) (suc j) h l = above_at x ys j h.1 (lowered j (length ys) l)
  where
    lowered : (k n : ℕ) → suc k < suc n → k < n
    lowered k n l = omega arith

-- by places
pub by_places : (xs : List ℕ) → IsRising xs → (i j : ℕ) → i ≤ j → j < length xs → get_or xs i 0 ≤ get_or xs j 0
by_places [] r i j le l = absurd (omega arith)
by_places (x ∷ xs) r zero zero le l = same x
  where
    same : (n : ℕ) → n ≤ n
    same n = omega arith
by_places (x ∷ xs) r zero (suc j) le l = weaker x (get_or xs j 0) (above_at x xs j r.0 (lowered j (length xs) l))
  where
    weaker : (m n : ℕ) → m < n → m ≤ n
    weaker m n h = omega arith

    lowered : (k n : ℕ) → suc k < suc n → k < n
    lowered k n l = omega arith
by_places (x ∷ xs) r (suc i) zero le l = absurd (none i le)
  where
    none : (n : ℕ) → suc n ≤ 0 → ⊥
    none n h = omega arith
by_places (x ∷ xs) r (suc i) (suc j) le l = by_places xs r.1 i j (lowered_le i j le) (lowered j (length xs) l)
  where
    lowered_le : (k n : ℕ) → suc k ≤ suc n → k ≤ n
    lowered_le k n l = omega arith

    lowered : (k n : ℕ) → suc k < suc n → k < n
    lowered k n l = omega arith

-- what is put in where a search says, if there was memory
pub put_searched : (xs shown new : List ℕ) (place y : ℕ) (ok : Bool) → shown ≡ xs → new ≡ (if ok then insert xs place y else xs) → IsRising xs →
    IsBinarySearchResult (λ z. nat_cmp z y) shown (Err place) → IsRising new
put_searched xs shown new place y ok v e r p = subst IsRising (sym e) (either ok (subst (λ l. IsRising (insert l place y)) v (put shown place y rises s.0 s.1 s.2)))
  where
    rises : IsRising shown
    rises = subst IsRising (sym v) r

    s : (place ≤ length shown) × ((k : ℕ) → k < place → get_or shown k 0 < y) × ((k : ℕ) → place ≤ k → k < length shown → y < get_or shown k 0)
    s = searched shown y (Err place) p (by_places shown rises)

    either : (b : Bool) → IsRising (insert xs place y) → IsRising (if b then insert xs place y else xs)
    either true h = h
    either false h = r

-- what a search finds is there
pub found : (xs shown : List ℕ) (place y : ℕ) → shown ≡ xs → IsRising xs → IsBinarySearchResult (λ z. nat_cmp z y) shown (Ok place) → is_in xs y ≡ true
found xs shown place y v r p =
    let s : (place < length shown) × (get_or shown place 0 ≡ y) = searched shown y (Ok place) p (by_places shown (subst IsRising (sym v) r)) in
    ap (λ l. is_in l y) (sym v) ∙ list_any_at (λ z. z == y) shown place 0 s.0 (eq-eqb (get_or shown place 0) y s.1)

pub present : (xs : List ℕ) (f g : ℕ) → is_in xs f ≡ true → is_in xs g ≡ (is_in xs g || (g == f))
present xs f g h = elim (cases_Bool (g == f)) [
  | inl e ↦ (let i : is_in xs g ≡ true = ap (is_in xs) (eqb-true g f e) ∙ h in i ∙ sym (ap (λ b. b || (g == f)) i))
  | inr e ↦ sym (ap (λ b. is_in xs g || b) e ∙ or_false (is_in xs g))
]
  where
    or_false : (b : Bool) → (b || false) ≡ b
    or_false true = refl
    or_false false = refl

pub eq-turned : (a b : ℕ) → (a == b) ≡ (b == a)
eq-turned a b = elim (cases_Bool (a == b)) [
  | inl e ↦ e ∙ sym (eq-eqb b a (sym (eqb-true a b e)))
  | inr e ↦ elim (cases_Bool (b == a)) [
    | inl f ↦ let k : ⊥ = (let c : true ≡ false = sym (eq-eqb a b (sym (eqb-true b a f))) ∙ e in cc) in absurd k
    | inr f ↦ e ∙ sym f
  ]
]
