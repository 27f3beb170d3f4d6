-- What a tag leaves of the open elements: where their numbers rise, a front of the list.
use Rattle.std.proofs.Common.{◌≡◌, ℕ, zero, suc, ◌<◌, ◌≤◌, Bool, true, false, not, ◌&&◌, ◌||◌, List, [], ◌∷◌, ◌++◌, take, drop, refl, arith, ap, sym, ◌∙◌, subst, nat_lt, Some, take-append-drop}
use Rattle.std.proofs.lemmas.Bool.{lt-ltb, le-ltb, le-leb, lt-leb, and_from, and_left, and_right, or_left, or_right, or_from, or_parts, and_parts, not_from_false, not_from_true, not-true}
use Rattle.std.specs.Prelude.{filter}
use Rattle.std.specs.Bool.{nat_le}
use Rattle.std.specs.List.{list_any, list_all, slice_get}
use Rattle.html_meaning.specs.Page.{OpenElement}
use Rattle.html_tree.specs.Rising.{Rises}

-- the numbers of the elements are below n
abbrev pub Below : ℕ → List OpenElement → Type 0
Below n [] = Unit {0}
Below n (o ∷ elements) = (o.number < n) × Below n elements

pub Below-more : (m n : ℕ) (elements : List OpenElement) → m ≤ n → Below m elements → Below n elements
Below-more m n [] h b = tt
Below-more m n (o ∷ elements) h b = (omega (arith, b.0), Below-more m n elements h b.1)

pub Rises-less : (m n : ℕ) (elements : List OpenElement) → m ≤ n → Rises n elements → Rises m elements
Rises-less m n [] h r = tt
Rises-less m n (o ∷ elements) h r = (omega (arith, r.0), r.1)

-- the elements before a place, and those from it on, where numbers rise
pub rises_before : (low : ℕ) (elements : List OpenElement) (k : ℕ) (o : OpenElement) → Rises low elements → slice_get elements k ≡ Some o
    → (low ≤ o.number) × Below o.number (take k elements) × Rises o.number (drop k elements)
rises_before low [] k o r e = cc
rises_before low (s ∷ elements) zero o r e =
    let same : s ≡ o = cc in
    subst (λ x. (low ≤ x.number) × Unit {0} × Rises x.number (s ∷ elements)) same (r.0, tt, (omega arith, r.1))
rises_before low (s ∷ elements) (suc k) o r e =
    let rest = rises_before (suc s.number) elements k o r.1 e in
    (omega (arith, r.0, rest.0), (omega (arith, rest.0), rest.1), rest.2)

pub rises_from : (low : ℕ) (elements : List OpenElement) (k : ℕ) (o : OpenElement) → Rises low elements → slice_get elements k ≡ Some o
    → Below (suc o.number) (take (suc k) elements) × Rises (suc o.number) (drop (suc k) elements)
rises_from low [] k o r e = cc
rises_from low (s ∷ elements) zero o r e =
    let same : s ≡ o = cc in
    subst (λ x. ((s.number < suc x.number) × Unit {0}) × Rises (suc x.number) elements) same ((omega arith, tt), r.1)
rises_from low (s ∷ elements) (suc k) o r e =
    let here = rises_before (suc s.number) elements k o r.1 e in
    let rest = rises_from (suc s.number) elements k o r.1 e in
    ((omega (arith, here.0), rest.0), rest.1)

-- one that fails, one that passes
pub all_fails : (p : OpenElement → Bool) (elements : List OpenElement) (k : ℕ) (o : OpenElement) → slice_get elements k ≡ Some o → p o ≡ false → list_all p elements ≡ false
all_fails p [] k o e f = cc
all_fails p (s ∷ elements) zero o e f = let same : s ≡ o = cc in and_left (p s) (list_all p elements) (ap p same ∙ f)
all_fails p (s ∷ elements) (suc k) o e f = and_right (p s) (list_all p elements) (all_fails p elements k o e f)

pub any_passes : (p : OpenElement → Bool) (elements : List OpenElement) (k : ℕ) (o : OpenElement) → slice_get elements k ≡ Some o → p o ≡ true → list_any p elements ≡ true
any_passes p [] k o e f = cc
any_passes p (s ∷ elements) zero o e f = let same : s ≡ o = cc in or_left (p s) (list_any p elements) (ap p same ∙ f)
any_passes p (s ∷ elements) (suc k) o e f = or_right (p s) (list_any p elements) (any_passes p elements k o e f)

pub list_all-append : (p : OpenElement → Bool) (xs ys : List OpenElement) → list_all p xs ≡ true → list_all p ys ≡ true → list_all p (xs ++ ys) ≡ true
list_all-append p [] ys a b = b
list_all-append p (x ∷ xs) ys a b = let parts = and_parts (p x) (list_all p xs) a in and_from (p x) (list_all p (xs ++ ys)) parts.0 (list_all-append p xs ys parts.1 b)

-- what passes in front, and not behind, is the front
pub filter_front : (q : OpenElement → Bool) (front back : List OpenElement) → list_all q front ≡ true → list_all (λ o. not (q o)) back ≡ true → filter q (front ++ back) ≡ front
filter_front q [] [] a b = refl
filter_front q [] (o ∷ back) a b =
    let parts = and_parts (not (q o)) (list_all (λ o. not (q o)) back) b in
    rw (not-true (q o) parts.0) (filter_front q [] back a parts.1)
filter_front q (o ∷ front) back a b =
    let parts = and_parts (q o) (list_all q front) a in
    rw parts.0 (ap (λ rest. o ∷ rest) (filter_front q front back parts.1 b))

pub filter_all : (q : OpenElement → Bool) (elements : List OpenElement) → ((o : OpenElement) → q o ≡ true) → filter q elements ≡ elements
filter_all q [] a = refl
filter_all q (o ∷ elements) a = rw (a o) (ap (λ rest. o ∷ rest) (filter_all q elements a))

-- a Start tag asks of a start whether it and all later ones have names of the row
abbrev pub asks_start : (OpenElement → Bool) → List OpenElement → OpenElement → Bool
asks_start t elements o = list_all (λ k. nat_lt k.number o.number || t k) elements

pub start_stays : (t : OpenElement → Bool) (elements front : List OpenElement) (k : ℕ) (z : OpenElement) → slice_get elements k ≡ Some z → t z ≡ false → Below (suc z.number) front
    → list_all (λ o. not (asks_start t elements o)) front ≡ true
start_stays t elements [] k z e f b = refl
start_stays t elements (o ∷ front) k z e f b =
    let fails : asks_start t elements o ≡ false = all_fails (λ k. nat_lt k.number o.number || t k) elements k z e (or_from (nat_lt z.number o.number) (t z) (le-ltb z.number o.number (omega (arith, b.0))) f) in
    and_from (not (asks_start t elements o)) _ (not_from_false _ fails) (start_stays t elements front k z e f b.1)

pub passes_before : (t : OpenElement → Bool) (n : ℕ) (front : List OpenElement) → Below n front → list_all (λ k. nat_lt k.number n || t k) front ≡ true
passes_before t n [] b = refl
passes_before t n (o ∷ front) b = and_from _ _ (or_left (nat_lt o.number n) (t o) (lt-ltb o.number n b.0)) (passes_before t n front b.1)

pub passes_named : (t : OpenElement → Bool) (n : ℕ) (back : List OpenElement) → list_all t back ≡ true → list_all (λ k. nat_lt k.number n || t k) back ≡ true
passes_named t n [] a = refl
passes_named t n (o ∷ back) a = let parts = and_parts (t o) (list_all t back) a in and_from _ _ (or_right (nat_lt o.number n) (t o) parts.0) (passes_named t n back parts.1)

pub start_goes : (t : OpenElement → Bool) (front back part : List OpenElement) (low : ℕ) → Below low front → list_all t back ≡ true → Rises low part
    → list_all (λ o. not (not (asks_start t (front ++ back) o))) part ≡ true
start_goes t front back [] low b a r = refl
start_goes t front back (o ∷ part) low b a r =
    let yes_o : asks_start t (front ++ back) o ≡ true =
    list_all-append (λ k. nat_lt k.number o.number || t k) front back (passes_before t o.number front (Below-more low o.number front r.0 b)) (passes_named t o.number back a) in
    and_from _ _ (not_from_false _ (not_from_true _ yes_o)) (start_goes t front back part low b a (Rises-less low (suc o.number) part (omega (arith, r.0)) r.1))

-- what is left before a place: all from it on have names of the row, and the one before it, if there is one, has not
pub start_leaves : (t : OpenElement → Bool) (elements : List OpenElement) (k : ℕ) (z : OpenElement) → Rises 0 elements → slice_get elements k ≡ Some z → t z ≡ false → list_all t (drop (suc k) elements) ≡ true
    → filter (λ o. not (asks_start t elements o)) elements ≡ take (suc k) elements
start_leaves t elements k z r e f a =
    let front = take (suc k) elements in
    let back = drop (suc k) elements in
    let cut : front ++ back ≡ elements = take-append-drop (suc k) elements in
    let parts = rises_from 0 elements k z r e in
    subst (λ xs. filter (λ o. not (asks_start t elements o)) xs ≡ front) cut
    (filter_front (λ o. not (asks_start t elements o)) front back (start_stays t elements front k z e f parts.0)
    (subst (λ xs. list_all (λ o. not (not (asks_start t xs o))) back ≡ true) cut (start_goes t front back back (suc z.number) parts.0 a parts.1)))

pub start_leaves_none : (t : OpenElement → Bool) (elements : List OpenElement) → Rises 0 elements → list_all t elements ≡ true → filter (λ o. not (asks_start t elements o)) elements ≡ []
start_leaves_none t elements r a = filter_front (λ o. not (asks_start t elements o)) [] elements refl (start_goes t [] elements elements 0 tt a r)

-- an End tag asks of a start whether the last one of its name isn't behind it
abbrev pub asks_end : (OpenElement → Bool) → List OpenElement → OpenElement → Bool
asks_end t elements o = list_any t elements && list_all (λ k. not (t k) || nat_le k.number o.number) elements

pub end_stays : (t : OpenElement → Bool) (elements front : List OpenElement) (k : ℕ) (z : OpenElement) → slice_get elements k ≡ Some z → t z ≡ true → Below z.number front
    → list_all (λ o. not (asks_end t elements o)) front ≡ true
end_stays t elements [] k z e f b = refl
end_stays t elements (o ∷ front) k z e f b =
    let fails = all_fails (λ k. not (t k) || nat_le k.number o.number) elements k z e (or_from (not (t z)) (nat_le z.number o.number) (not_from_true _ f) (lt-leb z.number o.number b.0)) in
    and_from (not (asks_end t elements o)) _ (not_from_false _ (and_right (list_any t elements) _ fails)) (end_stays t elements front k z e f b.1)

pub ends_at : (t : OpenElement → Bool) (n : ℕ) (front : List OpenElement) → Below (suc n) front → list_all (λ k. not (t k) || nat_le k.number n) front ≡ true
ends_at t n [] b = refl
ends_at t n (o ∷ front) b = and_from _ _ (or_right (not (t o)) (nat_le o.number n) (le-leb o.number n (omega (arith, b.0)))) (ends_at t n front b.1)

pub ends_others : (t : OpenElement → Bool) (n : ℕ) (back : List OpenElement) → list_any t back ≡ false → list_all (λ k. not (t k) || nat_le k.number n) back ≡ true
ends_others t n [] a = refl
ends_others t n (o ∷ back) a = let parts = or_parts (t o) (list_any t back) a in and_from _ _ (or_left (not (t o)) (nat_le o.number n) (not_from_false _ parts.0)) (ends_others t n back parts.1)

pub end_goes : (t : OpenElement → Bool) (elements front back part : List OpenElement) (low : ℕ) → elements ≡ front ++ back → list_any t elements ≡ true → Below (suc low) front → list_any t back ≡ false → Rises low part
    → list_all (λ o. not (not (asks_end t elements o))) part ≡ true
end_goes t elements front back [] low c y b a r = refl
end_goes t elements front back (o ∷ part) low c y b a r =
    let all = list_all-append (λ k. not (t k) || nat_le k.number o.number) front back
    (ends_at t o.number front (Below-more (suc low) (suc o.number) front (omega (arith, r.0)) b)) (ends_others t o.number back a) in
    let yes_o : asks_end t elements o ≡ true = and_from (list_any t elements) _ y (subst (λ xs. list_all (λ k. not (t k) || nat_le k.number o.number) xs ≡ true) (sym c) all) in
    and_from _ _ (not_from_false _ (not_from_true _ yes_o)) (end_goes t elements front back part low c y b a (Rises-less low (suc o.number) part (omega (arith, r.0)) r.1))

pub end_leaves : (t : OpenElement → Bool) (elements : List OpenElement) (k : ℕ) (z : OpenElement) → Rises 0 elements → slice_get elements k ≡ Some z → t z ≡ true → list_any t (drop (suc k) elements) ≡ false
    → filter (λ o. not (asks_end t elements o)) elements ≡ take k elements
end_leaves t elements k z r e f a =
    let before = rises_before 0 elements k z r e in
    let from = rises_from 0 elements k z r e in
    subst (λ xs. filter (λ o. not (asks_end t elements o)) xs ≡ take k elements) (take-append-drop k elements)
    (filter_front (λ o. not (asks_end t elements o)) (take k elements) (drop k elements) (end_stays t elements (take k elements) k z e f before.1)
    (end_goes t elements (take (suc k) elements) (drop (suc k) elements) (drop k elements) z.number (sym (take-append-drop (suc k) elements)) (any_passes t elements k z e f) from.0 a before.2))

pub end_leaves_all : (t : OpenElement → Bool) (elements : List OpenElement) → list_any t elements ≡ false → filter (λ o. not (asks_end t elements o)) elements ≡ elements
end_leaves_all t elements a = filter_all (λ o. not (asks_end t elements o)) elements (λ o. not_from_false _ (and_left (list_any t elements) _ a))

-- one more, from the end on
pub all_more : {X : Type 0} (t : X → Bool) (xs : List X) (k : ℕ) (x : X) → slice_get xs k ≡ Some x → t x ≡ true → list_all t (drop (suc k) xs) ≡ true → list_all t (drop k xs) ≡ true
all_more t [] k x e f a = cc
all_more t (y ∷ xs) zero x e f a = let same : y ≡ x = cc in and_from (t y) (list_all t xs) (ap t same ∙ f) a
all_more t (y ∷ xs) (suc k) x e f a = all_more t xs k x e f a

pub none_more : {X : Type 0} (t : X → Bool) (xs : List X) (k : ℕ) (x : X) → slice_get xs k ≡ Some x → t x ≡ false → list_any t (drop (suc k) xs) ≡ false → list_any t (drop k xs) ≡ false
none_more t [] k x e f a = cc
none_more t (y ∷ xs) zero x e f a = let same : y ≡ x = cc in or_from (t y) (list_any t xs) (ap t same ∙ f) a
none_more t (y ∷ xs) (suc k) x e f a = none_more t xs k x e f a
