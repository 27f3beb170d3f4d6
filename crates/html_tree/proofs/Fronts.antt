-- What a token leaves of the open elements is a front of them.
use Rattle.std.proofs.Common.{◌≡◌, ℕ, zero, suc, ◌≤◌, ◌⊎◌, ⊎_elim, inl, inr, Bool, true, false, List, [], ◌∷◌, ◌++◌, length, take, drop, refl, arith, sym, ◌∙◌, Some}
use Rattle.std.proofs.lemmas.Bool.{cases_Bool, and_from, or_from}
use Rattle.std.proofs.lemmas.List.{take_all}
use Rattle.std.specs.List.{list_any, list_all, slice_get}
use Rattle.std.specs.Prelude.{filter}
use Rattle.std.specs.Str.{bytes_eq}
use Rattle.html_meaning.specs.Bytes.{is_among}
use Rattle.html_meaning.specs.Elements.{implied_ends}
use Rattle.html_meaning.specs.Page.{OpenElement, Role, Opens, Ends, Leaf, Nothing, left_by}
use Rattle.html_tree.specs.Rising.{Rises}
use Rattle.html_tree.proofs.Closing.{Below, start_leaves, start_leaves_none, end_leaves, end_leaves_all, filter_all}

-- all pass, or there is a last one that fails
pub find_fail : (t : OpenElement → Bool) (elements : List OpenElement)
    → (list_all t elements ≡ true) ⊎ ((k : ℕ) × (z : OpenElement) × (slice_get elements k ≡ Some z) × (t z ≡ false) × (list_all t (drop (suc k) elements) ≡ true))
find_fail t [] = inl refl
find_fail t (s ∷ elements) =
    ⊎_elim
    (λ all. ⊎_elim (λ yes_s. inl (and_from (t s) (list_all t elements) yes_s all)) (λ no_s. inr (0, s, refl, no_s, all)) (cases_Bool (t s)))
    (λ found. inr (suc found.0, found.1, found.2, found.3, found.4))
    (find_fail t elements)

-- none passes, or there is a last one that does
pub find_pass : (t : OpenElement → Bool) (elements : List OpenElement)
    → (list_any t elements ≡ false) ⊎ ((k : ℕ) × (z : OpenElement) × (slice_get elements k ≡ Some z) × (t z ≡ true) × (list_any t (drop (suc k) elements) ≡ false))
find_pass t [] = inl refl
find_pass t (s ∷ elements) =
    ⊎_elim
    (λ none. ⊎_elim (λ yes_s. inr (0, s, refl, yes_s, none)) (λ no_s. inl (or_from (t s) (list_any t elements) no_s none)) (cases_Bool (t s)))
    (λ found. inr (suc found.0, found.1, found.2, found.3, found.4))
    (find_pass t elements)

pub all_left : (elements : List OpenElement) → filter (λ o. true) elements ≡ elements
all_left elements = filter_all (λ o. true) elements (λ o. refl)

pub left_is_front : (role : Role) (elements : List OpenElement) → Rises 0 elements → (n : ℕ) × (left_by role elements ≡ take n elements)
left_is_front (Opens name holds) elements r =
    let t : OpenElement → Bool = λ k. is_among k.name (implied_ends name) in
    ⊎_elim (λ all. (0, start_leaves_none t elements r all)) (λ f. (suc f.0, start_leaves t elements f.0 f.1 r f.2 f.3 f.4)) (find_fail t elements)
left_is_front (Ends name) elements r =
    let t : OpenElement → Bool = λ k. bytes_eq k.name name in
    ⊎_elim (λ none. (length elements, end_leaves_all t elements none ∙ sym (take_all (length elements) elements (omega arith))))
    (λ f. (f.0, end_leaves t elements f.0 f.1 r f.2 f.3 f.4)) (find_pass t elements)
left_is_front Leaf elements r = (length elements, filter_all (λ o. true) elements (λ o. refl) ∙ sym (take_all (length elements) elements (omega arith)))
left_is_front Nothing elements r = (length elements, filter_all (λ o. true) elements (λ o. refl) ∙ sym (take_all (length elements) elements (omega arith)))

pub rises-take : (n low : ℕ) (elements : List OpenElement) → Rises low elements → Rises low (take n elements)
rises-take zero low elements r = tt
rises-take (suc n) low [] r = tt
rises-take (suc n) low (o ∷ elements) r = (r.0, rises-take n (suc o.number) elements r.1)

pub below-take : (n high : ℕ) (elements : List OpenElement) → Below high elements → Below high (take n elements)
below-take zero high elements b = tt
below-take (suc n) high [] b = tt
below-take (suc n) high (o ∷ elements) b = (b.0, below-take n high elements b.1)

pub rises-push : (low : ℕ) (elements : List OpenElement) (o : OpenElement) → Rises low elements → Below o.number elements → low ≤ o.number → Rises low (elements ++ o ∷ [])
rises-push low [] o r b h = (h, tt)
rises-push low (s ∷ elements) o r b h = (r.0, rises-push (suc s.number) elements o r.1 b.1 (omega (arith, b.0)))
