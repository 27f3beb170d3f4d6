-- Members of lists that pass a test.
use Rattle.std.proofs.Common.{◌≡◌, ℕ, Bool, true, false, ◌&&◌, ◌||◌, ◌==◌, not, ◌⊎◌, inl, inr, List, [], ◌∷◌, ◌++◌, filter, refl, sym, ap, ap₂, ◌∙◌}
use Rattle.std.proofs.lemmas.Bool.{eqb-true, eq-eqb}
use Rattle.std.proofs.lemmas.Map.Views.{any-filter_same}
use Rattle.std.specs.List.{list_any}
use Rattle.page_tree.specs.Directions.{is_in}
use Rattle.selector_meaning.specs.Texts.{is_empty}

pub never_true : {A : Type 0} → false ≡ true → A
never_true h = absurd (let e : ⊥ = cc in e)

pub same_by_iff : (a b : Bool) → (a ≡ true → b ≡ true) → (b ≡ true → a ≡ true) → a ≡ b
same_by_iff true b f g = sym (f refl)
same_by_iff false true f g = g refl
same_by_iff false false f g = refl

pub and-true : (a b : Bool) → a ≡ true → b ≡ true → (a && b) ≡ true
and-true a b p q = ap₂ ◌&&◌ p q

pub and_parts : (a b : Bool) → (a && b) ≡ true → (a ≡ true) × (b ≡ true)
and_parts true b h = (refl, h)
and_parts false b h = never_true h

pub or_parts : (a b : Bool) → (a || b) ≡ true → (a ≡ true) ⊎ (b ≡ true)
or_parts true b h = inl refl
or_parts false b h = inr h

pub or_none : (a b : Bool) → (a || b) ≡ false → (a ≡ false) × (b ≡ false)
or_none true b h = never_true (sym h)
or_none false b h = (refl, h)

pub or-left : (a b : Bool) → a ≡ true → (a || b) ≡ true
or-left a b h = ap (λ c. c || b) h

pub or-right : (a b : Bool) → b ≡ true → (a || b) ≡ true
or-right true b h = refl
or-right false b h = h

pub here : (x : ℕ) (xs : List ℕ) → is_in (x ∷ xs) x ≡ true
here x xs = or-left (x == x) (is_in xs x) (eq-eqb x x refl)

pub any-made : (p : ℕ → Bool) (xs : List ℕ) (z : ℕ) → is_in xs z ≡ true → p z ≡ true → list_any p xs ≡ true
any-made p [] z h q = never_true h
any-made p (x ∷ xs) z h q = elim (or_parts (x == z) (is_in xs z) h) [
  | inl e ↦ or-left (p x) (list_any p xs) (ap p (eqb-true x z e) ∙ q)
  | inr e ↦ or-right (p x) (list_any p xs) (any-made p xs z e q)
]

pub any-found : (p : ℕ → Bool) (xs : List ℕ) → list_any p xs ≡ true → (z : ℕ) × (is_in xs z ≡ true) × (p z ≡ true)
any-found p [] h = never_true h
any-found p (x ∷ xs) h = elim (or_parts (p x) (list_any p xs) h) [
  | inl e ↦ (x, here x xs, e)
  | inr e ↦ (let r = any-found p xs e in (r.0, or-right (x == r.0) (is_in xs r.0) r.1, r.2))
]

pub is_in-filter : (p : ℕ → Bool) (x : ℕ) (xs : List ℕ) → is_in (filter p xs) x ≡ (p x && is_in xs x)
is_in-filter p x xs = any-filter_same (λ y. y == x) p (p x) (λ k h. ap p (eqb-true k x h)) xs

pub filled : (xs : List ℕ) → not (is_empty xs) ≡ list_any (λ z. true) xs
filled [] = refl
filled (x ∷ xs) = refl

pub any-append : {A : Type 0} (p : A → Bool) (xs ys : List A) → list_any p (xs ++ ys) ≡ (list_any p xs || list_any p ys)
any-append p [] ys = refl
any-append p (x ∷ xs) ys = ap (λ b. p x || b) (any-append p xs ys) ∙ or_assoc (p x) (list_any p xs) (list_any p ys)
  where
    or_assoc : (a b c : Bool) → (a || (b || c)) ≡ ((a || b) || c)
    or_assoc true b c = refl
    or_assoc false b c = refl

-- the two are equal where the first matters
pub and-same : (a b c : Bool) → (a ≡ true → b ≡ c) → (a && b) ≡ (a && c)
and-same true b c f = f refl
and-same false b c f = refl

pub and-swap : (a b : Bool) → (a && b) ≡ (b && a)
and-swap true true = refl
and-swap true false = refl
and-swap false true = refl
and-swap false false = refl

pub no : (a : Bool) → (a ≡ true → ⊥) → a ≡ false
no true f = absurd (f refl)
no false f = refl

pub both : (a : Bool) → a ≡ true → a ≡ false → ⊥
both a p q = let e : ⊥ = cc in e

-- a test of members is the same of two lists where each member of either that passes is one of the other and passes
pub any-same : (p q : ℕ → Bool) (xs ys : List ℕ) → ((z : ℕ) → (p z && is_in xs z) ≡ (q z && is_in ys z)) → list_any p xs ≡ list_any q ys
any-same p q xs ys f = same_by_iff _ _
    (λ h. let r = any-found p xs h in
    let g = and_parts (q r.0) (is_in ys r.0) (sym (f r.0) ∙ and-true (p r.0) (is_in xs r.0) r.2 r.1) in any-made q ys r.0 g.1 g.0)
    (λ h. let r = any-found q ys h in
    let g = and_parts (p r.0) (is_in xs r.0) (f r.0 ∙ and-true (q r.0) (is_in ys r.0) r.2 r.1) in any-made p xs r.0 g.1 g.0)
