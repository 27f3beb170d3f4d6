-- Members of lists that pass a test.
use Rattle.std.proofs.Common.{◌≡◌, ℕ, Bool, true, false, ◌&&◌, ◌||◌, ◌==◌, not, inl, inr, List, [], ◌∷◌, map, filter, refl, sym, ap, ◌∙◌}
use Rattle.std.proofs.lemmas.Bool.{eqb-true, eq-eqb, or_cases, or_left, or_right, both_ways, and_from, and_parts}
use Rattle.std.specs.List.{list_any, list_all}
use Rattle.page_tree.specs.Directions.{is_in}
use Rattle.page_tree.proofs.Members.{is_in-filter}
use Rattle.selector_meaning.specs.Texts.{is_empty}

pub same_by_iff : (a b : Bool) → (a ≡ true → b ≡ true) → (b ≡ true → a ≡ true) → a ≡ b
same_by_iff true b f g = sym (f refl)
same_by_iff false true f g = g refl
same_by_iff false false f g = refl

pub here : (x : ℕ) (xs : List ℕ) → is_in (x ∷ xs) x ≡ true
here x xs = or_left (x == x) (is_in xs x) (eq-eqb x x refl)

pub any-made : (p : ℕ → Bool) (xs : List ℕ) (z : ℕ) → is_in xs z ≡ true → p z ≡ true → list_any p xs ≡ true
any-made p [] z h q = absurd (both_ways false refl h)
any-made p (x ∷ xs) z h q = elim (or_cases (x == z) (is_in xs z) h) [
  | inl e ↦ or_left (p x) (list_any p xs) (ap p (eqb-true x z e) ∙ q)
  | inr e ↦ or_right (p x) (list_any p xs) (any-made p xs z e q)
]

pub any-found : (p : ℕ → Bool) (xs : List ℕ) → list_any p xs ≡ true → (z : ℕ) × (is_in xs z ≡ true) × (p z ≡ true)
any-found p [] h = absurd (both_ways false refl h)
any-found p (x ∷ xs) h = elim (or_cases (p x) (list_any p xs) h) [
  | inl e ↦ (x, here x xs, e)
  | inr e ↦ (let r = any-found p xs e in (r.0, or_right (x == r.0) (is_in xs r.0) r.1, r.2))
]

-- lists with the same members have the same members that pass
pub any-same_members : (p : ℕ → Bool) (xs ys : List ℕ) → ((z : ℕ) → is_in xs z ≡ is_in ys z) → list_any p xs ≡ list_any p ys
any-same_members p xs ys h =
    same_by_iff (list_any p xs) (list_any p ys)
    (λ e. let r = any-found p xs e in any-made p ys r.0 (sym (h r.0) ∙ r.1) r.2)
    (λ e. let r = any-found p ys e in any-made p xs r.0 (h r.0 ∙ r.1) r.2)

pub kept : (p : ℕ → Bool) (s : List ℕ) (x : ℕ) → is_in (filter p s) x ≡ true → (is_in s x ≡ true) × (p x ≡ true)
kept p s x h = and_parts (is_in s x) (p x) (sym (is_in-filter p s x) ∙ h)

pub keeps : (p : ℕ → Bool) (s : List ℕ) (x : ℕ) → is_in s x ≡ true → p x ≡ true → is_in (filter p s) x ≡ true
keeps p s x h q = is_in-filter p s x ∙ and_from (is_in s x) (p x) h q

pub alone : (y x : ℕ) → is_in (y ∷ []) x ≡ true → y ≡ x
alone y x h = elim (or_cases (y == x) false h) [ inl e ↦ eqb-true y x e | inr e ↦ absurd (both_ways false refl e) ]

pub filled : (xs : List ℕ) → not (is_empty xs) ≡ list_any (λ z. true) xs
filled [] = refl
filled (x ∷ xs) = refl

-- a part of a list has a member that passes where the list has one that passes and is in the part
pub any-within : (p : ℕ → Bool) (part whole : List ℕ) → ((z : ℕ) → is_in part z ≡ true → is_in whole z ≡ true) →
    list_any p part ≡ list_any (λ z. is_in part z && p z) whole
any-within p part whole within = same_by_iff (list_any p part) (list_any (λ z. is_in part z && p z) whole)
    (λ h. let r = any-found p part h in any-made (λ z. is_in part z && p z) whole r.0 (within r.0 r.1) (and_from (is_in part r.0) (p r.0) r.1 r.2))
    (λ h. let r = any-found (λ z. is_in part z && p z) whole h in let q = and_parts (is_in part r.0) (p r.0) r.2 in any-made p part r.0 q.0 q.1)

pub all-any : (p : ℕ → Bool) (s : List ℕ) → list_all p s ≡ not (list_any (λ y. not (p y)) s)
all-any p [] = refl
all-any p (y ∷ s) = case (p y) (all-any p s)
  where
    case : (b : Bool) → list_all p s ≡ not (list_any (λ z. not (p z)) s) → (b && list_all p s) ≡ not (not b || list_any (λ z. not (p z)) s)
    case true e = e
    case false e = refl

pub any-map : {X Y : Type 0} (f : X → Y) (p : Y → Bool) (xs : List X) → list_any p (map f xs) ≡ list_any (λ x. p (f x)) xs
any-map f p [] = refl
any-map f p (x ∷ xs) = ap (λ b. p (f x) || b) (any-map f p xs)
