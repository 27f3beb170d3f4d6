-- Members of lists of numbers.
use Rattle.std.proofs.Common.{◌≡◌, ℕ, zero, suc, Bool, true, false, ◌&&◌, ◌||◌, ◌==◌, inl, inr, List, [], ◌∷◌, ◌++◌, take, Some, None, refl, sym, ap, ◌∙◌, cond}
use Rattle.std.specs.Prelude.{slice_get, OnOk, IfOk, Result, Ok, Err}
use Rattle.std.proofs.lemmas.Bool.{eqb-true, eq-eqb, both_ways, or_cases, or_left, or_right}
use Rattle.std.specs.List.{list_any}
use Rattle.page_tree.specs.Directions.{is_in}
use Rattle.dependency_sets.specs.Reaching.{with_number, Adds}

pub never : {A : Type 0} → false ≡ true → A
never h = absurd (both_ways false refl h)

pub same_by_iff : (a b : Bool) → (a ≡ true → b ≡ true) → (b ≡ true → a ≡ true) → a ≡ b
same_by_iff true b f g = sym (f refl)
same_by_iff false true f g = g refl
same_by_iff false false f g = refl

pub here : (x : ℕ) (xs : List ℕ) → is_in (x ∷ xs) x ≡ true
here x xs = or_left (x == x) (is_in xs x) (eq-eqb x x refl)

pub any-made : (p : ℕ → Bool) (xs : List ℕ) (z : ℕ) → is_in xs z ≡ true → p z ≡ true → list_any p xs ≡ true
any-made p [] z h q = never h
any-made p (x ∷ xs) z h q = elim (or_cases (x == z) (is_in xs z) h) [
  | inl e ↦ or_left (p x) (list_any p xs) (ap p (eqb-true x z e) ∙ q)
  | inr e ↦ or_right (p x) (list_any p xs) (any-made p xs z e q)
]

pub any-found : (p : ℕ → Bool) (xs : List ℕ) → list_any p xs ≡ true → (z : ℕ) × (is_in xs z ≡ true) × (p z ≡ true)
any-found p [] h = never h
any-found p (x ∷ xs) h = elim (or_cases (p x) (list_any p xs) h) [
  | inl e ↦ (x, here x xs, e)
  | inr e ↦ (let r = any-found p xs e in (r.0, or_right (x == r.0) (is_in xs r.0) r.1, r.2))
]

pub any-append : {A : Type 0} (p : A → Bool) (xs ys : List A) → list_any p (xs ++ ys) ≡ (list_any p xs || list_any p ys)
any-append p [] ys = refl
any-append p (x ∷ xs) ys = ap (λ b. p x || b) (any-append p xs ys) ∙ or_assoc (p x) (list_any p xs) (list_any p ys)
  where
    or_assoc : (a b c : Bool) → (a || (b || c)) ≡ ((a || b) || c)
    or_assoc true b c = refl
    or_assoc false b c = refl

pub or_none : (a : Bool) → (a || false) ≡ a
or_none true = refl
or_none false = refl

or_within : (a b : Bool) → (b ≡ true → a ≡ true) → (a || b) ≡ a
or_within true b f = refl
or_within false true f = sym (f refl)
or_within false false f = refl

pub append_nil : (xs : List ℕ) → xs ≡ xs ++ []
append_nil [] = refl
append_nil (x ∷ xs) = ap (λ ys. x ∷ ys) (append_nil xs)

-- a number more
pub is_in-with_number : (xs : List ℕ) (n x : ℕ) → is_in (with_number xs n) x ≡ (is_in xs x || (n == x))
is_in-with_number xs n x = by (is_in xs n) refl
  where
    by : (b : Bool) → is_in xs n ≡ b → is_in (cond b xs (xs ++ n ∷ [])) x ≡ (is_in xs x || (n == x))
    by true e = sym (or_within (is_in xs x) (n == x) (λ q. ap (is_in xs) (sym (eqb-true n x q)) ∙ e))
    by false e = any-append (λ y. y == x) xs (n ∷ []) ∙ ap (λ b. is_in xs x || b) (or_none (n == x))

pub begins-with_number : (xs : List ℕ) (n : ℕ) → (more : List ℕ) × (with_number xs n ≡ xs ++ more)
begins-with_number xs n = by (is_in xs n)
  where
    by : (b : Bool) → (more : List ℕ) × (cond b xs (xs ++ n ∷ []) ≡ xs ++ more)
    by true = ([], append_nil xs)
    by false = (n ∷ [], refl)

pub adds_one : (p : ℕ → Bool) (xs : List ℕ) (n : ℕ) → ((x : ℕ) → p x ≡ (n == x)) → Adds p xs (with_number xs n)
adds_one p xs n h = record {
  members = λ x. is_in-with_number xs n x ∙ ap (λ b. is_in xs x || b) (sym (h x));
  begins = begins-with_number xs n;
}

pub adds_none : (p : ℕ → Bool) (xs : List ℕ) → ((x : ℕ) → p x ≡ false) → Adds p xs xs
adds_none p xs h = record {
  members = λ x. sym (ap (λ b. is_in xs x || b) (h x) ∙ or_none (is_in xs x));
  begins = ([], append_nil xs);
}

-- what a call gives, by what follows from what it ensures
pub on_ok : {T E P Q : Type 0} (r : Result T E) → (P → Q) → OnOk r P → OnOk r Q
on_ok (Ok x) f h = f h
on_ok (Err e) f h = h

pub if_ok : {T E : Type 0} {P Q : T → Type 0} (r : Result T E) → ((v : T) → P v → Q v) → IfOk r P → IfOk r Q
if_ok (Ok x) f h = f x h
if_ok (Err e) f h = h

pub any-and : (b : Bool) (p : ℕ → Bool) (xs : List ℕ) → list_any (λ y. b && p y) xs ≡ (b && list_any p xs)
any-and true p xs = refl
any-and false p [] = refl
any-and false p (x ∷ xs) = any-and false p xs

-- a test of members is the same of lists with the same members
pub any-same : (p : ℕ → Bool) (xs ys : List ℕ) → ((z : ℕ) → is_in xs z ≡ is_in ys z) → list_any p xs ≡ list_any p ys
any-same p xs ys h =
    same_by_iff (list_any p xs) (list_any p ys)
    (λ e. let r = any-found p xs e in any-made p ys r.0 (sym (h r.0) ∙ r.1) r.2)
    (λ e. let r = any-found p ys e in any-made p xs r.0 (h r.0 ∙ r.1) r.2)

-- the number at a place of a list
pub is_in-get : (xs : List ℕ) (k y : ℕ) → slice_get xs k ≡ Some y → is_in xs y ≡ true
is_in-get [] k y h = cc
is_in-get (x ∷ xs) zero y h = let same : x ≡ y = cc (h) in or_left (x == y) (is_in xs y) (eq-eqb x y same)
is_in-get (x ∷ xs) (suc k) y h = or_right (x == y) (is_in xs y) (is_in-get xs k y h)

pub take-get : (xs more : List ℕ) (k y : ℕ) → slice_get xs k ≡ Some y → take (suc k) (xs ++ more) ≡ take k xs ++ y ∷ []
take-get [] more k y h = cc
take-get (x ∷ xs) more zero y h = let same : x ≡ y = cc (h) in ap (λ (z : ℕ). z ∷ []) same
take-get (x ∷ xs) more (suc k) y h = ap (λ l. x ∷ l) (take-get xs more k y h)

pub take-past : (xs : List ℕ) (k : ℕ) → slice_get xs k ≡ None → take k xs ≡ xs
take-past [] zero h = refl
take-past [] (suc k) h = refl
take-past (x ∷ xs) zero h = let no : Some x ≡ None = h in cc
take-past (x ∷ xs) (suc k) h = ap (λ l. x ∷ l) (take-past xs k h)

pub is_in-append : (xs ys : List ℕ) (x : ℕ) → is_in (xs ++ ys) x ≡ (is_in xs x || is_in ys x)
is_in-append xs ys x = any-append (λ y. y == x) xs ys

pub alone : (y x : ℕ) → is_in (y ∷ []) x ≡ true → y ≡ x
alone y x h = elim (or_cases (y == x) false h) [ inl e ↦ eqb-true y x e | inr e ↦ never e ]
