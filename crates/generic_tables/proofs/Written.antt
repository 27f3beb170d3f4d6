-- What stands under a name after one name was written.
use Rattle.std.proofs.Common.{◌≡◌, ◌∙◌, ◌&&◌, ◌||◌, ◌==◌, not, ℕ, Bool, true, false, cond, List, [], ◌∷◌, Option, Result, Ok, Err, OnOk, OnErr, nat_eq, refl, sym, ap, ap₂, inl, inr}
use Rattle.std.specs.Prelude.{unwrap_or}
use Rattle.std.specs.List.{list_any}
use Rattle.std.specs.Map.{update}
use Rattle.std.specs.Str.{bytes_eq}
use Rattle.std.proofs.lemmas.Bool.{cases_Bool, eqb-true, eq-eqb, false≢true}
use Rattle.std.proofs.lemmas.Slice.Eq.{bytes_eq-Decides}
use Rattle.page_tree.specs.Directions.{is_in}

pub eq-turned : (a b : ℕ) → (a == b) ≡ (b == a)
eq-turned a b = elim (cases_Bool (a == b)) [
  | inl e ↦ e ∙ sym (eq-eqb b a (sym (eqb-true a b e)))
  | inr e ↦ elim (cases_Bool (b == a)) [
    | inl f ↦ absurd (false≢true (sym e ∙ eq-eqb a b (sym (eqb-true b a f))))
    | inr f ↦ e ∙ sym f
  ]
]

-- a set of numbers contains what is in the list of them
pub contains-in : (xs : List ℕ) (x : ℕ) → list_any (nat_eq x) xs ≡ is_in xs x
contains-in [] x = refl
contains-in (y ∷ ys) x = ap₂ (λ a b. a || b) (eq-turned x y) (contains-in ys x)

-- one number was taken out
pub taken : (old new : List ℕ) (n x : ℕ) → list_any (nat_eq x) new ≡ cond (nat_eq n x) false (list_any (nat_eq x) old) → is_in new x ≡ (is_in old x && not (x == n))
taken old new n x h = sym (contains-in new x) ∙ h ∙ ap₂ (λ a b. cond a false b) (eq-turned n x) (contains-in old x) ∙ by (x == n) (is_in old x)
  where
    by : (a b : Bool) → cond a false b ≡ (b && not a)
    by true true = refl
    by true false = refl
    by false true = refl
    by false false = refl

pub bytes_eq-turned : (a b : List ℕ) → bytes_eq a b ≡ bytes_eq b a
bytes_eq-turned a b = elim (cases_Bool (bytes_eq a b)) [
  | inl e ↦ e ∙ sym ((bytes_eq-Decides b a).1 (sym ((bytes_eq-Decides a b).0 e)))
  | inr e ↦ elim (cases_Bool (bytes_eq b a)) [
    | inl f ↦ absurd (false≢true (sym e ∙ (bytes_eq-Decides a b).1 (sym ((bytes_eq-Decides b a).0 f))))
    | inr f ↦ e ∙ sym f
  ]
]

-- The numbers under each name, after those under one name were written. `now` says whether x stands there now, from whether
-- it stood there and whether it is the number that the call is about; it leaves other numbers as they were.
pub written : (now : Bool → Bool → Bool) → ((b : Bool) → now b false ≡ b) → (old new : List ℕ → Option (List ℕ)) (name : List ℕ) (n : ℕ) (w : Option (List ℕ)) →
    ((v : List ℕ) → new v ≡ update bytes_eq old name w v) → ((x : ℕ) → is_in (unwrap_or w []) x ≡ now (is_in (unwrap_or (old name) []) x) (x == n)) →
    (v : List ℕ) (x : ℕ) → is_in (unwrap_or (new v) []) x ≡ now (is_in (unwrap_or (old v) []) x) (bytes_eq v name && x == n)
written now others old new name n w made there v x = elim (cases_Bool (bytes_eq name v)) [
  | inl e ↦ (let same : name ≡ v = (bytes_eq-Decides name v).0 e in
      ap (λ (o : Option (List ℕ)). is_in (unwrap_or o []) x) (made v ∙ ap (λ b. cond b w (old v)) e) ∙ there x
      ∙ ap₂ (λ (u : List ℕ) b. now (is_in (unwrap_or (old u) []) x) (b && x == n)) same (sym (bytes_eq-turned v name ∙ e)))
  | inr e ↦
      ap (λ (o : Option (List ℕ)). is_in (unwrap_or o []) x) (made v ∙ ap (λ b. cond b w (old v)) e)
      ∙ sym (ap (λ b. now (is_in (unwrap_or (old v) []) x) (b && x == n)) (bytes_eq-turned v name ∙ e) ∙ others (is_in (unwrap_or (old v) []) x))
]

pub on_ok : {T E P Q : Type 0} (r : Result T E) → (P → Q) → OnOk r P → OnOk r Q
on_ok (Ok v) f h = f h
on_ok (Err e) f h = tt

pub on_err : {T E P Q : Type 0} (r : Result T E) → (P → Q) → OnErr r P → OnErr r Q
on_err (Ok v) f h = tt
on_err (Err e) f h = f h

pub or_false : (b : Bool) → (b || false) ≡ b
or_false true = refl
or_false false = refl

pub and_true : (b : Bool) → (b && true) ≡ b
and_true true = refl
and_true false = refl
