-- How often is asked: what has no repeats and lies within a list weighs no more than the list.
use Rattle.std.proofs.Common.{◌≡◌, ◌∙◌, ℕ, zero, suc, Bool, true, false, ◌&&◌, ◌||◌, ◌==◌, ◌+◌, ◌≤◌, ◌<◌, inl, inr, List, [], ◌∷◌, length, nat_eq, cond, refl, sym, ap, ap₂, arith}
use Rattle.std.specs.List.{sum_by, count_by, range_with_len, IsDistinct, AllByRecursion}
use Rattle.std.proofs.lemmas.Bool.{cases_Bool, or_cases, or_right, eqb-true, eq-eqb, false≢true}
use Rattle.std.proofs.lemmas.List.Sums.{sum_by-cons}
use Rattle.page_tree.specs.Directions.{is_in}
use Rattle.retest_laws.specs.Pending.{Pairs, due_at, budget}
use Rattle.retest_laws.specs.Laws.{Bounded, SoleAsking, Grouped}

-- the list without the first x
abbrev taken_out : ℕ → List ℕ → List ℕ
taken_out x [] = []
taken_out x (y ∷ ys) = cond (y == x) ys (y ∷ taken_out x ys)

weight : (g : ℕ → ℕ) (x : ℕ) (ys : List ℕ) → is_in ys x ≡ true → sum_by g ys ≡ g x + sum_by g (taken_out x ys)
weight g x [] h = absurd (false≢true h)
weight g x (y ∷ ys) h = elim (cases_Bool (y == x)) [
  | inl e ↦ sum_by-cons g y ys ∙ ap₂ (λ a b. g a + sum_by g b) (eqb-true y x e) (sym (ap (λ b. cond b ys (y ∷ taken_out x ys)) e))
  | inr e ↦ (let i : is_in ys x ≡ true = sym (ap (λ b. b || is_in ys x) e) ∙ h in
      let r = weight g x ys i in
      let k : sum_by g (cond (y == x) ys (y ∷ taken_out x ys)) ≡ g y + sum_by g (taken_out x ys) =
      ap (λ b. sum_by g (cond b ys (y ∷ taken_out x ys))) e ∙ sum_by-cons g y (taken_out x ys) in
      sum_by-cons g y ys ∙ swapped (g y) (g x) _ _ _ r k)
]
  where
    swapped : (a b s t u : ℕ) → s ≡ b + t → u ≡ a + t → a + s ≡ b + u
    swapped a b s t u p q = omega arith

stays : (x z : ℕ) (ys : List ℕ) → is_in ys z ≡ true → (x == z) ≡ false → is_in (taken_out x ys) z ≡ true
stays x z [] h n = absurd (false≢true h)
stays x z (y ∷ ys) h n = elim (cases_Bool (y == x)) [
  | inl e ↦ (let same : (y == z) ≡ false = ap (λ w. w == z) (eqb-true y x e) ∙ n in
      ap (λ b. is_in (cond b ys (y ∷ taken_out x ys)) z) e ∙ sym (ap (λ b. b || is_in ys z) same) ∙ h)
  | inr e ↦ ap (λ b. is_in (cond b ys (y ∷ taken_out x ys)) z) e ∙ elim (or_cases (y == z) (is_in ys z) h) [
    | inl f ↦ ap (λ b. b || is_in (taken_out x ys) z) f
    | inr f ↦ or_right (y == z) (is_in (taken_out x ys) z) (stays x z ys f n)
  ]
]

apart : (x z : ℕ) (xs : List ℕ) → AllByRecursion (λ y. nat_eq x y ≡ false) xs → is_in xs z ≡ true → (x == z) ≡ false
apart x z [] d h = absurd (false≢true h)
apart x z (y ∷ ys) d h = elim (or_cases (y == z) (is_in ys z) h) [
  | inl e ↦ ap (λ w. x == w) (sym (eqb-true y z e)) ∙ d.0
  | inr i ↦ apart x z ys d.1 i
]

zero_least : (n : ℕ) → 0 ≤ n
zero_least n = omega arith

pub weighs_less : (g : ℕ → ℕ) (xs ys : List ℕ) → IsDistinct nat_eq xs → ((x : ℕ) → is_in xs x ≡ true → is_in ys x ≡ true) → sum_by g xs ≤ sum_by g ys
unfolding IsDistinct
weighs_less g [] ys once within = zero_least _
weighs_less g (x ∷ xs) ys once within =
    let e = weight g x ys (within x (ap (λ b. b || is_in xs x) (eq-eqb x x refl))) in
    let c = sum_by-cons g x xs in
    let r = weighs_less g xs (taken_out x ys) once.1 (λ z h. stays x z ys (within z (or_right (x == z) (is_in xs z) h)) (apart x z xs once.0 h)) in
    omega arith

-- each number of a range is in it
within_range : (n a f : ℕ) → a ≤ f → f < a + n → is_in (range_with_len a n) f ≡ true
within_range zero a f low high = absurd (omega arith)
within_range (suc n) a f low high = elim (cases_Bool (a == f)) [
  | inl e ↦ ap (λ b. b || is_in (range_with_len (a + 1) n) f) e
  | inr e ↦ or_right (a == f) (is_in (range_with_len (a + 1) n) f) (within_range n (a + 1) f (above (unequal e)) (omega arith))
]
  where
    unequal : (a == f) ≡ false → a ≡ f → ⊥
    unequal e same = false≢true (sym e ∙ eq-eqb a f same)

    above : (a ≡ f → ⊥) → a + 1 ≤ f
    above d = omega arith

counted : (p : ℕ → Bool) (xs : List ℕ) → ((x : ℕ) → is_in xs x ≡ true → p x ≡ true) → count_by p xs ≡ length xs
counted p [] h = refl
counted p (x ∷ xs) h =
    let c = sum_by-cons (λ x. cond (p x) 1 0) x xs in
    let one : cond {A = ℕ} (p x) 1 0 ≡ 1 = ap (λ b. cond {A = ℕ} b 1 0) (h x (ap (λ b. b || is_in xs x) (eq-eqb x x refl))) in
    let r = counted p xs (λ z i. h z (or_right (x == z) (is_in xs z) i)) in
    omega arith

pub sole_asking : SoleAsking
sole_asking n carries pending x asked once due =
    let p = λ (f : ℕ). pending f x && carries f x in
    let all = counted p asked (λ f i. (due f i).1) in
    let less = weighs_less (λ f. cond (p f) 1 0) asked (range_with_len 0 n) once (λ f i. within_range n 0 f (zero_least f) (omega (arith, (due f i).0))) in
    omega arith

pub bounded : Bounded
bounded n elements visits carries pending once within = weighs_less (due_at n carries pending) visits elements once within

-- ---- the budget hangs on the pairs alone
same_due : (n : ℕ) (carries pending others : Pairs) (x : ℕ) → ((f : ℕ) → pending f x ≡ others f x) → due_at n carries pending x ≡ due_at n carries others x
same_due n carries pending others x same = counts (range_with_len 0 n)
  where
    counts : (fs : List ℕ) → count_by (λ f. pending f x && carries f x) fs ≡ count_by (λ f. others f x && carries f x) fs
    counts [] = refl
    counts (f ∷ fs) =
        sum_by-cons (λ f. cond (pending f x && carries f x) 1 0) f fs
        ∙ ap₂ (λ b k. cond {A = ℕ} (b && carries f x) 1 0 + k) (same f) (counts fs)
        ∙ sym (sum_by-cons (λ f. cond (others f x && carries f x) 1 0) f fs)

pub same_budget : (n : ℕ) (elements : List ℕ) (carries pending others : Pairs) → ((f x : ℕ) → pending f x ≡ others f x) →
    budget n elements carries pending ≡ budget n elements carries others
same_budget n [] carries pending others same = refl
same_budget n (x ∷ xs) carries pending others same =
    sum_by-cons (due_at n carries pending) x xs ∙ ap₂ (λ a b. a + b) (same_due n carries pending others x (λ f. same f x)) (same_budget n xs carries pending others same)
    ∙ sym (sum_by-cons (due_at n carries others) x xs)

pub grouped : Grouped
grouped n elements carries pending by_group group same = same_budget n elements carries pending (λ f x. by_group (group f) x) same
