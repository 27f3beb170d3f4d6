-- Places that are a multiple of a step behind an offset.
use Rattle.std.proofs.Common.{◌≡◌, ℕ, zero, suc, ◌+◌, ◌*◌, ◌%◌, ◌/◌, ◌<◌, ◌≤◌, ◌==◌, ℤ, pos, negsuc, ◌+ℤ◌, ◌-ℤ◌, ◌*ℤ◌, ◌<ℤ◌, ◌≤ℤ◌, nat_abs, unsigned_abs, int_le, ◌&&◌, Bool, true, false, refl, ◌∙◌, ap, inl, inr, ◌⊎◌, arith, subst}
use lib.Dec.{leb}
use Rattle.std.proofs.Math.Nat.{dvd_iff_mod-eq-zero, dvd-mul_right}
use Rattle.std.proofs.lemmas.Bool.{leb-true, le-leb, cases_eq, eq-eqb, or_cases, or_left, or_right, and_parts, and_from, both_ways, eqb-true}
use Rattle.std.proofs.lemmas.Int.{ints}
use Rattle.std.specs.List.{list_any, range_with_len}
use Rattle.selector_meaning.specs.Meaning.{is_nth}
use Rattle.selector_match.proofs.Values.{same_by_iff}

-- some number of a range passes
any_range : (q : ℕ → Bool) (from n : ℕ) → list_any q (range_with_len from n) ≡ true → (k : ℕ) × (q k ≡ true)
any_range q from zero h = absurd (both_ways false refl h)
any_range q from (suc n) h = elim (or_cases (q from) (list_any q (range_with_len (from + 1) n)) h) [ inl e ↦ (from, e) | inr e ↦ any_range q (from + 1) n e ]

range_any : (q : ℕ → Bool) (from n k : ℕ) → from ≤ k → k < from + n → q k ≡ true → list_any q (range_with_len from n) ≡ true
range_any q from zero k low high h = absurd (omega arith)
range_any q from (suc n) k low high h =
    elim (cases_eq from k) [
      | inl e ↦ or_left (q from) (list_any q (range_with_len (from + 1) n)) (ap q e ∙ h)
      | inr e ↦ or_right (q from) (list_any q (range_with_len (from + 1) n)) (range_any q (from + 1) n k (omega arith) (omega arith) h)
    ]

same_int : (x y : ℤ) → (int_le x y && int_le y x) ≡ true → x ≡ y
same_int (pos a) (pos b) h =
    let r = and_parts (leb a b) (leb b a) h in
    ap pos (omega (arith, leb-true a b r.0, leb-true b a r.1))
same_int (pos a) (negsuc b) h = absurd (both_ways false refl h)
same_int (negsuc a) (pos b) h = absurd (both_ways false refl h)
same_int (negsuc a) (negsuc b) h =
    let r = and_parts (leb b a) (leb a b) h in
    ap negsuc (omega (arith, leb-true b a r.0, leb-true a b r.1))

int_same : (x y : ℤ) → x ≡ y → (int_le x y && int_le y x) ≡ true
int_same x y h = subst (λ (z : ℤ). (int_le x z && int_le z x) ≡ true) h (itself x)
  where
    itself : (z : ℤ) → (int_le z z && int_le z z) ≡ true
    itself (pos a) = and_from (leb a a) (leb a a) (le-leb a a (omega arith)) (le-leb a a (omega arith))
    itself (negsuc a) = and_from (leb a a) (leb a a) (le-leb a a (omega arith)) (le-leb a a (omega arith))

-- the distance goes up or down
pub distance_of : (p d : ℕ) (b : ℤ) → d ≡ unsigned_abs (pos p -ℤ b) → (pos p ≡ b +ℤ pos d) ⊎ (b ≡ pos p +ℤ pos d)
distance_of p d b h = by_sign (pos p -ℤ b) refl h
  where
    by_sign : (z : ℤ) → pos p -ℤ b ≡ z → d ≡ unsigned_abs z → (pos p ≡ b +ℤ pos d) ⊎ (b ≡ pos p +ℤ pos d)
    by_sign (pos n) e i = inl (omega (arith, ints))
    by_sign (negsuc n) e i = inr (omega (arith, ints))

-- k steps from b are at p
abbrev Steps : ℤ → ℤ → ℕ → ℕ → Type 0
Steps a b p k = a *ℤ pos k +ℤ b ≡ pos p

-- a distance of whole steps
module _ (p d m : ℕ) (b : ℤ) where
  up_steps : pos p ≡ b +ℤ pos d → (q : ℕ) → d ≡ m * q → Steps (pos m) b p q
  up_steps h q e = omega (arith, ints)

  down_steps : b ≡ pos p +ℤ pos d → (q : ℕ) → d ≡ suc m * q → Steps (negsuc m) b p q
  down_steps h q e = omega (arith, ints)

-- k is at most the number of places
bound_up : (p d m q : ℕ) (b : ℤ) → pos p ≡ b +ℤ pos d → 0 < m → d ≡ m * q → q < 0 + (p + nat_abs b + 1)
bound_up p d zero q b h pm e = absurd (omega arith)
bound_up p d (suc m) q (pos n) h pm e = let low : 0 ≤ m * q = omega arith in omega (arith, ints, low)
bound_up p d (suc m) q (negsuc n) h pm e = let low : 0 ≤ m * q = omega arith in omega (arith, ints, low)

bound_down : (p d m q : ℕ) (b : ℤ) → b ≡ pos p +ℤ pos d → d ≡ suc m * q → q < 0 + (p + nat_abs b + 1)
bound_down p d m q (pos n) h e = let low : 0 ≤ m * q = omega arith in omega (arith, ints, low)
bound_down p d m q (negsuc n) h e = let low : 0 ≤ m * q = omega arith in omega (arith, ints, low)

-- whole steps
whole : (d s : ℕ) → 0 < s → d % s ≡ 0 → d ≡ s * (d / s)
whole d s h e = omega (arith, e)

rest_none : (d s q : ℕ) → 0 < s → d ≡ s * q → d % s ≡ 0
rest_none d s q h e = ap (λ n. n % s) e ∙ (dvd_iff_mod-eq-zero s {n = s * q}).0 (dvd-mul_right s q)

is_nth_by : (a b : ℤ) (p k : ℕ) → k < 0 + (p + nat_abs b + 1) → Steps a b p k → is_nth a b p ≡ true
is_nth_by a b p k h e =
    range_any (λ j. int_le (a *ℤ pos j +ℤ b) (pos p) && int_le (pos p) (a *ℤ pos j +ℤ b)) 0 (p + nat_abs b + 1) k (omega arith) h
    (int_same (a *ℤ pos k +ℤ b) (pos p) e)

-- going up by steps of m, or not at all
pub nth_up : (m p d : ℕ) (b : ℤ) → pos p ≡ b +ℤ pos d → 0 < d → 0 < m → (d % m == 0) ≡ is_nth (pos m) b p
nth_up m p d b h pd pm =
    same_by_iff (d % m == 0) (is_nth (pos m) b p)
    (λ e.
    let w = whole d m pm (eqb-true (d % m) 0 e) in
    is_nth_by (pos m) b p (d / m) (bound_up p d m (d / m) b h pm w) (up_steps p d m b h (d / m) w))
    (λ e.
    let r = any_range (λ k. int_le (pos m *ℤ pos k +ℤ b) (pos p) && int_le (pos p) (pos m *ℤ pos k +ℤ b)) 0 (p + nat_abs b + 1) e in
    let s : Steps (pos m) b p r.0 = same_int (pos m *ℤ pos r.0 +ℤ b) (pos p) r.1 in
    eq-eqb (d % m) 0 (rest_none d m r.0 pm (omega (arith, ints, s))))

pub nth_down : (m p d : ℕ) (b : ℤ) → b ≡ pos p +ℤ pos d → 0 < d → (d % suc m == 0) ≡ is_nth (negsuc m) b p
nth_down m p d b h pd =
    same_by_iff (d % suc m == 0) (is_nth (negsuc m) b p)
    (λ e.
    let w = whole d (suc m) (omega arith) (eqb-true (d % suc m) 0 e) in
    is_nth_by (negsuc m) b p (d / suc m) (bound_down p d m (d / suc m) b h w) (down_steps p d m b h (d / suc m) w))
    (λ e.
    let r = any_range (λ k. int_le (negsuc m *ℤ pos k +ℤ b) (pos p) && int_le (pos p) (negsuc m *ℤ pos k +ℤ b)) 0 (p + nat_abs b + 1) e in
    let s : Steps (negsuc m) b p r.0 = same_int (negsuc m *ℤ pos r.0 +ℤ b) (pos p) r.1 in
    eq-eqb (d % suc m) 0 (rest_none d (suc m) r.0 (omega arith) (omega (arith, ints, s))))

-- no way there
pub nth_none : (a b : ℤ) (p : ℕ) → ((k : ℕ) → Steps a b p k → ⊥) → false ≡ is_nth a b p
nth_none a b p h =
    same_by_iff false (is_nth a b p) (λ e. absurd (both_ways false refl e))
    (λ e.
    let r = any_range (λ k. int_le (a *ℤ pos k +ℤ b) (pos p) && int_le (pos p) (a *ℤ pos k +ℤ b)) 0 (p + nat_abs b + 1) e in
    absurd (h r.0 (same_int (a *ℤ pos r.0 +ℤ b) (pos p) r.1)))

pub none_up : (a b : ℤ) (p d : ℕ) → pos p ≡ b +ℤ pos d → 0 < d → a ≤ℤ pos 0 → (k : ℕ) → Steps a b p k → ⊥
none_up (pos m) b p d h pd na k s = let z : m ≡ 0 = omega (arith, ints) in let e : m * k ≡ 0 = rw z (omega arith) in omega (arith, ints, s, e)
none_up (negsuc m) b p d h pd na k s = omega (arith, ints, s)

pub none_down : (a b : ℤ) (p d : ℕ) → b ≡ pos p +ℤ pos d → 0 < d → pos 0 ≤ℤ a → (k : ℕ) → Steps a b p k → ⊥
none_down (pos m) b p d h pd na k s = omega (arith, ints, s)
none_down (negsuc m) b p d h pd na k s = omega (arith, ints)

-- as the code asks it
module _ (a b : ℤ) (p d s : ℕ) (far : d ≡ unsigned_abs (pos p -ℤ b)) (some : d ≡ 0 → ⊥) where
  pub nth_ahead : b <ℤ pos p → pos 0 <ℤ a → s ≡ unsigned_abs a → (d % s == 0) ≡ is_nth a b p
  nth_ahead low up e =
      elim (distance_of p d b far) [
        | inl h ↦ by_sign a up e h
        | inr h ↦ absurd (omega (arith, ints))
      ]
    where
      by_sign : (z : ℤ) → pos 0 <ℤ z → s ≡ unsigned_abs z → pos p ≡ b +ℤ pos d → (d % s == 0) ≡ is_nth z b p
      by_sign (pos m) w f h = ap (λ n. d % n == 0) f ∙ nth_up m p d b h (omega arith) (omega (arith, ints))
      by_sign (negsuc m) w f h = absurd (omega (arith, ints))

  pub nth_back : pos p ≤ℤ b → a <ℤ pos 0 → s ≡ unsigned_abs a → (d % s == 0) ≡ is_nth a b p
  nth_back high down e =
      elim (distance_of p d b far) [
        | inl h ↦ absurd (omega (arith, ints))
        | inr h ↦ by_sign a down e h
      ]
    where
      by_sign : (z : ℤ) → z <ℤ pos 0 → s ≡ unsigned_abs z → b ≡ pos p +ℤ pos d → (d % s == 0) ≡ is_nth z b p
      by_sign (pos m) w f h = absurd (omega (arith, ints))
      by_sign (negsuc m) w f h = ap (λ n. d % n == 0) f ∙ nth_down m p d b h (omega arith)

  pub nth_not_ahead : b <ℤ pos p → a ≤ℤ pos 0 → false ≡ is_nth a b p
  nth_not_ahead low up =
      elim (distance_of p d b far) [
        | inl h ↦ nth_none a b p (none_up a b p d h (omega arith) up)
        | inr h ↦ absurd (omega (arith, ints))
      ]

  pub nth_not_back : pos p ≤ℤ b → pos 0 ≤ℤ a → false ≡ is_nth a b p
  nth_not_back high down =
      elim (distance_of p d b far) [
        | inl h ↦ absurd (omega (arith, ints))
        | inr h ↦ nth_none a b p (none_down a b p d h (omega arith) down)
      ]
