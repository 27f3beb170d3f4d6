-- Classes of bytes: what a test says of each byte, by computing below 128.
use Rattle.std.proofs.Common.{◌≡◌, ℕ, ◌<◌, ◌≤◌, Bool, true, false, not, eqb, leb, ◌||◌, refl, sym, ap, ◌∙◌, arith, inl, inr}
use Rattle.std.specs.Char.{is_ascii_hexdigit}
use Rattle.std.proofs.lemmas.Bool.{agree_below, cases_lt, cases_Bool, or_right, or_cases, le-leb, eqb-true, leb-true, and_parts, agree_below_at, both_ways, not-true}
use Rattle.selector_tree.specs.Letters.{is_within, is_digit, is_name_byte, is_control}

-- what a test says of each byte below 128
pub below_128 : (p : ℕ → Bool) (b : ℕ) → b < 128 → agree_below p (λ k. true) 128 ≡ true → p b ≡ true
below_128 p b low h = agree_below_at p (λ k. true) 128 b h low

-- a byte that passes isn't one that doesn't
pub apart : (p : ℕ → Bool) (b n : ℕ) → p b ≡ true → p n ≡ false → eqb b n ≡ false
apart p b n h g = elim (cases_Bool (eqb b n)) [ inl is ↦ absurd (both_ways (p n) g (ap p (sym (eqb-true b n is)) ∙ h)) | inr differs ↦ differs ]

pub name_byte_high : (b : ℕ) → 128 ≤ b → is_name_byte b ≡ true
name_byte_high b h = or_right (is_within 97 122 b || is_within 65 90 b || is_digit b || eqb b 45 || eqb b 95) (leb 128 b) (le-leb 128 b h)

pub not_name_byte_low : (b : ℕ) → is_name_byte b ≡ false → b < 128
not_name_byte_low b h = elim (cases_lt b 128) [ inl low ↦ low | inr high ↦ absurd (both_ways (is_name_byte b) h (name_byte_high b high)) ]

-- of an implication between classes below 128
pub implied : (p q : ℕ → Bool) (b : ℕ) → agree_below (λ k. not (p k) || q k) (λ k. true) 128 ≡ true → b < 128 → p b ≡ true → q b ≡ true
implied p q b all low h =
    elim (or_cases (not (p b)) (q b) (below_128 (λ k. not (p k) || q k) b low all)) [
      | inl lacks ↦ absurd (both_ways (p b) (not-true (p b) lacks) h)
      | inr holds ↦ holds
    ]

-- what is no name byte is no hexadecimal digit
pub not_hex : (b : ℕ) → is_name_byte b ≡ false → is_ascii_hexdigit b ≡ false
not_hex b h = not-true (is_ascii_hexdigit b) (implied (λ k. not (is_name_byte k)) (λ k. not (is_ascii_hexdigit k)) b refl (not_name_byte_low b h) (ap not h))

pub control_low : (b : ℕ) → is_control b ≡ true → b < 128
control_low b h =
    elim (or_cases (is_within 1 31 b) (eqb b 127) h) [
      | inl within ↦ (let p = and_parts (leb 1 b) (leb b 31) within in let e = leb-true b 31 p.1 in omega arith)
      | inr is ↦ (let e = eqb-true b 127 is in omega arith)
    ]

pub digit_low : (b : ℕ) → is_digit b ≡ true → b < 128
digit_low b h = (let p = and_parts (leb 48 b) (leb b 57) h in let e = leb-true b 57 p.1 in omega arith)
