-- The number of hexadecimal digits, digit by digit.
use Rattle.std.proofs.Common.{◌≡◌, ℕ, zero, suc, ◌+◌, ◌-◌, ◌*◌, ◌<◌, ◌≤◌, ◌^◌, true, false, [], ◌∷◌, length, get_or, take, drop, refl, sym, ap, ◌∙◌, add-one, arith}
use Rattle.std.specs.Char.{digit_value, is_ascii_hexdigit}
use Rattle.std.proofs.lemmas.List.{drop_more, drop_all}
use Rattle.selector_spelling.specs.Bytes.{Bytes, front, number, number_from}

abbrev pub hex_front : ℕ → Bytes → Bytes
hex_front n text = front is_ascii_hexdigit (take n text)

-- 16 to the n
abbrev pub limit : ℕ → ℕ
limit zero = 1
limit (suc n) = 16 * limit n

-- the digits so far and those to come
pub record IsHexSoFar (so_far count : ℕ) (rest text : Bytes) : Type 0 where
  pub most : count ≤ 6
  pub below : so_far < limit count
  pub value : number_from 16 so_far (hex_front (6 - count) rest) ≡ number 16 (hex_front 6 text)
  pub digits : count + length (hex_front (6 - count) rest) ≡ length (hex_front 6 text)

pub fits_more : (so_far count digit : ℕ) → so_far < limit count → count < 6 → digit < 16 → so_far * 16 + digit < 2 ^ 32
fits_more so_far zero digit h lt d = omega arith
fits_more so_far (suc zero) digit h lt d = omega arith
fits_more so_far (suc (suc zero)) digit h lt d = omega arith
fits_more so_far (suc (suc (suc zero))) digit h lt d = omega arith
fits_more so_far (suc (suc (suc (suc zero)))) digit h lt d = omega arith
fits_more so_far (suc (suc (suc (suc (suc zero))))) digit h lt d = omega arith
fits_more so_far (suc (suc (suc (suc (suc (suc n)))))) digit h lt d = absurd (omega arith)

module _ (text : Bytes) (so_far count : ℕ) (inside : count < length text) (s : IsHexSoFar so_far count (drop count text) text) (room : count < 6) where
  abbrev byte : ℕ
  byte = get_or text count 0

  behind : drop count text ≡ byte ∷ drop (count + 1) text
  behind = drop_more text count 0 inside

  left : 6 - count ≡ suc (6 - (count + 1))
  left = omega arith

  pub hex_more : (digit : ℕ) → is_ascii_hexdigit byte ≡ true → digit ≡ digit_value byte → digit < 16 → IsHexSoFar (so_far * 16 + digit) (count + 1) (drop (count + 1) text) text
  hex_more digit hex is low =
      let more = hex_front (6 - (count + 1)) (drop (count + 1) text) in
      let two : hex_front (suc (6 - (count + 1))) (byte ∷ drop (count + 1) text) ≡ byte ∷ more = rw hex refl in
      let one : hex_front (6 - count) (drop count text) ≡ byte ∷ more = ap (λ (v : Bytes). hex_front (6 - count) v) behind ∙ ap (λ (k : ℕ). hex_front k (byte ∷ drop (count + 1) text)) left ∙ two in
      let sum : so_far * 16 + digit ≡ 16 * so_far + digit_value byte = omega (arith, is) in
      record {
        most = omega arith;
        below = rw add-one (omega (arith, s.below, low));
        value = ap (λ (n : ℕ). number_from 16 n more) sum ∙ ap (number_from 16 so_far) (sym one) ∙ s.value;
        digits = omega (arith, s.digits, ap length one);
      }

  pub hex_stop : is_ascii_hexdigit byte ≡ false → (so_far ≡ number 16 (hex_front 6 text)) × (count ≡ length (hex_front 6 text))
  hex_stop other =
      let two : hex_front (suc (6 - (count + 1))) (byte ∷ drop (count + 1) text) ≡ [] = rw other refl in
      let one : hex_front (6 - count) (drop count text) ≡ [] = ap (λ (v : Bytes). hex_front (6 - count) v) behind ∙ ap (λ (k : ℕ). hex_front k (byte ∷ drop (count + 1) text)) left ∙ two in
      (ap (number_from 16 so_far) (sym one) ∙ s.value, omega (arith, s.digits, ap length one))

-- at the end, or behind six digits
pub hex_done : (text : Bytes) (so_far count : ℕ) → IsHexSoFar so_far count (drop count text) text → hex_front (6 - count) (drop count text) ≡ []
    → (so_far ≡ number 16 (hex_front 6 text)) × (count ≡ length (hex_front 6 text))
hex_done text so_far count s one = (ap (number_from 16 so_far) (sym one) ∙ s.value, omega (arith, s.digits, ap length one))

none-left : (n : ℕ) → hex_front n [] ≡ []
none-left zero = refl
none-left (suc n) = refl

pub none_left : (text : Bytes) (count : ℕ) → length text ≤ count → hex_front (6 - count) (drop count text) ≡ []
none_left text count h = ap (hex_front (6 - count)) (drop_all count text h) ∙ none-left (6 - count)

pub six_read : (text : Bytes) (count : ℕ) → 6 ≤ count → hex_front (6 - count) (drop count text) ≡ []
six_read text count h = let e : 6 - count ≡ 0 = omega arith in ap (λ (n : ℕ). hex_front n (drop count text)) e
