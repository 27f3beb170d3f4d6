-- The bytes of characters.
use Rattle.std.proofs.Common.{◌≡◌, ℕ, ◌+◌, ◌/◌, ◌%◌, ◌<◌, ◌≤◌, false, ltb, [], ◌∷◌, ◌++◌, length, refl, ap, ◌∙◌, arith, inl, inr}
use Rattle.std.specs.Prelude.{encode_utf8}
use Rattle.std.specs.List.{AllByRecursion}
use lib.Utf8.{encode}
use Rattle.std.proofs.lemmas.Str.{encode_ascii, length-encode, len_utf8_bounds}
use Rattle.std.proofs.lemmas.List.{length-append}
use Rattle.std.proofs.lemmas.Bool.{cases_lt, cases_Bool, le-ltb}
use Rattle.selector_spelling.specs.Bytes.{Bytes}

-- the bytes of a character past ASCII
pub record IsHigh (bytes : Bytes) : Type 0 where
  pub first : ℕ
  pub tail : Bytes
  pub is : bytes ≡ first ∷ tail
  pub first_high : 128 ≤ first
  pub high : AllByRecursion (λ b. 128 ≤ b) tail

pub encode-high : (c : ℕ) → 128 ≤ c → IsHigh (encode_utf8 c)
unfolding lib.Utf8.encode
encode-high c h =
    let e : ltb c 128 ≡ false = le-ltb c 128 h in
    elim (cases_Bool (ltb c 2048)) [
      | inl two ↦ record { first = 192 + c / 64; tail = (128 + c % 64) ∷ []; is = rw (e, two) refl; first_high = omega arith; high = (omega arith, tt) }
      | inr more ↦ elim (cases_Bool (ltb c 65536)) [
        | inl three ↦ record { first = 224 + c / 4096; tail = (128 + c / 64 % 64) ∷ (128 + c % 64) ∷ []; is = rw (e, more, three) refl; first_high = omega arith; high = (omega arith, (omega arith, tt)) }
        | inr four ↦ record { first = 240 + c / 262144; tail = (128 + c / 4096 % 64) ∷ (128 + c / 64 % 64) ∷ (128 + c % 64) ∷ []; is = rw (e, more, four) refl; first_high = omega arith; high = (omega arith, (omega arith, (omega arith, tt))) }
      ]
    ]

-- the first byte of a text, by its first character
pub record IsFirstByte (text rest : Bytes) (c : ℕ) : Type 0 where
  pub byte : ℕ
  pub tail : Bytes
  pub from : text ≡ byte ∷ (tail ++ rest)
  pub is : encode_utf8 c ≡ byte ∷ tail
  pub low : c < 128 → (byte ≡ c) × (tail ≡ [])
  pub high_byte : 128 ≤ c → 128 ≤ byte
  pub high : AllByRecursion (λ b. 128 ≤ b) tail

pub first-byte : (text rest : Bytes) (c : ℕ) → text ≡ encode_utf8 c ++ rest → IsFirstByte text rest c
first-byte text rest c e =
    elim (cases_lt c 128) [
      | inl low ↦ (
          let one = encode_ascii c low in
          record { byte = c; tail = []; from = e ∙ ap (λ (v : Bytes). v ++ rest) one; is = one; low = λ _. (refl, refl); high_byte = λ h. h; high = tt })
      | inr high ↦ (
          let b = encode-high c high in
          record { byte = b.first; tail = b.tail; from = e ∙ ap (λ (v : Bytes). v ++ rest) b.is; is = b.is; low = λ h. absurd (omega arith); high_byte = λ _. b.first_high; high = b.high })
    ]

pub shorter : (c : ℕ) (text rest : Bytes) → text ≡ encode_utf8 c ++ rest → length rest < length text
shorter c text rest e =
    let n = len_utf8_bounds c in
    omega (arith, n.0, length-encode c, length-append (encode_utf8 c) rest, ap length e)
