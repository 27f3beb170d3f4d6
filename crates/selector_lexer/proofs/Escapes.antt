-- How many bytes an escape takes.
use Rattle.std.proofs.Common.{◌≡◌, ℕ, zero, suc, ◌+◌, ◌-◌, ◌<◌, ◌≤◌, [], ◌∷◌, length, take, drop, min, refl, sym, ap, ◌∙◌, arith, inl, inr}
use Rattle.std.specs.Char.{is_ascii_hexdigit}
use Rattle.std.proofs.lemmas.Bool.{cases_Bool}
use Rattle.std.proofs.lemmas.List.{take_min, take_rest, length-take-le}
use Rattle.selector_spelling.specs.Bytes.{Bytes, front}
use Rattle.selector_spelling.specs.Names.{escape, letter_length, space_length}
use Rattle.selector_spelling.specs.Scan.{at_least_one}

at_least_one-pos : (n : ℕ) → 0 < n → at_least_one n ≡ n
at_least_one-pos zero h = absurd (omega arith)
at_least_one-pos (suc n) h = refl

digits_then_space : (text : Bytes) → 0 < length (front is_ascii_hexdigit (take 6 text))
    → letter_length (escape text) ≡ length (front is_ascii_hexdigit (take 6 text)) + space_length (drop (length (front is_ascii_hexdigit (take 6 text))) text)
digits_then_space [] h = absurd (omega arith)
digits_then_space (b ∷ text) h =
    elim (cases_Bool (is_ascii_hexdigit b)) [
      | inl holds ↦ rw holds refl
      | inr lacks ↦ absurd (let e : front is_ascii_hexdigit (take 6 (b ∷ text)) ≡ [] = rw lacks refl in omega (arith, h, ap length e))
    ]

-- the digits are a front of at most six bytes
pub escape-numbered : (text : Bytes) (k n s : ℕ) → k ≡ min 6 (length text) → front is_ascii_hexdigit (take k text) ≡ take n (take k text)
    → n ≤ length (take k text) → 0 < n → s ≡ space_length (take (length text - n) (drop n text)) → n + s ≡ at_least_one (letter_length (escape text))
escape-numbered text k n s k-is digits within some s-is =
    let six : take k text ≡ take 6 text = ap (λ (m : ℕ). take m text) k-is ∙ take_min 6 text in
    let same : front is_ascii_hexdigit (take 6 text) ≡ take n (take k text) = ap (front is_ascii_hexdigit) (sym six) ∙ digits in
    let count : length (front is_ascii_hexdigit (take 6 text)) ≡ n = ap length same ∙ length-take-le n (take k text) within in
    let f = digits_then_space text (omega (arith, count, some)) in
    let g : letter_length (escape text) ≡ n + s = f ∙ ap (λ (m : ℕ). m + space_length (drop m text)) count ∙ ap (λ (v : ℕ). n + v) (ap space_length (sym (take_rest text n)) ∙ sym s-is) in
    sym (ap at_least_one g ∙ at_least_one-pos (n + s) (omega (arith, some)))
