-- Numbers past a limit.
use Rattle.std.proofs.Common.{◌≡◌, ℕ, ◌+◌, ◌*◌, ◌<◌, ◌≤◌, false, leb, if◌then◌else◌, Some, None, [], ◌∷◌, length, get_or, drop, refl, sym, ap, ◌∙◌, arith}
use Rattle.std.specs.Char.{digit_value}
use Rattle.std.proofs.lemmas.Bool.{lt-leb}
use Rattle.std.proofs.lemmas.List.{drop_more}
use Rattle.selector_spelling.specs.Bytes.{Bytes, number, number_from}

-- more digits make no smaller number
grows : (n : ℕ) (digits : Bytes) → n ≤ number_from 10 n digits
grows n [] = omega arith
grows n (b ∷ digits) = let more = grows (10 * n + digit_value b) digits in omega (arith, more)

refused : (value limit : ℕ) → leb value limit ≡ false → None ≡ (if leb value limit then Some value else None)
refused value limit e = rw e refl

pub past_limit : (digits : Bytes) (limit n i d : ℕ) → i < length digits → number_from 10 n (drop i digits) ≡ number 10 digits → d ≡ digit_value (get_or digits i 0) → limit < 10 * n + d
    → None ≡ (if leb (number 10 digits) limit then Some (number 10 digits) else None)
past_limit digits limit n i d inside same d-is past =
    let b = get_or digits i 0 in
    let rest = drop (i + 1) digits in
    let one : number_from 10 (10 * n + digit_value b) rest ≡ number 10 digits = sym (ap (number_from 10 n) (drop_more digits i 0 inside)) ∙ same in
    let most = grows (10 * n + digit_value b) rest in
    refused (number 10 digits) limit (lt-leb (number 10 digits) limit (omega (arith, one, most, past, d-is)))
