-- Numbers in a text, in decimal digits.
use Rattle.std.specs.Prelude.{ℕ, ◌==◌, ◌&&◌, Bool, true, not, List, [], ◌∷◌, length, Option, Some, None, nat_le, if◌then◌else◌}
use Rattle.std.specs.Char.{is_ascii_digit}
use Rattle.std.specs.List.{list_all}
use Rattle.std.specs.Str.Parse.{digits_value}

-- one digit or more, and nothing else
abbrev pub is_digits : List ℕ → Bool
is_digits text = not (length text == 0) && list_all is_ascii_digit text

-- the number that digits write, where it isn't past the limit; leading zeros count for nothing
abbrev pub number : ℕ → List ℕ → Option ℕ
number limit text =
    if is_digits text then (if nat_le (digits_value 10 text) limit then Some (digits_value 10 text) else None) else None

-- the first byte is `0` only where it stands alone
abbrev pub has_no_leading_zero : List ℕ → Bool
has_no_leading_zero [] = true
has_no_leading_zero (b ∷ []) = true
has_no_leading_zero (b ∷ c ∷ text) = not (b == 48)

-- the same without leading zeros
abbrev pub plain_number : ℕ → List ℕ → Option ℕ
plain_number limit text = if has_no_leading_zero text then number limit text else None
