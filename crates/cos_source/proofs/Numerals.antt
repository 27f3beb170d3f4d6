-- Numbers as `parse` reads them.
use Rattle.std.proofs.Common.{◌≡◌, ◌<◌, ◌≤◌, ◌^◌, ◌==◌, not, ℕ, true, List, [], ◌∷◌, length, Some, None, Ok, Err, arith, refl, ap, sym, ◌∙◌, inl, inr, rules}
use Rattle.std.specs.Char.{is_ascii_digit}
use Rattle.std.specs.List.{list_all}
use Rattle.std.specs.Str.Parse.{digits_value, ParsesUnsigned}
use Rattle.std.proofs.lemmas.Bool.{and_parts, false≢true, le-leb, lt-leb, cases_lt}
use Rattle.std.proofs.lemmas.Str.Parse.{IsNumeralModel, numerals_by_value, parse_digits}
use Rattle.cos_source.specs.Numbers.{is_digits, number}

-- a text of digits, as `parse` knows it
digits_are_digits : IsNumeralModel (λ digits. list_all is_ascii_digit digits ≡ true) (digits_value 10)
digits_are_digits = numerals_by_value _ (search rules)

all_digits : (text : List ℕ) → is_digits text ≡ true → list_all is_ascii_digit text ≡ true
all_digits text e = (and_parts (not (length text == 0)) (list_all is_ascii_digit text) e).1

some_digits : (text : List ℕ) → is_digits text ≡ true → 0 < length text
some_digits [] e = absurd (false≢true e)
some_digits (b ∷ text) e = omega arith

-- the number of digits, by its limit
number-fits : (limit : ℕ) (text : List ℕ) → is_digits text ≡ true → digits_value 10 text ≤ limit → number limit text ≡ Some (digits_value 10 text)
number-fits limit text e low = rw (e, le-leb (digits_value 10 text) limit low) refl

number-past : (limit : ℕ) (text : List ℕ) → is_digits text ≡ true → limit < digits_value 10 text → number limit text ≡ None
number-past limit text e past = rw (e, lt-leb (digits_value 10 text) limit past) refl

-- what `parse` gives for digits
module _ (E : Type 0) (limit : ℕ) (text : List ℕ) (digits : is_digits text ≡ true) where
  parsed : (n : ℕ) → ParsesUnsigned {E = E} 32 10 text (Ok n) → n ≡ digits_value 10 text
  parsed n h = (parse_digits digits_are_digits {E = E} 32 text (Ok n) h (all_digits text digits)).1

  pub parsed_within : (n : ℕ) → ParsesUnsigned {E = E} 32 10 text (Ok n) → n ≤ limit → Some n ≡ number limit text
  parsed_within n h low = let e = parsed n h in ap Some e ∙ sym (number-fits limit text digits (omega (arith, e, low)))

  pub parsed_past : (n : ℕ) → ParsesUnsigned {E = E} 32 10 text (Ok n) → limit < n → None ≡ number limit text
  parsed_past n h past = let e = parsed n h in sym (number-past limit text digits (omega (arith, e, past)))

  pub not_parsed : (error : E) → ParsesUnsigned {E = E} 32 10 text (Err error) → limit < 2 ^ 32 → None ≡ number limit text
  not_parsed error h fits =
      let p = parse_digits digits_are_digits {E = E} 32 text (Err error) h (all_digits text digits) in
      elim (cases_lt (digits_value 10 text) (2 ^ 32)) [
        | inl low ↦ absurd (p (some_digits text digits, low))
        | inr high ↦ sym (number-past limit text digits (omega (arith, high, fits)))
      ]
