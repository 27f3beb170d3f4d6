-- Numbers: their canonical texts are read as the numbers.
use Rattle.std.proofs.Common.{◌≡◌, ℕ, ℤ, pos, negsuc, zero, suc, ◌+◌, ◌*◌, ◌/◌, ◌%◌, ◌^◌, ◌<◌, ◌≤◌, Bool, true, false, not, eqb, leb, ◌&&◌, ◌||◌, [], ◌∷◌, ◌++◌, length, codes, Option, Some, None, IfSome, if◌then◌else◌, refl, sym, ap, ap₂, subst, ◌∙◌, append-nil, arith, inl, inr}
use Rattle.std.specs.Prelude.{option_and_then}
use Rattle.std.specs.Fmt.{decimal, signed_decimal}
use Rattle.std.specs.List.{list_all}
use Rattle.std.specs.Char.{is_ascii_digit, digit_value, to_ascii_lowercase}
use Rattle.std.specs.Str.{bytes_eq, str_to_ascii_lowercase}
use Rattle.std.proofs.lemmas.Fmt.{decimal_by_steps, length-decimal-le}
use Rattle.std.proofs.lemmas.List.Folds.{list_all-append}
use Rattle.std.proofs.lemmas.Bool.{agree_below_at, cases_lt, lt-leb, or_from, ne_eqb, eqb-true, not-true, both_ways, and_parts, and_from, and_right, le-leb, leb-true}
use Rattle.cos_source.specs.Spaces.{is_space, before_text, without_first_spaces, without_last_spaces, trimmed}
use Rattle.selector_tree.specs.Canonical.{offset_text}
use Rattle.selector_spelling.specs.declared.open.Open.TheVariants.{Raw, Round}
use Rattle.selector_spelling.specs.Bytes.{Bytes, is_empty, front, behind, is_number, number, number_from}
use Rattle.selector_spelling.specs.Arguments.{Nth, negated, signed, is_plus_or_minus, begins_minus, begins_sign, unsigned, digits, digits_or_one, offset, behind_n, with_n, by_rest, nth_of, nth, text_units, degree}
use Rattle.selector_round_trip.proofs.Scanned.{IsKept, IsKept-nil, IsKept-append}
use Rattle.selector_round_trip.proofs.Classes.{apart, implied}

-- ---- digits

-- a number's digits
pub record IsDecimal (n : ℕ) (text : Bytes) : Type 0 where
  pub digits : list_all is_ascii_digit text ≡ true
  pub value : number 10 text ≡ n
  pub some : is_empty text ≡ false

digit_of : (n : ℕ) → n < 10 → (is_ascii_digit (48 + n) ≡ true) × (digit_value (48 + n) ≡ n)
digit_of n h =
    let f : ℕ → Bool = λ (k : ℕ). is_ascii_digit (48 + k) && eqb (digit_value (48 + k)) k in
    let all : f n ≡ true = agree_below_at f (λ k. true) 10 n refl h in
    let p = and_parts (is_ascii_digit (48 + n)) (eqb (digit_value (48 + n)) n) all in
    (p.0, eqb-true _ _ p.1)

number_from-append : (base n : ℕ) (a b : Bytes) → number_from base n (a ++ b) ≡ number_from base (number_from base n a) b
number_from-append base n [] b = refl
number_from-append base n (c ∷ a) b = number_from-append base (base * n + digit_value c) a b

append_not_empty : (a : Bytes) (c : ℕ) → is_empty (a ++ c ∷ []) ≡ false
append_not_empty [] c = refl
append_not_empty (b ∷ a) c = refl

one_digit : (n : ℕ) → n < 10 → IsDecimal n ((48 + n) ∷ [])
one_digit n h =
    let d = digit_of n h in
    record { digits = and_from (is_ascii_digit (48 + n)) true d.0 refl; value = omega (arith, d.1); some = refl }

more_digits : (n : ℕ) (ds : Bytes) → 10 ≤ n → IsDecimal (n / 10) ds → IsDecimal n (ds ++ (48 + n % 10) ∷ [])
more_digits n ds h d =
    let low : n % 10 < 10 = omega arith in
    let e = digit_of (n % 10) low in
    let v : number 10 (ds ++ (48 + n % 10) ∷ []) ≡ 10 * (number 10 ds) + digit_value (48 + n % 10) = number_from-append 10 0 ds ((48 + n % 10) ∷ []) in
    record {
      digits = list_all-append is_ascii_digit ds ((48 + n % 10) ∷ []) ∙ and_from (list_all is_ascii_digit ds) (list_all is_ascii_digit ((48 + n % 10) ∷ [])) d.digits (and_from (is_ascii_digit (48 + n % 10)) true e.0 refl);
      value = v ∙ ap (λ (x : ℕ). 10 * x + digit_value (48 + n % 10)) d.value ∙ ap (λ (x : ℕ). 10 * (n / 10) + x) e.1 ∙ (omega arith);
      some = append_not_empty ds (48 + n % 10);
    }

pub is_decimal : (n : ℕ) → n < 2 ^ 64 → IsDecimal n (decimal n)
is_decimal n h = decimal_by_steps IsDecimal one_digit more_digits n h

-- ---- what is read of digits

pub behind_digits : (text rest : Bytes) → list_all is_ascii_digit text ≡ true → behind is_ascii_digit (text ++ rest) ≡ behind is_ascii_digit rest
behind_digits [] rest h = refl
behind_digits (b ∷ text) rest h =
    let p = and_parts (is_ascii_digit b) (list_all is_ascii_digit text) h in
    ap (λ (c : Bool). if c then behind is_ascii_digit (text ++ rest) else b ∷ (text ++ rest)) p.0 ∙ behind_digits text rest p.1

pub front_digits : (text rest : Bytes) → list_all is_ascii_digit text ≡ true → front is_ascii_digit (text ++ rest) ≡ text ++ front is_ascii_digit rest
front_digits [] rest h = refl
front_digits (b ∷ text) rest h =
    let p = and_parts (is_ascii_digit b) (list_all is_ascii_digit text) h in
    ap (λ (c : Bool). if c then b ∷ front is_ascii_digit (text ++ rest) else []) p.0 ∙ ap (λ (t : Bytes). b ∷ t) (front_digits text rest p.1)

pub digits_number : (text : Bytes) → list_all is_ascii_digit text ≡ true → is_empty text ≡ false → is_number text ≡ true
digits_number [] h some = absurd (both_ways true some refl)
digits_number (b ∷ text) h some = ap (λ (t : Bytes). is_empty (behind is_ascii_digit t)) (sym (append-nil (b ∷ text))) ∙ ap is_empty (behind_digits (b ∷ text) [] h)

-- a digit isn't a space
digit_solid : (b : ℕ) → is_ascii_digit b ≡ true → is_space b ≡ false
digit_solid b h = let d = apart is_ascii_digit b in rw (d 32 h refl, d 9 h refl, d 12 h refl, d 13 h refl) refl

pub digits_solid_first : (text rest : Bytes) → list_all is_ascii_digit text ≡ true → is_empty text ≡ false → without_first_spaces (text ++ rest) ≡ text ++ rest
digits_solid_first [] rest h some = absurd (both_ways true some refl)
digits_solid_first (b ∷ text) rest h some =
    let p = and_parts (is_ascii_digit b) (list_all is_ascii_digit text) h in
    ap (λ (c : Bool). if c then without_first_spaces (text ++ rest) else b ∷ (text ++ rest)) (digit_solid b p.0)

-- ---- texts that end in no space

abbrev pub is_solid : Bytes → Bool
is_solid [] = false
is_solid (b ∷ []) = not (is_space b)
is_solid (b ∷ c ∷ text) = is_solid (c ∷ text)

pub solid_kept : (text : Bytes) → is_solid text ≡ true → without_last_spaces text ≡ text
solid_kept [] h = refl
solid_kept (b ∷ []) h = let e : is_space b ≡ false = not-true (is_space b) h in rw e refl
solid_kept (b ∷ c ∷ text) h = ap (before_text b) (solid_kept (c ∷ text) h)

pub solid-append : (a b : Bytes) → is_solid b ≡ true → is_solid (a ++ b) ≡ true
solid-append [] b h = h
solid-append (c ∷ []) [] h = absurd (both_ways false refl h)
solid-append (c ∷ []) (d ∷ b) h = h
solid-append (c ∷ e ∷ a) b h = solid-append (e ∷ a) b h

digits_solid : (text : Bytes) → list_all is_ascii_digit text ≡ true → is_empty text ≡ false → is_solid text ≡ true
digits_solid [] h some = absurd (both_ways true some refl)
digits_solid (b ∷ []) h some = ap not (digit_solid b (and_parts (is_ascii_digit b) true h).0)
digits_solid (b ∷ c ∷ text) h some = digits_solid (c ∷ text) (and_parts (is_ascii_digit b) (list_all is_ascii_digit (c ∷ text)) h).1 refl

pub digits_trimmed : (text : Bytes) → list_all is_ascii_digit text ≡ true → is_empty text ≡ false → trimmed text ≡ text
digits_trimmed text h some =
    ap without_last_spaces (ap without_first_spaces (sym (append-nil text)) ∙ digits_solid_first text [] h some ∙ append-nil text) ∙ solid_kept text (digits_solid text h some)

-- ---- numbers of operators

pub units_again : (n : ℕ) → n < 2 ^ 32 → text_units (decimal n) ≡ Some n
units_again n h =
    let d = is_decimal n (omega arith) in
    let x : is_number (decimal n) ≡ true = digits_number (decimal n) d.digits d.some in
    let y : leb (length (decimal n)) 10 ≡ true = le-leb (length (decimal n)) 10 (length-decimal-le 10 n (omega arith) (omega arith) (omega arith)) in
    let z : leb (number 10 (decimal n)) 4294967295 ≡ true = le-leb (number 10 (decimal n)) 4294967295 (let e = d.value in omega arith) in
    ap (λ (c : Bool). if c then Some (number 10 (decimal n)) else None)
    (and_from (is_number (decimal n) && leb (length (decimal n)) 10) (leb (number 10 (decimal n)) 4294967295) (and_from (is_number (decimal n)) (leb (length (decimal n)) 10) x y) z)
    ∙ ap (λ (v : ℕ). Some v) d.value

pub degree_again : (n : ℕ) → 0 < n → n < 256 → degree (decimal n) ≡ Some n
degree_again n some low =
    let d = is_decimal n (omega arith) in
    let e : degree (decimal n) ≡ (if leb 1 n && leb n 255 then Some n else None) = ap (λ (v : ℕ). if leb 1 v && leb v 255 then Some v else None) d.value in
    e ∙ ap (λ (c : Bool). if c then Some n else None) (and_from (leb 1 n) (leb n 255) (le-leb 1 n some) (le-leb n 255 (omega arith)))

-- ---- an+b

abbrev pub IsSmall : ℤ → Type 0
IsSmall (pos n) = n ≤ 1000000
IsSmall (negsuc n) = n < 1000000

digits_again : (n : ℕ) → n ≤ 1000000 → digits (decimal n) ≡ Some n
digits_again n h =
    let d = is_decimal n (omega arith) in
    let x : is_number (decimal n) ≡ true = digits_number (decimal n) d.digits d.some in
    let y : leb (number 10 (decimal n)) 1000000 ≡ true = le-leb (number 10 (decimal n)) 1000000 (let e = d.value in omega arith) in
    ap (λ (c : Bool). if c then Some (number 10 (decimal n)) else None) (and_from (is_number (decimal n)) (leb (number 10 (decimal n)) 1000000) x y) ∙ ap (λ (v : ℕ). Some v) d.value

or_one_again : (text : Bytes) (n : ℕ) → is_empty text ≡ false → digits text ≡ Some n → digits_or_one text ≡ Some n
or_one_again text n some h = ap (λ (c : Bool). if c then Some 1 else digits text) some ∙ h

abbrev some_int : ℤ → Option ℤ
some_int z = Some z

behind_n_again : (z : ℤ) → IsSmall z → behind_n (offset_text z) ≡ some_int z
behind_n_again (pos n) h =
    let d = is_decimal n (omega arith) in
    let e : digits (without_first_spaces (decimal n)) ≡ Some n = ap digits (ap without_first_spaces (sym (append-nil (decimal n))) ∙ digits_solid_first (decimal n) [] d.digits d.some ∙ append-nil (decimal n)) ∙ digits_again n h in
    ap (λ (o : Option ℕ). option_and_then (λ (k : ℕ). some_int (signed false k)) o) e
behind_n_again (negsuc n) h =
    let m = suc n in
    let d = is_decimal (suc n) (omega arith) in
    let e : digits (without_first_spaces (decimal (suc n))) ≡ Some (suc n) = ap digits (ap without_first_spaces (sym (append-nil (decimal (suc n)))) ∙ digits_solid_first (decimal (suc n)) [] d.digits d.some ∙ append-nil (decimal (suc n))) ∙ digits_again (suc n) (omega arith) in
    ap (λ (o : Option ℕ). option_and_then (λ (k : ℕ). some_int (signed true k)) o) e

-- the first byte of digits
pub record Begins (text : Bytes) : Type 0 where
  pub first : ℕ
  pub others : Bytes
  pub is : text ≡ first ∷ others
  pub digit : is_ascii_digit first ≡ true

digit_no_sign : (b : ℕ) → is_ascii_digit b ≡ true → is_plus_or_minus b ≡ false
digit_no_sign b h = let d = apart is_ascii_digit b in or_from (eqb b 43) (eqb b 45) (d 43 h refl) (d 45 h refl)

unsigned_digits : (text rest : Bytes) → list_all is_ascii_digit text ≡ true → is_empty text ≡ false → unsigned (text ++ rest) ≡ text ++ rest
unsigned_digits [] rest h some = absurd (both_ways true some refl)
unsigned_digits (b ∷ text) rest h some = ap (λ (c : Bool). if c then text ++ rest else b ∷ (text ++ rest)) (digit_no_sign b (and_parts (is_ascii_digit b) (list_all is_ascii_digit text) h).0)

no_minus : (text rest : Bytes) → list_all is_ascii_digit text ≡ true → is_empty text ≡ false → begins_minus (text ++ rest) ≡ false
no_minus [] rest h some = absurd (both_ways true some refl)
no_minus (b ∷ text) rest h some = apart is_ascii_digit b 45 (and_parts (is_ascii_digit b) (list_all is_ascii_digit text) h).0 refl

abbrev nth_some : ℤ → ℤ → Option Nth
nth_some a b = Some (record { a = a; b = b })

-- what stands behind the first digits is `n`
by_rest_again : (text ds rest : Bytes) (n : ℕ) (b : ℤ) → unsigned text ≡ ds ++ 110 ∷ rest → IsDecimal n ds → digits ds ≡ Some n → behind_n rest ≡ some_int b
    → by_rest text (behind is_ascii_digit (unsigned text)) ≡ nth_some (signed (begins_minus text) n) b
by_rest_again text ds rest n b u d read more =
    let e : behind is_ascii_digit (unsigned text) ≡ 110 ∷ rest = ap (behind is_ascii_digit) u ∙ behind_digits ds (110 ∷ rest) d.digits in
    let f : front is_ascii_digit (unsigned text) ≡ ds = ap (front is_ascii_digit) u ∙ front_digits ds (110 ∷ rest) d.digits ∙ append-nil ds in
    let g : digits_or_one (front is_ascii_digit (unsigned text)) ≡ Some n = ap digits_or_one f ∙ or_one_again ds n d.some read in
    ap (by_rest text) e
    ∙ ap (λ (o : Option ℕ). option_and_then (λ (a : ℕ). option_and_then (λ (c : ℤ). nth_some (signed (begins_minus text) a) c) (behind_n rest)) o) g
    ∙ ap (λ (o : Option ℤ). option_and_then (λ (c : ℤ). nth_some (signed (begins_minus text) n) c) o) more

-- letters of such a text
abbrev pub is_nth_byte : ℕ → Bool
is_nth_byte b = is_ascii_digit b || eqb b 43 || eqb b 45 || eqb b 110

digit_nth : (text : Bytes) → list_all is_ascii_digit text ≡ true → list_all is_nth_byte text ≡ true
digit_nth [] h = refl
digit_nth (b ∷ text) h =
    let p = and_parts (is_ascii_digit b) (list_all is_ascii_digit text) h in
    and_from (is_nth_byte b) (list_all is_nth_byte text) (ap (λ (c : Bool). c || eqb b 43 || eqb b 45 || eqb b 110) p.0) (digit_nth text p.1)

pub offset_bytes : (z : ℤ) → IsSmall z → list_all is_nth_byte (offset_text z) ≡ true
offset_bytes (pos n) h = digit_nth (decimal n) (is_decimal n (omega arith)).digits
offset_bytes (negsuc n) h = digit_nth (decimal (suc n)) (is_decimal (suc n) (omega arith)).digits

signed_bytes : (z : ℤ) → IsSmall z → list_all is_nth_byte (signed_decimal z) ≡ true
signed_bytes (pos n) h = digit_nth (decimal n) (is_decimal n (omega arith)).digits
signed_bytes (negsuc n) h = digit_nth (decimal (suc n)) (is_decimal (suc n) (omega arith)).digits

-- the argument of a counting pseudo-class
abbrev pub nth_argument : ℤ → ℤ → Bytes
nth_argument a b = signed_decimal a ++ 110 ∷ offset_text b

pub nth_bytes : (a b : ℤ) → IsSmall a → IsSmall b → list_all is_nth_byte (nth_argument a b) ≡ true
nth_bytes a b h k = list_all-append is_nth_byte (signed_decimal a) (110 ∷ offset_text b) ∙ and_from (list_all is_nth_byte (signed_decimal a)) (list_all is_nth_byte (offset_text b)) (signed_bytes a h) (offset_bytes b k)

nth_byte_low : (b : ℕ) → is_nth_byte b ≡ true → b < 128
nth_byte_low b h =
    elim (cases_lt b 128) [
      | inl low ↦ low
      | inr high ↦ absurd (
          let d : is_ascii_digit b ≡ false = and_right (leb 48 b) (leb b 57) (lt-leb b 57 (omega arith)) in
          both_ways (is_nth_byte b) (or_from (is_ascii_digit b || eqb b 43 || eqb b 45) (eqb b 110) (or_from (is_ascii_digit b || eqb b 43) (eqb b 45) (or_from (is_ascii_digit b) (eqb b 43) d (ne_eqb b 43 (λ e. omega arith))) (ne_eqb b 45 (λ e. omega arith))) (ne_eqb b 110 (λ e. omega arith))) h)
    ]

lower_nth : (b : ℕ) → is_nth_byte b ≡ true → to_ascii_lowercase b ≡ b
lower_nth b h = eqb-true _ _ (implied is_nth_byte (λ k. eqb (to_ascii_lowercase k) k) b refl (nth_byte_low b h) h)

lower_nths : (text : Bytes) → list_all is_nth_byte text ≡ true → str_to_ascii_lowercase text ≡ text
lower_nths [] h = refl
lower_nths (b ∷ text) h = (let p = and_parts (is_nth_byte b) (list_all is_nth_byte text) h in ap₂ ◌∷◌ (lower_nth b p.0) (lower_nths text p.1))

nth_solid : (b : ℕ) → is_nth_byte b ≡ true → is_space b ≡ false
nth_solid b h = let d = apart is_nth_byte b in rw (d 32 h refl, d 9 h refl, d 12 h refl, d 13 h refl) refl

nths_solid : (text : Bytes) → list_all is_nth_byte text ≡ true → is_empty text ≡ false → is_solid text ≡ true
nths_solid [] h some = absurd (both_ways true some refl)
nths_solid (b ∷ []) h some = ap not (nth_solid b (and_parts (is_nth_byte b) true h).0)
nths_solid (b ∷ c ∷ text) h some = nths_solid (c ∷ text) (and_parts (is_nth_byte b) (list_all is_nth_byte (c ∷ text)) h).1 refl

nths_trimmed : (text : Bytes) → list_all is_nth_byte text ≡ true → trimmed text ≡ text
nths_trimmed [] h = refl
nths_trimmed (b ∷ text) h =
    ap without_last_spaces (ap (λ (c : Bool). if c then without_first_spaces text else b ∷ text) (nth_solid b (and_parts (is_nth_byte b) (list_all is_nth_byte text) h).0)) ∙ solid_kept (b ∷ text) (nths_solid (b ∷ text) h refl)

no_word : (b : ℕ) (text rest : Bytes) (c : ℕ) → eqb b c ≡ false → bytes_eq (b ∷ text) (c ∷ rest) ≡ false
no_word b text rest c h = rw h refl

nth_of-other : (text : Bytes) → list_all is_nth_byte text ≡ true → nth_of text ≡ by_rest text (behind is_ascii_digit (unsigned text))
nth_of-other [] h = refl
nth_of-other (b ∷ text) h =
    let p = and_parts (is_nth_byte b) (list_all is_nth_byte text) h in
    rw (no_word b text (codes "dd") 111 (apart is_nth_byte b 111 p.0 refl), no_word b text (codes "ven") 101 (apart is_nth_byte b 101 p.0 refl)) refl

nth-of : (text : Bytes) → list_all is_nth_byte text ≡ true → nth text ≡ by_rest text (behind is_ascii_digit (unsigned text))
nth-of text h = ap (λ (t : Bytes). nth_of (str_to_ascii_lowercase t)) (nths_trimmed text h) ∙ ap nth_of (lower_nths text h) ∙ nth_of-other text h

by_rest_signed : (a b : ℤ) → IsSmall a → IsSmall b → by_rest (nth_argument a b) (behind is_ascii_digit (unsigned (nth_argument a b))) ≡ nth_some a b
by_rest_signed (pos n) b h k =
    let d = is_decimal n (omega arith) in
    let text = decimal n ++ 110 ∷ offset_text b in
    by_rest_again text (decimal n) (offset_text b) n b (unsigned_digits (decimal n) (110 ∷ offset_text b) d.digits d.some) d (digits_again n h) (behind_n_again b k)
    ∙ ap (λ (c : Bool). nth_some (signed c n) b) (no_minus (decimal n) (110 ∷ offset_text b) d.digits d.some)
by_rest_signed (negsuc n) b h k =
    by_rest_again (nth_argument (negsuc n) b) (decimal (suc n)) (offset_text b) (suc n) b refl (is_decimal (suc n) (omega arith)) (digits_again (suc n) (omega arith)) (behind_n_again b k)

pub nth_again : (a b : ℤ) → IsSmall a → IsSmall b → nth (nth_argument a b) ≡ nth_some a b
nth_again a b h k = nth-of (nth_argument a b) (nth_bytes a b h k) ∙ by_rest_signed a b h k

-- ---- what is read is small

pub record Then {A B : Type 0} (o : Option A) (f : A → Option B) (y : B) : Type 0 where
  pub value : A
  pub is : o ≡ Some value
  pub gives : f value ≡ Some y

pub then_some : {A B : Type 0} (o : Option A) (f : A → Option B) (y : B) → option_and_then f o ≡ Some y → Then o f y
then_some None f y h = absurd (let w : None ≡ Some y = h in cc)
then_some (Some x) f y h = record { value = x; is = refl; gives = h }

pub some_cond : {A : Type 0} (c : Bool) (x y : A) → (if c then Some x else None) ≡ Some y → (c ≡ true) × (x ≡ y)
some_cond true x y h = (refl, cc)
some_cond false x y h = absurd (let w : None ≡ Some y = h in cc)

-- what holds of what is there
on_cond : {A : Type 0} (P : A → Type 0) (c : Bool) (x y : Option A) → (c ≡ true → IfSome x P) → IfSome y P → IfSome (if c then x else y) P
on_cond P true x y h g = h refl
on_cond P false x y h g = g

on_then : {A B : Type 0} (P : A → Type 0) (Q : B → Type 0) (o : Option A) (f : A → Option B) → IfSome o P → ((x : A) → P x → IfSome (f x) Q) → IfSome (option_and_then f o) Q
on_then P Q None f h g = tt
on_then P Q (Some x) f h g = g x h

on_value : {A : Type 0} (P : A → Type 0) (o : Option A) (x : A) → IfSome o P → o ≡ Some x → P x
on_value {A = A} P o x h e = subst (λ (a : Option A). IfSome a P) e h

digits_small : (text : Bytes) → IfSome (digits text) (λ n. n ≤ 1000000)
digits_small text =
    let n = number 10 text in
    on_cond (λ m. m ≤ 1000000) (is_number text && leb n 1000000) (Some n) None (λ h. leb-true n 1000000 (and_parts (is_number text) (leb n 1000000) h).1) tt

or_one_small : (text : Bytes) → IfSome (digits_or_one text) (λ n. n ≤ 1000000)
or_one_small [] = omega arith
or_one_small (b ∷ text) = digits_small (b ∷ text)

negated_small : (n : ℕ) → n ≤ 1000000 → IsSmall (negated n)
negated_small zero h = omega arith
negated_small (suc n) h = omega arith

signed_small : (negative : Bool) (n : ℕ) → n ≤ 1000000 → IsSmall (signed negative n)
signed_small true n h = negated_small n h
signed_small false n h = h

offset_small : (text : Bytes) → IfSome (offset text) IsSmall
offset_small text = on_then (λ n. n ≤ 1000000) IsSmall (digits (without_first_spaces (unsigned text))) _ (digits_small (without_first_spaces (unsigned text))) (λ n h. signed_small (begins_minus text) n h)

behind_n_small : (text : Bytes) → IfSome (behind_n text) IsSmall
behind_n_small [] = omega arith
behind_n_small (b ∷ text) = (let rest = without_first_spaces (b ∷ text) in on_cond IsSmall (begins_sign rest) (offset rest) None (λ h. offset_small rest) tt)

abbrev pub IsSmallNth : Nth → Type 0
IsSmallNth v = IsSmall v.a × IsSmall v.b

with_n_small : (text rest : Bytes) → IfSome (with_n text rest) IsSmallNth
with_n_small text rest =
    on_then (λ n. n ≤ 1000000) IsSmallNth (digits_or_one (front is_ascii_digit (unsigned text))) _ (or_one_small (front is_ascii_digit (unsigned text))) (λ n h.
    on_then IsSmall IsSmallNth (behind_n rest) _ (behind_n_small rest) (λ z g. (signed_small (begins_minus text) n h, g)))

by_rest_small : (text rest : Bytes) → IfSome (by_rest text rest) IsSmallNth
by_rest_small text [] = on_then (λ n. n ≤ 1000000) IsSmallNth (digits (unsigned text)) _ (digits_small (unsigned text)) (λ n h. (omega arith, signed_small (begins_minus text) n h))
by_rest_small text (c ∷ rest) = on_cond IsSmallNth (eqb c 110) (with_n text rest) None (λ h. with_n_small text rest) tt

pub nth_small : (text : Bytes) (v : Nth) → nth text ≡ Some v → IsSmallNth v
nth_small text v h =
    let t = str_to_ascii_lowercase (trimmed text) in
    let rest = behind is_ascii_digit (unsigned t) in
    on_value IsSmallNth (nth text) v (on_cond IsSmallNth (bytes_eq t (codes "odd")) _ _ (λ e. (omega arith, omega arith))
    (on_cond IsSmallNth (bytes_eq t (codes "even")) _ (by_rest t rest) (λ e. (omega arith, omega arith)) (by_rest_small t rest))) h

pub units_small : (text : Bytes) (n : ℕ) → text_units text ≡ Some n → n < 2 ^ 32
units_small text n h =
    let m = number 10 text in
    on_value (λ k. k < 2 ^ 32) (text_units text) n (on_cond (λ k. k < 2 ^ 32) (is_number text && leb (length text) 10 && leb m 4294967295) (Some m) None
    (λ e. (let r = leb-true m 4294967295 (and_parts (is_number text && leb (length text) 10) (leb m 4294967295) e).1 in omega arith)) tt) h

pub degree_small : (text : Bytes) (n : ℕ) → degree text ≡ Some n → (0 < n) × (n < 256)
degree_small text n h =
    let m = number 10 text in
    on_value (λ k. (0 < k) × (k < 256)) (degree text) n (on_cond (λ k. (0 < k) × (k < 256)) (leb 1 m && leb m 255) (Some m) None
    (λ e. (let q = and_parts (leb 1 m) (leb m 255) e in let r = leb-true 1 m q.0 in let s = leb-true m 255 q.1 in (omega arith, omega arith))) tt) h

-- ---- scans of such arguments

-- the bytes before which a bracket stays as it is
abbrev pub is_steady : ℕ → Bool
is_steady b = not (eqb b 92 || eqb b 58 || eqb b 40 || eqb b 91 || eqb b 34 || eqb b 39 || eqb b 41 || eqb b 93)

steady_round : (b : ℕ) (rest : Bytes) → is_steady b ≡ true → IsKept (Round ∷ []) (b ∷ []) rest
steady_round b rest h =
    let d = apart is_steady b in
    record { kept = rw (d 93 h refl) refl; ends = rw (d 92 h refl, d 58 h refl, d 40 h refl, d 91 h refl, d 34 h refl, d 39 h refl, d 41 h refl, d 93 h refl) refl }

steady_raw : (b : ℕ) (rest : Bytes) → is_steady b ≡ true → IsKept (Raw ∷ []) (b ∷ []) rest
steady_raw b rest h = let d = apart is_steady b in record { kept = refl; ends = rw (d 92 h refl, d 40 h refl, d 41 h refl) refl }

pub steady_rounds : (text rest : Bytes) → list_all is_steady text ≡ true → IsKept (Round ∷ []) text rest
steady_rounds [] rest h = IsKept-nil (Round ∷ []) rest
steady_rounds (b ∷ text) rest h =
    let p = and_parts (is_steady b) (list_all is_steady text) h in
    IsKept-append (Round ∷ []) (b ∷ []) text rest (steady_round b (text ++ rest) p.0) (steady_rounds text rest p.1)

pub steady_raws : (text rest : Bytes) → list_all is_steady text ≡ true → IsKept (Raw ∷ []) text rest
steady_raws [] rest h = IsKept-nil (Raw ∷ []) rest
steady_raws (b ∷ text) rest h =
    let p = and_parts (is_steady b) (list_all is_steady text) h in
    IsKept-append (Raw ∷ []) (b ∷ []) text rest (steady_raw b (text ++ rest) p.0) (steady_raws text rest p.1)

nth_steady : (text : Bytes) → list_all is_nth_byte text ≡ true → list_all is_steady text ≡ true
nth_steady [] h = refl
nth_steady (b ∷ text) h =
    let p = and_parts (is_nth_byte b) (list_all is_nth_byte text) h in
    and_from (is_steady b) (list_all is_steady text) (implied is_nth_byte is_steady b refl (nth_byte_low b p.0) p.0) (nth_steady text p.1)

pub nth_round : (a b : ℤ) (rest : Bytes) → IsSmall a → IsSmall b → IsKept (Round ∷ []) (nth_argument a b) rest
nth_round a b rest h k = steady_rounds (nth_argument a b) rest (nth_steady (nth_argument a b) (nth_bytes a b h k))

pub decimal_round : (n : ℕ) (rest : Bytes) → n < 2 ^ 64 → IsKept (Round ∷ []) (decimal n) rest
decimal_round n rest h = steady_rounds (decimal n) rest (nth_steady (decimal n) (digit_nth (decimal n) (is_decimal n h).digits))

pub decimal_raw : (n : ℕ) (rest : Bytes) → n < 2 ^ 64 → IsKept (Raw ∷ []) (decimal n) rest
decimal_raw n rest h = steady_raws (decimal n) rest (nth_steady (decimal n) (digit_nth (decimal n) (is_decimal n h).digits))
