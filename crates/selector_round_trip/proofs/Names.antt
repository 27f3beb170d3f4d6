-- The canonical text of a name is read as that name, whatever follows that is no part of it; it leaves nothing open and is cut
-- nowhere; and what is read as a name has such a text.
use Rattle.std.proofs.Common.{◌≡◌, ℕ, zero, suc, ◌+◌, ◌-◌, ◌/◌, ◌%◌, ◌<◌, ◌≤◌, Bool, true, false, not, eqb, ltb, leb, ◌&&◌, ◌||◌, [], ◌∷◌, ◌++◌, Option, Some, None, if◌then◌else◌, refl, sym, ap, ap₂, subst, ◌∙◌, append_assoc, arith, inl, inr}
use Rattle.std.specs.Prelude.{encode_utf8, is_some, take}
use Rattle.std.specs.Char.{is_ascii_digit, is_ascii_hexdigit, digit_char, to_ascii_lowercase}
use Rattle.std.specs.List.{AllByRecursion}
use Rattle.std.specs.Str.{str_to_ascii_lowercase}
use Rattle.std.proofs.lemmas.Str.{encode_ascii}
use Rattle.std.proofs.lemmas.Str.Ascii.{lowercase-lowercase, lowercase_is}
use Rattle.std.proofs.lemmas.Bool.{cases_lt, cases_Bool, or_parts, lt-leb, le-ltb, ne_eqb, eqb-true, eqb-false, and_parts, both_ways, not-true, not-false}
use Rattle.selector_tree.specs.declared.letters.Spelling.{Spelling}
use Rattle.selector_tree.specs.declared.letters.Spelling.TheVariants.{Name}
use Rattle.selector_tree.specs.Letters.{is_digit, is_name_byte, hexadecimal, numbered, is_numbered, is_marked, letter, letters, begun, behind_dash, name_text}
use Rattle.selector_tree.proofs.Spelled.{encode-high}
use Rattle.selector_spelling.specs.Bytes.{Bytes, front, is_empty, number, minus, backslash}
use Rattle.selector_spelling.specs.Names.{Letter, Taken, onto, joined, run, name, character, escaped, letter_length, begins_name, begins_behind_minus, begins_letter}
use Rattle.selector_spelling.specs.Names as spelled
use Rattle.selector_round_trip.proofs.Classes.{below_128, not_hex, control_low, digit_low}

-- ---- one byte

run-plain : (b : ℕ) (rest : Bytes) → is_name_byte b ≡ true → run zero (b ∷ rest) ≡ onto (b ∷ []) (run zero rest)
run-plain b rest h = rw h refl

run-escaped : (b : ℕ) (rest : Bytes) → is_ascii_hexdigit b ≡ false → eqb b 0 ≡ false → run zero (backslash ∷ b ∷ rest) ≡ onto (b ∷ []) (run zero rest)
run-escaped b rest h k = rw (k, h) refl

-- U+0000 is no digit
hex_some : (d : ℕ) → is_ascii_hexdigit d ≡ true → eqb d 0 ≡ false
hex_some d h = ne_eqb d 0 (λ e. both_ways (is_ascii_hexdigit d) (ap is_ascii_hexdigit e) h)

run-one : (d : ℕ) (rest : Bytes) → is_ascii_hexdigit d ≡ true → run zero (backslash ∷ d ∷ 32 ∷ rest) ≡ onto (character (number 16 (d ∷ []))) (run zero rest)
run-one d rest h = rw (hex_some d h, h) refl

run-two : (d e : ℕ) (rest : Bytes) → is_ascii_hexdigit d ≡ true → is_ascii_hexdigit e ≡ true → run zero (backslash ∷ d ∷ e ∷ 32 ∷ rest) ≡ onto (character (number 16 (d ∷ e ∷ []))) (run zero rest)
run-two d e rest h k = rw (hex_some d h, h, k) refl

pub character-ascii : (b : ℕ) → 0 < b → b < 128 → character b ≡ b ∷ []
character-ascii b some low =
    let x : eqb b 0 ≡ false = ne_eqb b 0 (λ e. omega arith) in
    let y : leb 0xD800 b ≡ false = lt-leb 0xD800 b (omega arith) in
    let z : ltb 0x10FFFF b ≡ false = le-ltb 0x10FFFF b (omega arith) in
    rw (x, y, z) (encode_ascii b low)

pub numbered-one : (b : ℕ) → ltb b 16 ≡ true → numbered b ≡ backslash ∷ digit_char b ∷ 32 ∷ []
numbered-one b h = rw h refl

pub numbered-two : (b : ℕ) → ltb b 16 ≡ false → numbered b ≡ backslash ∷ digit_char (b / 16) ∷ digit_char (b % 16) ∷ 32 ∷ []
numbered-two b h = rw h refl

-- the digits of a byte below 128 are digits, and spell it
abbrev spelled_by_one : ℕ → Bool
spelled_by_one b = not (ltb b 16) || (is_ascii_hexdigit (digit_char b) && eqb (number 16 (digit_char b ∷ [])) b)

abbrev spelled_by_two : ℕ → Bool
spelled_by_two b = ltb b 16 || (is_ascii_hexdigit (digit_char (b / 16)) && is_ascii_hexdigit (digit_char (b % 16)) && eqb (number 16 (digit_char (b / 16) ∷ digit_char (b % 16) ∷ [])) b)

pub by_one : (b : ℕ) → b < 128 → ltb b 16 ≡ true → (is_ascii_hexdigit (digit_char b) ≡ true) × (number 16 (digit_char b ∷ []) ≡ b)
by_one b low h =
    let all : spelled_by_one b ≡ true = below_128 spelled_by_one b low refl in
    let x = is_ascii_hexdigit (digit_char b) in
    let y = eqb (number 16 (digit_char b ∷ [])) b in
    let rest : (x && y) ≡ true = ap (λ (c : Bool). not c || (x && y)) (sym h) ∙ all in
    let parts = and_parts x y rest in
    (parts.0, eqb-true _ _ parts.1)

pub by_two : (b : ℕ) → b < 128 → ltb b 16 ≡ false → (is_ascii_hexdigit (digit_char (b / 16)) ≡ true) × (is_ascii_hexdigit (digit_char (b % 16)) ≡ true) × (number 16 (digit_char (b / 16) ∷ digit_char (b % 16) ∷ []) ≡ b)
by_two b low h =
    let all : spelled_by_two b ≡ true = below_128 spelled_by_two b low refl in
    let x = is_ascii_hexdigit (digit_char (b / 16)) in
    let y = is_ascii_hexdigit (digit_char (b % 16)) in
    let z = eqb (number 16 (digit_char (b / 16) ∷ digit_char (b % 16) ∷ [])) b in
    let rest : (x && y && z) ≡ true = ap (λ (c : Bool). c || (x && y && z)) (sym h) ∙ all in
    let p = and_parts (x && y) z rest in
    let q = and_parts x y p.0 in
    (q.0, q.1, eqb-true _ _ p.1)

run-numbered : (b : ℕ) (rest : Bytes) → 0 < b → b < 128 → run zero (numbered b ++ rest) ≡ onto (b ∷ []) (run zero rest)
run-numbered b rest some low =
    elim (cases_Bool (ltb b 16)) [
      | inl one ↦ (
          let d = by_one b low one in
          ap (λ (v : Bytes). run zero (v ++ rest)) (numbered-one b one) ∙ (run-one (digit_char b) rest d.0 ∙ ap (λ (n : ℕ). onto (character n) (run zero rest)) d.1 ∙ ap (λ (v : Bytes). onto v (run zero rest)) (character-ascii b some low)))
      | inr two ↦ (
          let d = by_two b low two in
          ap (λ (v : Bytes). run zero (v ++ rest)) (numbered-two b two) ∙ (run-two (digit_char (b / 16)) (digit_char (b % 16)) rest d.0 d.1 ∙ ap (λ (n : ℕ). onto (character n) (run zero rest)) d.2 ∙ ap (λ (v : Bytes). onto v (run zero rest)) (character-ascii b some low)))
    ]

-- a letter prints by its number, behind a `\`, or as it is
pub letter_cases : (s : Spelling) (P : Bytes → Type 0) (b : ℕ) → (is_numbered s b ≡ true → P (numbered b)) → (is_numbered s b ≡ false → is_marked s b ≡ true → P (backslash ∷ b ∷ []))
    → (is_numbered s b ≡ false → is_marked s b ≡ false → P (b ∷ [])) → P (letter s b)
letter_cases s P b by_number marked plain =
    elim (cases_Bool (is_numbered s b)) [
      | inl h ↦ (let e : letter s b ≡ numbered b = rw h refl in subst P (sym e) (by_number h))
      | inr h ↦ elim (cases_Bool (is_marked s b)) [
        | inl k ↦ (let e : letter s b ≡ backslash ∷ b ∷ [] = rw (h, k) refl in subst P (sym e) (marked h k))
        | inr k ↦ (let e : letter s b ≡ b ∷ [] = rw (h, k) refl in subst P (sym e) (plain h k))
      ]
    ]

-- in a name
name_cases : (P : Bytes → Type 0) (b : ℕ) → (b < 128 → P (numbered b)) → (is_ascii_hexdigit b ≡ false → P (backslash ∷ b ∷ [])) → (is_name_byte b ≡ true → P (b ∷ [])) → P (letter Name b)
name_cases P b by_number marked plain =
    letter_cases Name P b (λ h. by_number (control_low b h)) (λ h k. marked (not_hex b (not-true (is_name_byte b) k))) (λ h k. plain (not-false (is_name_byte b) k))

-- the first letter of a name
abbrev first_letter : ℕ → Bytes
first_letter b = if is_digit b then numbered b else letter Name b

first_cases : (P : Bytes → Type 0) (b : ℕ) → (b < 128 → P (numbered b)) → (is_ascii_hexdigit b ≡ false → P (backslash ∷ b ∷ [])) → (is_name_byte b ≡ true → is_digit b ≡ false → P (b ∷ [])) → P (first_letter b)
first_cases P b by_number marked plain =
    elim (cases_Bool (is_digit b)) [
      | inl digit ↦ subst P (ap (λ (c : Bool). if c then numbered b else letter Name b) (sym digit)) (by_number (digit_low b digit))
      | inr other ↦ subst P (ap (λ (c : Bool). if c then numbered b else letter Name b) (sym other)) (name_cases P b by_number marked (λ h. plain h other))
    ]

-- a byte of a name is read as that byte
run-letter : (b : ℕ) (rest : Bytes) → 0 < b → run zero (letter Name b ++ rest) ≡ onto (b ∷ []) (run zero rest)
run-letter b rest some =
    name_cases (λ v. run zero (v ++ rest) ≡ onto (b ∷ []) (run zero rest)) b (run-numbered b rest some) (λ h. run-escaped b rest h (ne_eqb b 0 (λ e. omega arith))) (run-plain b rest)

-- the text of a name that doesn't begin with a minus
name-begun : (b : ℕ) (text : Bytes) → eqb b 45 ≡ false → name_text (b ∷ text) ≡ begun (b ∷ text)
name-begun b text h = ap (λ (c : Bool). if c then behind_dash text else begun (b ∷ text)) h

name-dash : (b : ℕ) (text : Bytes) → eqb b 45 ≡ true → name_text (b ∷ text) ≡ behind_dash text
name-dash b text h = ap (λ (c : Bool). if c then behind_dash text else begun (b ∷ text)) h

run-first : (b : ℕ) (rest : Bytes) → 0 < b → run zero (first_letter b ++ rest) ≡ onto (b ∷ []) (run zero rest)
run-first b rest some =
    first_cases (λ v. run zero (v ++ rest) ≡ onto (b ∷ []) (run zero rest)) b (run-numbered b rest some) (λ h. run-escaped b rest h (ne_eqb b 0 (λ e. omega arith))) (λ h k. run-plain b rest h)

-- ---- a name

-- no byte of a name is 0
abbrev pub IsName : Bytes → Type 0
IsName [] = Unit {0}
IsName (b ∷ text) = (0 < b) × IsName text

-- no part of a name stands at the front
pub record Ends (rest : Bytes) : Type 0 where
  pub ends : run zero rest ≡ record { value = []; rest = rest }

letters_again : (text rest : Bytes) → IsName text → Ends rest → run zero (letters Name text ++ rest) ≡ record { value = text; rest = rest }
letters_again [] rest fits ends = ends.ends
letters_again (b ∷ text) rest fits ends =
    ap (run zero) (append_assoc (letter Name b) (letters Name text) rest)
    ∙ run-letter b (letters Name text ++ rest) fits.0
    ∙ ap (onto (b ∷ [])) (letters_again text rest fits.1 ends)

begun_again : (b : ℕ) (text rest : Bytes) → IsName (b ∷ text) → Ends rest → run zero (begun (b ∷ text) ++ rest) ≡ record { value = b ∷ text; rest = rest }
begun_again b text rest fits ends =
    ap (run zero) (append_assoc (first_letter b) (letters Name text) rest)
    ∙ run-first b (letters Name text ++ rest) fits.0
    ∙ ap (onto (b ∷ [])) (letters_again text rest fits.1 ends)

minus_again : (text rest : Bytes) → IsName text → Ends rest → run zero (behind_dash text ++ rest) ≡ record { value = minus ∷ text; rest = rest }
minus_again [] rest fits ends = ap (onto (minus ∷ [])) ends.ends
minus_again (b ∷ text) rest fits ends = ap (onto (minus ∷ [])) (begun_again b text rest fits ends)

-- a first byte begins a name, alone and behind `-`
escape_some : (d : ℕ) (rest : Bytes) → 0 < d → begins_behind_minus (backslash ∷ d ∷ rest) ≡ true
escape_some d rest some =
    let k : eqb d 0 ≡ false = ne_eqb d 0 (λ e. omega arith) in
    elim (cases_Bool (is_ascii_hexdigit d)) [ inl h ↦ rw (k, h) refl | inr h ↦ rw (k, h) refl ]

digit_char_some : (d : ℕ) → 0 < digit_char d
digit_char_some d = elim (cases_Bool (ltb d 10)) [ inl h ↦ rw h (omega arith) | inr h ↦ rw h (omega arith) ]

behind-numbered : (b : ℕ) (rest : Bytes) → begins_behind_minus (numbered b ++ rest) ≡ true
behind-numbered b rest =
    elim (cases_Bool (ltb b 16)) [
      | inl one ↦ ap (λ (v : Bytes). begins_behind_minus (v ++ rest)) (numbered-one b one) ∙ escape_some (digit_char b) (32 ∷ rest) (digit_char_some b)
      | inr two ↦ ap (λ (v : Bytes). begins_behind_minus (v ++ rest)) (numbered-two b two) ∙ escape_some (digit_char (b / 16)) (digit_char (b % 16) ∷ 32 ∷ rest) (digit_char_some (b / 16))
    ]

behind-plain : (b : ℕ) (rest : Bytes) → is_name_byte b ≡ true → is_digit b ≡ false → begins_behind_minus (b ∷ rest) ≡ true
behind-plain b rest h k = rw (h, k) refl

behind-first : (b : ℕ) (rest : Bytes) → 0 < b → begins_behind_minus (first_letter b ++ rest) ≡ true
behind-first b rest some =
    first_cases (λ v. begins_behind_minus (v ++ rest) ≡ true) b (λ low. behind-numbered b rest) (λ h. escape_some b rest some) (behind-plain b rest)

-- the first byte that a name prints: a name byte but a digit, or a backslash
abbrev pub begins_text : ℕ → Bool
begins_text c = (is_name_byte c && not (is_digit c)) || eqb c backslash

-- the text of a name, by its first byte
pub record Printed (text : Bytes) : Type 0 where
  pub first : ℕ
  pub others : Bytes
  pub is : text ≡ first ∷ others
  pub begins : begins_text first ≡ true

printed-numbered : (b : ℕ) (rest : Bytes) → Printed (numbered b ++ rest)
printed-numbered b rest = record { first = backslash; others = hexadecimal b ++ (32 ∷ rest); is = ap (λ (v : Bytes). backslash ∷ v) (append_assoc (hexadecimal b) (32 ∷ []) rest); begins = refl }

printed-begun : (b : ℕ) (text : Bytes) → Printed (begun (b ∷ text))
printed-begun b text =
    let rest = letters Name text in
    first_cases (λ v. Printed (v ++ rest)) b (λ low. printed-numbered b rest) (λ h. record { first = backslash; others = b ∷ rest; is = refl; begins = refl })
    (λ h k. record { first = b; others = rest; is = refl; begins = rw (h, k) refl })

printed-dash : (text : Bytes) → Printed (behind_dash text)
printed-dash [] = record { first = backslash; others = 45 ∷ []; is = refl; begins = refl }
printed-dash (b ∷ text) = record { first = 45; others = begun (b ∷ text); is = refl; begins = refl }

pub printed : (b : ℕ) (text : Bytes) → Printed (name_text (b ∷ text))
printed b text =
    elim (cases_Bool (eqb b 45)) [
      | inl is_minus ↦ subst Printed (sym (name-dash b text is_minus)) (printed-dash text)
      | inr other ↦ subst Printed (sym (name-begun b text other)) (printed-begun b text)
    ]

-- the first byte of a letter is a minus only where the letter is
abbrev not_minus_first : Bytes → Bool
not_minus_first [] = true
not_minus_first (b ∷ text) = not (eqb b 45)

first_not_minus : (b : ℕ) (rest : Bytes) → eqb b 45 ≡ false → not_minus_first (first_letter b ++ rest) ≡ true
first_not_minus b rest other = first_cases (λ v. not_minus_first (v ++ rest) ≡ true) b (λ low. refl) (λ h. refl) (λ h k. ap not other)

not_minus : (text : Bytes) → not_minus_first text ≡ true → begins_name text ≡ begins_behind_minus text
not_minus [] h = refl
not_minus (b ∷ text) h = let e : eqb b 45 ≡ false = not-true (eqb b 45) h in rw e refl

begins-dash : (text rest : Bytes) → IsName text → begins_name (behind_dash text ++ rest) ≡ true
begins-dash [] rest fits = refl
begins-dash (b ∷ text) rest fits =
    ap begins_behind_minus (append_assoc (first_letter b) (letters Name text) rest) ∙ behind-first b (letters Name text ++ rest) fits.0

abbrev taken : Bytes → Bytes → Taken
taken value rest = record { value = value; rest = rest }

-- a printed text begins a name, unless by a minus
begins-begun : (b : ℕ) (text rest : Bytes) → 0 < b → eqb b 45 ≡ false → begins_name (begun (b ∷ text) ++ rest) ≡ true
begins-begun b text rest some other =
    let t = letters Name text ++ rest in
    let e : begun (b ∷ text) ++ rest ≡ first_letter b ++ t = append_assoc (first_letter b) (letters Name text) rest in
    ap begins_name e ∙ not_minus (first_letter b ++ t) (first_not_minus b t other) ∙ behind-first b t some

named : (text : Bytes) (t : Taken) → begins_name text ≡ true → run zero text ≡ t → name text ≡ Some t
named text t h r = rw h (ap (λ (u : Taken). Some u) r)

-- the canonical text of a name is read as that name, whatever follows that is no part of it
pub name_again : (b : ℕ) (text rest : Bytes) → IsName (b ∷ text) → Ends rest → name (name_text (b ∷ text) ++ rest) ≡ Some (record { value = b ∷ text; rest = rest })
name_again b text rest fits ends =
    elim (cases_Bool (eqb b 45)) [
      | inl is_minus ↦ (
          let e : b ≡ minus = eqb-true b 45 is_minus in
          let f : name_text (b ∷ text) ≡ behind_dash text = name-dash b text is_minus in
          let t : Taken = record { value = b ∷ text; rest = rest } in
          named (name_text (b ∷ text) ++ rest) t
          (ap (λ (v : Bytes). begins_name (v ++ rest)) f ∙ begins-dash text rest fits.1)
          (ap (λ (v : Bytes). run zero (v ++ rest)) f ∙ minus_again text rest fits.1 ends ∙ ap (λ (c : ℕ). taken (c ∷ text) rest) (sym e)))
      | inr other ↦ (
          let f : name_text (b ∷ text) ≡ begun (b ∷ text) = name-begun b text other in
          let t : Taken = record { value = b ∷ text; rest = rest } in
          named (name_text (b ∷ text) ++ rest) t
          (ap (λ (v : Bytes). begins_name (v ++ rest)) f ∙ begins-begun b text rest fits.0 other)
          (ap (λ (v : Bytes). run zero (v ++ rest)) f ∙ begun_again b text rest fits ends))
    ]

-- ---- what the text of a name is made of, for any scan that passes over its letters

pub record Passes (P : Bytes → Bytes → Type 0) : Type 0 where
  pub nil : (rest : Bytes) → P [] rest
  pub append : (a b rest : Bytes) → P a (b ++ rest) → P b rest → P (a ++ b) rest
  -- an escape by its character, and by one digit or two
  pub escaped : (b : ℕ) (rest : Bytes) → is_ascii_hexdigit b ≡ false → P (backslash ∷ b ∷ []) rest
  pub one : (d : ℕ) (rest : Bytes) → is_ascii_hexdigit d ≡ true → P (backslash ∷ d ∷ 32 ∷ []) rest
  pub two : (d e : ℕ) (rest : Bytes) → is_ascii_hexdigit d ≡ true → is_ascii_hexdigit e ≡ true → P (backslash ∷ d ∷ e ∷ 32 ∷ []) rest

module _ (P : Bytes → Bytes → Type 0) (passes : Passes P) where
  pub numbered_passes : (b : ℕ) (rest : Bytes) → b < 128 → P (numbered b) rest
  numbered_passes b rest low =
      elim (cases_Bool (ltb b 16)) [
        | inl one ↦ (let d = by_one b low one in subst (λ (v : Bytes). P v rest) (sym (numbered-one b one)) (passes.one (digit_char b) rest d.0))
        | inr two ↦ (let d = by_two b low two in subst (λ (v : Bytes). P v rest) (sym (numbered-two b two)) (passes.two (digit_char (b / 16)) (digit_char (b % 16)) rest d.0 d.1))
      ]

  module _ (plain : (b : ℕ) (rest : Bytes) → is_name_byte b ≡ true → P (b ∷ []) rest) where
    letter_passes : (b : ℕ) (rest : Bytes) → P (letter Name b) rest
    letter_passes b rest = name_cases (λ v. P v rest) b (numbered_passes b rest) (passes.escaped b rest) (plain b rest)

    letters_pass : (text rest : Bytes) → P (letters Name text) rest
    letters_pass [] rest = passes.nil rest
    letters_pass (b ∷ text) rest = passes.append (letter Name b) (letters Name text) rest (letter_passes b (letters Name text ++ rest)) (letters_pass text rest)

    begun_passes : (b : ℕ) (text rest : Bytes) → P (begun (b ∷ text)) rest
    begun_passes b text rest =
        let more = letters Name text ++ rest in
        passes.append (first_letter b) (letters Name text) rest (first_cases (λ v. P v more) b (numbered_passes b more) (passes.escaped b more) (λ h k. plain b more h)) (letters_pass text rest)

    dash_passes : (text rest : Bytes) → P (behind_dash text) rest
    dash_passes [] rest = passes.escaped 45 rest refl
    dash_passes (b ∷ text) rest = passes.append (45 ∷ []) (begun (b ∷ text)) rest (plain 45 (begun (b ∷ text) ++ rest) refl) (begun_passes b text rest)

    -- a scan that passes over the letters of a name passes over its text
    pub name_passes : (text rest : Bytes) → P (name_text text) rest
    name_passes [] rest = passes.nil rest
    name_passes (b ∷ text) rest =
        elim (cases_Bool (eqb b 45)) [
          | inl is_minus ↦ subst (λ (v : Bytes). P v rest) (sym (name-dash b text is_minus)) (dash_passes text rest)
          | inr other ↦ subst (λ (v : Bytes). P v rest) (sym (name-begun b text other)) (begun_passes b text rest)
        ]

-- ---- what is read as a name

pub IsName-append : (a b : Bytes) → IsName a → IsName b → IsName (a ++ b)
IsName-append [] b x y = y
IsName-append (c ∷ a) b x y = (x.0, IsName-append a b x.1 y)

high_name : (bytes : Bytes) → AllByRecursion (λ b. 128 ≤ b) bytes → IsName bytes
high_name [] h = tt
high_name (b ∷ bytes) h = (let k : 128 ≤ b = h.0 in omega arith, high_name bytes h.1)

-- a text that stands for something: no byte is 0, and there is one
pub record IsRead (text : Bytes) : Type 0 where
  pub name : IsName text
  pub some : is_empty text ≡ false

encoded : (c : ℕ) → 0 < c → IsRead (encode_utf8 c)
encoded c some =
    elim (cases_lt c 128) [
      | inl low ↦ subst IsRead (sym (encode_ascii c low)) (record { name = (some, tt); some = refl })
      | inr high ↦ (
          let e = encode-high c high in
          let f : 0 < e.first = (let k = e.first_high in omega arith) in
          subst IsRead (sym e.is) (record { name = (f, high_name e.tail e.high); some = refl }))
    ]

cond_read : (c : Bool) (x y : Bytes) → (c ≡ true → IsRead x) → (c ≡ false → IsRead y) → IsRead (if c then x else y)
cond_read true x y h g = h refl
cond_read false x y h g = g refl

character_read : (n : ℕ) → IsRead (character n)
character_read n =
    cond_read (eqb n 0 || (leb 0xD800 n && leb n 0xDFFF) || ltb 0x10FFFF n) (encode_utf8 0xFFFD) (encode_utf8 n) (λ h. encoded 0xFFFD (omega arith))
    (λ h. (
    let p = or_parts (eqb n 0 || (leb 0xD800 n && leb n 0xDFFF)) (ltb 0x10FFFF n) h in
    let q = or_parts (eqb n 0) (leb 0xD800 n && leb n 0xDFFF) p.0 in
    let r = eqb-false n 0 q.0 in
    encoded n (omega (arith, r))))

-- what each letter stands for is read
abbrev OnLetter : Option Letter → Type 0
OnLetter None = Unit {0}
OnLetter (Some l) = IsRead l.value

on_cond : (c : Bool) (x y : Option Letter) → (c ≡ true → OnLetter x) → (c ≡ false → OnLetter y) → OnLetter (if c then x else y)
on_cond true x y h g = h refl
on_cond false x y h g = g refl

one_read : (b : ℕ) → 0 < b → IsRead (b ∷ [])
one_read b some = record { name = (some, tt); some = refl }

some_byte : (b : ℕ) → eqb b 0 ≡ false → 0 < b
some_byte b h = let r = eqb-false b 0 h in omega (arith, r)

escaped_read : (text : Bytes) → OnLetter (escaped is_name_byte text)
escaped_read [] = tt
escaped_read (b ∷ text) =
    on_cond (eqb b 0) _ _ (λ k. tt)
    (λ k. on_cond (is_ascii_hexdigit b) _ _ (λ h. character_read (number 16 (front is_ascii_hexdigit (take 6 (b ∷ text)))))
    (λ h. one_read b (some_byte b k)))

behind_read : (o : Option Letter) → OnLetter o → OnLetter (spelled.behind_backslash o)
behind_read None h = tt
behind_read (Some l) h = h

name_byte_some : (b : ℕ) → is_name_byte b ≡ true → 0 < b
name_byte_some b h = elim (cases_lt 0 b) [ inl some ↦ some | inr none ↦ (let e : b ≡ 0 = omega arith in absurd (both_ways (is_name_byte b) (ap is_name_byte e) h)) ]

letter_read : (b : ℕ) (text : Bytes) → OnLetter (spelled.letter is_name_byte b text)
letter_read b text =
    on_cond (is_name_byte b) _ _ (λ h. one_read b (name_byte_some b h))
    (λ h. on_cond (eqb b backslash) _ _ (λ k. behind_read (escaped is_name_byte text) (escaped_read text)) (λ k. tt))

joined_name : (o : Option Letter) (text : Bytes) (more : Taken) → OnLetter o → IsName more.value → IsName (joined o text more).value
joined_name None text more h g = tt
joined_name (Some l) text more h g = IsName-append l.value more.value h.name g

pub run_name : (k : ℕ) (text : Bytes) → IsName (run k text).value
run_name k [] = tt
run_name (suc k) (b ∷ text) = run_name k text
run_name zero (b ∷ text) =
    let l = spelled.letter is_name_byte b text in
    joined_name l (b ∷ text) (run (letter_length l - 1) text) (letter_read b text) (run_name (letter_length l - 1) text)

append_some : (a b : Bytes) → is_empty a ≡ false → is_empty (a ++ b) ≡ false
append_some [] b h = absurd (both_ways true h refl)
append_some (c ∷ a) b h = refl

joined_some : (o : Option Letter) (text : Bytes) (more : Taken) → OnLetter o → is_some o ≡ true → is_empty (joined o text more).value ≡ false
joined_some None text more h g = absurd (both_ways false refl g)
joined_some (Some l) text more h g = append_some l.value more.value h.some

begins_some : (text : Bytes) → begins_name text ≡ true → is_empty (run zero text).value ≡ false
begins_some [] h = absurd (both_ways false refl h)
begins_some (b ∷ text) h =
    let l = spelled.letter is_name_byte b text in
    joined_some l (b ∷ text) (run (letter_length l - 1) text) (letter_read b text) (
    elim (cases_Bool (eqb b 45)) [
      | inl is_minus ↦ (let e : b ≡ 45 = eqb-true b 45 is_minus in ap (λ (c : ℕ). is_some (spelled.letter is_name_byte c text)) e)
      | inr other ↦ (
          let k : begins_letter b text ≡ true = sym (ap (λ (c : Bool). if c then begins_behind_minus text else begins_letter b text) other) ∙ h in
          (and_parts (not (is_ascii_digit b)) (is_some l) k).1)
    ])

pub name_read : (text : Bytes) (t : Taken) → name text ≡ Some t → IsRead t.value
name_read text t h =
    elim (cases_Bool (begins_name text)) [
      | inl begins ↦ (
          let e : name text ≡ Some (run zero text) = ap (λ (c : Bool). if c then Some (run zero text) else None) begins in
          let f : run zero text ≡ t = cc in
          subst (λ (u : Taken). IsRead u.value) f (record { name = run_name zero text; some = begins_some text begins }))
      | inr none ↦ (
          let e : name text ≡ None = ap (λ (c : Bool). if c then Some (run zero text) else None) none in
          absurd (let w : Some t ≡ None = sym h ∙ e in cc))
    ]

-- ---- lower case

lower_some : (b : ℕ) → 0 < b → 0 < to_ascii_lowercase b
lower_some b h =
    let l = lowercase_is b in
    elim (cases_lt b 65) [
      | inl low ↦ (let e : to_ascii_lowercase b ≡ b = l.1 low in omega arith)
      | inr more ↦ elim (cases_lt 90 b) [
        | inl high ↦ (let e : to_ascii_lowercase b ≡ b = l.2 high in omega arith)
        | inr upper ↦ (let e : to_ascii_lowercase b ≡ b + 32 = l.0 (more, upper) in omega arith)
      ]
    ]

lower_name : (text : Bytes) → IsName text → IsName (str_to_ascii_lowercase text)
lower_name [] h = tt
lower_name (b ∷ text) h = (lower_some b h.0, lower_name text h.1)

pub lower_read : (text : Bytes) → IsRead text → IsRead (str_to_ascii_lowercase text)
lower_read [] h = absurd (both_ways true h.some refl)
lower_read (b ∷ text) h = record { name = lower_name (b ∷ text) h.name; some = refl }

pub lower_lower : (text : Bytes) → str_to_ascii_lowercase (str_to_ascii_lowercase text) ≡ str_to_ascii_lowercase text
lower_lower [] = refl
lower_lower (b ∷ text) = ap₂ ◌∷◌ (lowercase-lowercase b) (lower_lower text)

-- the same for what is read
pub read_again : (text rest : Bytes) → IsRead text → Ends rest → name (name_text text ++ rest) ≡ Some (record { value = text; rest = rest })
read_again [] rest h ends = absurd (both_ways true h.some refl)
read_again (b ∷ text) rest h ends = name_again b text rest h.name ends

pub read_printed : (text : Bytes) → IsRead text → Printed (name_text text)
read_printed [] h = absurd (both_ways true h.some refl)
read_printed (b ∷ text) h = printed b text
