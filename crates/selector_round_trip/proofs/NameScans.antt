-- Scans pass over the text of a name and of a string.
use Rattle.std.proofs.Common.{◌≡◌, ℕ, zero, ◌<◌, ◌/◌, ◌%◌, ltb, Bool, true, false, not, eqb, leb, ◌||◌, List, [], ◌∷◌, ◌++◌, Option, Some, None, refl, ap, ◌∙◌, append_assoc, arith, inl, inr}
use Rattle.std.specs.Char.{is_ascii_hexdigit, digit_char}
use Rattle.std.proofs.lemmas.Bool.{cases_Bool, or_cases, or_parts, and_parts, leb-true, eqb-true}
use Rattle.selector_tree.specs.declared.letters.Spelling.TheVariants.{Quoted}
use Rattle.selector_tree.specs.Letters.{is_name_byte, is_within, is_control, numbered, letter, letters, name_text, string_text}
use Rattle.selector_spelling.specs.declared.open.Open.{Open}
use Rattle.selector_spelling.specs.declared.open.Open.TheVariants.{Raw, Square, DoubleQuote}
use Rattle.selector_spelling.specs.Bytes.{Bytes, backslash, is_quote, number}
use Rattle.selector_spelling.specs.Scan.{standing, at_least_one}
use Rattle.selector_spelling.specs.Names.{Taken, onto, quoted, string, character, letter_length}
use Rattle.selector_spelling.specs.Names as spelled
use Rattle.selector_round_trip.proofs.Scanned.{is_cut, over, over-append, is_kept, kept-append, IsClosed, IsClosed-nil, IsClosed-append, IsKept, IsKept-nil, IsKept-append}
use Rattle.selector_round_trip.proofs.Classes.{apart, control_low}
use Rattle.selector_round_trip.proofs.Names.{Passes, name_passes, numbered_passes, numbered-one, numbered-two, by_one, by_two, character-ascii, letter_cases}

-- a byte that no scan takes notice of
abbrev pub is_calm : ℕ → Bool
is_calm b = not (eqb b 92 || eqb b 58 || eqb b 40 || eqb b 91 || is_quote b || eqb b 41 || eqb b 93 || is_cut b)

pub calm_name : (b : ℕ) → is_name_byte b ≡ true → is_calm b ≡ true
calm_name b h =
    let d = apart is_name_byte b in
    rw (d 92 h refl, d 58 h refl, d 40 h refl, d 91 h refl, d 34 h refl, d 39 h refl, d 41 h refl, d 93 h refl, d 44 h refl, d 62 h refl, d 43 h refl, d 126 h refl, d 32 h refl, d 9 h refl, d 12 h refl, d 13 h refl) refl

pub calm_closed : (k b : ℕ) (rest : Bytes) → is_calm b ≡ true → IsClosed k (b ∷ []) rest
calm_closed k b rest h =
    let d = apart is_calm b in
    record {
      sound = rw (d 41 h refl, d 93 h refl, d 58 h refl) refl;
      uncut = rw (d 44 h refl, d 62 h refl, d 43 h refl, d 126 h refl, d 32 h refl, d 9 h refl, d 12 h refl, d 13 h refl) refl;
      ends = rw (d 92 h refl, d 58 h refl, d 40 h refl, d 91 h refl, d 34 h refl, d 39 h refl, d 41 h refl, d 93 h refl) refl;
    }

pub calm_square : (b : ℕ) (rest : Bytes) → is_calm b ≡ true → IsKept (Square ∷ []) (b ∷ []) rest
calm_square b rest h =
    let d = apart is_calm b in
    record { kept = refl; ends = rw (d 92 h refl, d 34 h refl, d 39 h refl, d 93 h refl) refl }

pub calm_raw : (b : ℕ) (rest : Bytes) → eqb b 92 ≡ false → eqb b 40 ≡ false → eqb b 41 ≡ false → IsKept (Raw ∷ []) (b ∷ []) rest
calm_raw b rest x y z = record { kept = refl; ends = rw (x, y, z) refl }

-- behind `\` and a character that is no digit
escape_skips : (b : ℕ) (rest : Bytes) → is_ascii_hexdigit b ≡ false → at_least_one (letter_length (spelled.escape (b ∷ rest))) ≡ 1
escape_skips b rest h = rw h refl

closed_passes : (k : ℕ) → Passes (IsClosed k)
closed_passes k = record {
  nil = IsClosed-nil k;
  append = IsClosed-append k;
  escaped = λ b rest h. record { sound = rw (escape_skips b rest h) refl; uncut = rw (escape_skips b rest h) refl; ends = rw (escape_skips b rest h) refl };
  one = λ d rest h. record { sound = rw h refl; uncut = rw h refl; ends = rw h refl };
  two = λ d e rest h k. record { sound = rw (h, k) refl; uncut = rw (h, k) refl; ends = rw (h, k) refl };
}

square_passes : Passes (IsKept (Square ∷ []))
square_passes = record {
  nil = IsKept-nil (Square ∷ []);
  append = IsKept-append (Square ∷ []);
  escaped = λ b rest h. record { kept = rw (escape_skips b rest h) refl; ends = rw (escape_skips b rest h) refl };
  one = λ d rest h. record { kept = rw h refl; ends = rw h refl };
  two = λ d e rest h k. record { kept = rw (h, k) refl; ends = rw (h, k) refl };
}

quote_passes : Passes (IsKept (DoubleQuote ∷ Square ∷ []))
quote_passes = record {
  nil = IsKept-nil (DoubleQuote ∷ Square ∷ []);
  append = IsKept-append (DoubleQuote ∷ Square ∷ []);
  escaped = λ b rest h. record { kept = rw (escape_skips b rest h) refl; ends = rw (escape_skips b rest h) refl };
  one = λ d rest h. record { kept = rw h refl; ends = rw h refl };
  two = λ d e rest h k. record { kept = rw (h, k) refl; ends = rw (h, k) refl };
}

pub raw_escaped : (b : ℕ) (rest : Bytes) → is_ascii_hexdigit b ≡ false → IsKept (Raw ∷ []) (backslash ∷ b ∷ []) rest
raw_escaped b rest h = record { kept = rw (escape_skips b rest h) refl; ends = rw (escape_skips b rest h) refl }

-- the text of a name is cut nowhere, and leaves nothing open
pub name_closed : (k : ℕ) (text rest : Bytes) → IsClosed k (name_text text) rest
name_closed k = name_passes (IsClosed k) (closed_passes k) (λ b rest h. calm_closed k b rest (calm_name b h))

-- so in an attribute
pub name_square : (text rest : Bytes) → IsKept (Square ∷ []) (name_text text) rest
name_square = name_passes (IsKept (Square ∷ [])) square_passes (λ b rest h. calm_square b rest (calm_name b h))

-- ---- strings

is_marked_byte : (b : ℕ) → (eqb b 34 || eqb b 92) ≡ true → is_ascii_hexdigit b ≡ false
is_marked_byte b h =
    elim (or_cases (eqb b 34) (eqb b 92) h) [
      | inl is ↦ ap is_ascii_hexdigit (eqb-true b 34 is)
      | inr is ↦ ap is_ascii_hexdigit (eqb-true b 92 is)
    ]

letter_quoted : (b : ℕ) (rest : Bytes) → IsKept (DoubleQuote ∷ Square ∷ []) (letter Quoted b) rest
letter_quoted b rest =
    let stack : List Open = DoubleQuote ∷ Square ∷ [] in
    letter_cases Quoted (λ v. IsKept stack v rest) b (λ h. numbered_passes (IsKept stack) quote_passes b rest (control_low b h)) (λ h k. quote_passes.escaped b rest (is_marked_byte b k))
    (λ h k. (let p = or_parts (eqb b 34) (eqb b 92) k in record { kept = refl; ends = rw (p.1, p.0) refl }))

letters_quoted : (text rest : Bytes) → IsKept (DoubleQuote ∷ Square ∷ []) (letters Quoted text) rest
letters_quoted [] rest = IsKept-nil (DoubleQuote ∷ Square ∷ []) rest
letters_quoted (b ∷ text) rest = IsKept-append (DoubleQuote ∷ Square ∷ []) (letter Quoted b) (letters Quoted text) rest (letter_quoted b (letters Quoted text ++ rest)) (letters_quoted text rest)

-- a string in an attribute is left closed
pub string_square : (text rest : Bytes) → IsKept (Square ∷ []) (string_text text) rest
string_square text rest =
    let inner = letters_quoted text (34 ∷ rest) in
    let stack : List Open = DoubleQuote ∷ Square ∷ [] in
    record {
      kept = kept-append (standing stack) (letters Quoted text) (34 ∷ []) rest inner.kept (ap (λ s. is_kept s (34 ∷ []) rest) inner.ends);
      ends = over-append (standing stack) (letters Quoted text) (34 ∷ []) rest ∙ ap (λ s. over s (34 ∷ []) rest) inner.ends;
    }

-- the text of a string is read as that string
abbrev with_byte : ℕ → Option Taken → Option Taken
with_byte b None = None
with_byte b (Some t) = Some (onto (b ∷ []) t)

quoted_as : (b n : ℕ) (o : Option Taken) → quoted (Some (record { value = b ∷ []; length = n })) o ≡ with_byte b o
quoted_as b n None = refl
quoted_as b n (Some t) = refl

string-plain : (b : ℕ) (rest : Bytes) → eqb b 34 ≡ false → eqb b 92 ≡ false → string 34 zero (b ∷ rest) ≡ with_byte b (string 34 zero rest)
string-plain b rest x y = rw (x, y) (quoted_as b 1 (string 34 zero rest))

string-escaped : (b : ℕ) (rest : Bytes) → is_ascii_hexdigit b ≡ false → string 34 zero (backslash ∷ b ∷ rest) ≡ with_byte b (string 34 zero rest)
string-escaped b rest h = rw h (quoted_as b 2 (string 34 zero rest))

string-one : (d : ℕ) (rest : Bytes) → is_ascii_hexdigit d ≡ true → string 34 zero (backslash ∷ d ∷ 32 ∷ rest) ≡ quoted (Some (record { value = character (number 16 (d ∷ [])); length = 3 })) (string 34 zero rest)
string-one d rest h = rw h refl

string-two : (d e : ℕ) (rest : Bytes) → is_ascii_hexdigit d ≡ true → is_ascii_hexdigit e ≡ true → string 34 zero (backslash ∷ d ∷ e ∷ 32 ∷ rest) ≡ quoted (Some (record { value = character (number 16 (d ∷ e ∷ [])); length = 4 })) (string 34 zero rest)
string-two d e rest h k = rw (h, k) refl

string-numbered : (b : ℕ) (rest : Bytes) → 0 < b → b < 128 → string 34 zero (numbered b ++ rest) ≡ with_byte b (string 34 zero rest)
string-numbered b rest some low =
    let more = string 34 zero rest in
    elim (cases_Bool (ltb b 16)) [
      | inl one ↦ (
          let d = by_one b low one in
          ap (λ (v : Bytes). string 34 zero (v ++ rest)) (numbered-one b one) ∙ string-one (digit_char b) rest d.0
          ∙ ap (λ (n : ℕ). quoted (Some (record { value = character n; length = 3 })) more) d.1 ∙ ap (λ (v : Bytes). quoted (Some (record { value = v; length = 3 })) more) (character-ascii b some low) ∙ quoted_as b 3 more)
      | inr two ↦ (
          let d = by_two b low two in
          ap (λ (v : Bytes). string 34 zero (v ++ rest)) (numbered-two b two) ∙ string-two (digit_char (b / 16)) (digit_char (b % 16)) rest d.0 d.1
          ∙ ap (λ (n : ℕ). quoted (Some (record { value = character n; length = 4 })) more) d.2 ∙ ap (λ (v : Bytes). quoted (Some (record { value = v; length = 4 })) more) (character-ascii b some low) ∙ quoted_as b 4 more)
    ]

control_some : (b : ℕ) → is_control b ≡ true → 0 < b
control_some b h =
    elim (or_cases (is_within 1 31 b) (eqb b 127) h) [
      | inl within ↦ (let e = leb-true 1 b (and_parts (leb 1 b) (leb b 31) within).0 in omega arith)
      | inr is ↦ (let e = eqb-true b 127 is in omega arith)
    ]

string-letter : (b : ℕ) (rest : Bytes) → string 34 zero (letter Quoted b ++ rest) ≡ with_byte b (string 34 zero rest)
string-letter b rest =
    letter_cases Quoted (λ v. string 34 zero (v ++ rest) ≡ with_byte b (string 34 zero rest)) b (λ h. string-numbered b rest (control_some b h) (control_low b h)) (λ h k. string-escaped b rest (is_marked_byte b k))
    (λ h k. (let p = or_parts (eqb b 34) (eqb b 92) k in string-plain b rest p.0 p.1))

pub string_again : (text rest : Bytes) → string 34 zero (letters Quoted text ++ 34 ∷ rest) ≡ Some (record { value = text; rest = rest })
string_again [] rest = refl
string_again (b ∷ text) rest =
    ap (string 34 zero) (append_assoc (letter Quoted b) (letters Quoted text) (34 ∷ rest))
    ∙ string-letter b (letters Quoted text ++ 34 ∷ rest)
    ∙ ap (with_byte b) (string_again text rest)
