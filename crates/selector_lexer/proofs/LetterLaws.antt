-- Letters of names and strings: escapes, and characters that stand for themselves.
use denote.Ref.{Bor}
use Rattle.std.proofs.Common.{◌≡◌, ℕ, zero, suc, ◌+◌, ◌-◌, ◌<◌, ◌≤◌, Bool, true, false, not, eqb, ◌&&◌, ◌||◌, if◌then◌else◌, [], ◌∷◌, ◌++◌, length, drop, Option, Some, None, refl, sym, ap, ◌∙◌, append_assoc, arith, inl, inr}
use Rattle.std.specs.Prelude.{encode_utf8, MatchOption}
use Rattle.std.specs.Char.{is_ascii_hexdigit}
use Rattle.std.specs.List.{AllByRecursion}
use Rattle.std.proofs.lemmas.List.{length-append, append-nil, drop-drop, nil_from_length, length-drop}
use Rattle.std.proofs.lemmas.Bool.{cases_lt, cases_Bool, or_right, ne_eqb, le-leb, false≢true}
use Rattle.selector_tree.specs.Letters.{is_within, is_digit, is_name_byte}
use Rattle.selector_spelling.specs.Bytes.{Bytes, number, begins_with, backslash}
use Rattle.selector_spelling.specs.Names.{Letter, Taken, escape, escaped, character, numbered, space_length, letter, behind_backslash, onto, run, quoted, string, is_plain}
use Rattle.selector_lexer.specs.declared.names.Plain.{Plain}
use Rattle.selector_lexer.specs.declared.names.Plain.TheVariants.{InName, InString}
use Rattle.selector_lexer.specs.Letters.{stands, IsEscape, IsLetter, HasNoLetter}
use Rattle.selector_lexer.proofs.Characters.{first-byte}
use Rattle.selector_lexer.proofs.Hexes.{hex_front}

-- ---- escapes

hex_read : (text : Bytes) → 0 < length (hex_front 6 text) → escape text ≡ Some (numbered (hex_front 6 text) (drop (length (hex_front 6 text)) text))
hex_read [] h = absurd (omega arith)
hex_read (b ∷ text) h =
    elim (cases_Bool (is_ascii_hexdigit b)) [
      | inl holds ↦ rw holds refl
      | inr lacks ↦ absurd (let e : hex_front 6 (b ∷ text) ≡ [] = rw lacks refl in omega (arith, h, ap length e))
    ]

pub by_number : (text middle rest : Bytes) (c n count : ℕ) → n ≡ number 16 (hex_front 6 text) → count ≡ length (hex_front 6 text) → 0 < count
    → middle ≡ drop count text → rest ≡ drop (space_length middle) middle → encode_utf8 c ≡ character n → IsEscape text rest c
by_number text middle rest c n count n-is count-is some middle-is rest-is c-is =
    let digits = hex_front 6 text in
    let behind : middle ≡ drop (length digits) text = middle-is ∙ ap (λ (k : ℕ). drop k text) count-is in
    record {
      first = numbered digits (drop (length digits) text);
      tail = [];
      is = hex_read text (omega (arith, some, count-is));
      value = append-nil (character (number 16 digits)) ∙ ap character (sym n-is) ∙ sym c-is;
      rest_is = sym (rest-is ∙ ap (λ (v : Bytes). drop (space_length v) v) behind ∙ drop-drop (space_length (drop (length digits) text)) (length digits) text);
      high = tt;
    }

plain_read : (b : ℕ) (text : Bytes) → hex_front 6 (b ∷ text) ≡ [] → escape (b ∷ text) ≡ Some (record { value = b ∷ []; length = 1 })
plain_read b text e =
    elim (cases_Bool (is_ascii_hexdigit b)) [
      | inl holds ↦ absurd (let f : hex_front 6 (b ∷ text) ≡ b ∷ hex_front 5 text = rw holds refl in let g : [] ≡ b ∷ hex_front 5 text = sym e ∙ f in cc)
      | inr lacks ↦ rw lacks refl
    ]

no_digits : (text : Bytes) (count : ℕ) → count ≡ length (hex_front 6 text) → count ≤ 0 → hex_front 6 text ≡ []
no_digits text count count-is none = nil_from_length (hex_front 6 text) (omega (arith, count-is, none))

by_character : (text rest : Bytes) (c count : ℕ) → count ≡ length (hex_front 6 text) → count ≤ 0 → text ≡ encode_utf8 c ++ rest → IsEscape text rest c
by_character text rest c count count-is none e =
    let f = first-byte text rest c e in
    let empty : hex_front 6 (f.byte ∷ (f.tail ++ rest)) ≡ [] = ap (hex_front 6) (sym f.from) ∙ no_digits text count count-is none in
    record {
      first = record { value = f.byte ∷ []; length = 1 };
      tail = f.tail;
      is = ap escape f.from ∙ plain_read f.byte (f.tail ++ rest) empty;
      value = sym f.is;
      rest_is = ap (drop 1) f.from;
      high = f.high;
    }

-- nothing stands behind a `\` at the end of a text
no_escape : (text : Bytes) → text ≡ [] → escape text ≡ None
no_escape text e = ap escape e

-- by the first character, where no digit stands
pub first_escape : (text : Bytes) (count : ℕ) (r : Option (ℕ × Bor Bytes)) → count ≡ length (hex_front 6 text) → count ≤ 0
    → MatchOption r (text ≡ []) (λ p. text ≡ encode_utf8 p.0 ++ p.1.now) → MatchOption r (escape text ≡ None) (λ p. IsEscape text p.1.now p.0)
first_escape text count None count-is none e = no_escape text e
first_escape text count (Some p) count-is none e = by_character text p.1.now p.0 count count-is none e

-- ---- letters

pub name_byte_high : (b : ℕ) → 128 ≤ b → is_name_byte b ≡ true
name_byte_high b h = rw (le-leb 128 b h) (or_right (is_within 97 122 b || is_within 65 90 b || is_digit b || eqb b 45 || eqb b 95) true refl)

pub stands-high : (plain : Plain) (b : ℕ) → 128 ≤ b → stands plain b ≡ true
stands-high InName b h = name_byte_high b h
stands-high InString b h = let e : eqb b backslash ≡ false = ne_eqb b backslash (λ z. omega (arith, h, z)) in rw e refl

stands-backslash : (plain : Plain) → stands plain backslash ≡ false
stands-backslash InName = refl
stands-backslash InString = refl

stands-byte : (plain : Plain) (b c : ℕ) → (c < 128 → b ≡ c) → (128 ≤ c → 128 ≤ b) → stands plain c ≡ true → stands plain b ≡ true
stands-byte plain b c low high h =
    elim (cases_lt c 128) [
      | inl l ↦ ap (stands plain) (low l) ∙ h
      | inr k ↦ stands-high plain b (high k)
    ]

letter-plain : (p : ℕ → Bool) (b : ℕ) (more : Bytes) → p b ≡ true → letter p b more ≡ Some (record { value = b ∷ []; length = 1 })
letter-plain p b more h = rw h refl

pub plain-letter : (plain : Plain) (text rest : Bytes) (c : ℕ) → text ≡ encode_utf8 c ++ rest → stands plain c ≡ true → IsLetter (stands plain) text rest c
plain-letter plain text rest c e h =
    let f = first-byte text rest c e in
    record {
      byte = f.byte;
      more = f.tail ++ rest;
      from = f.from;
      first = record { value = f.byte ∷ []; length = 1 };
      tail = f.tail;
      is = letter-plain (stands plain) f.byte (f.tail ++ rest) (stands-byte plain f.byte c (λ l. (f.low l).0) f.high_byte h);
      value = sym f.is;
      some = omega arith;
      rest_is = ap (drop 1) f.from;
      high = f.high;
    }

letter-none : (p : ℕ → Bool) (b : ℕ) (more : Bytes) → p b ≡ false → eqb b backslash ≡ false → letter p b more ≡ None
letter-none p b more h k = rw (h, k) refl

heads : (a b : ℕ) (x y : Bytes) → a ∷ x ≡ b ∷ y → a ≡ b
heads a b x y e = cc

tails : (a b : ℕ) (x y : Bytes) → a ∷ x ≡ b ∷ y → x ≡ y
tails a b x y e = cc

pub other-letter : (plain : Plain) (text rest : Bytes) (c : ℕ) → text ≡ encode_utf8 c ++ rest → stands plain c ≡ false → (c ≡ 92 → ⊥) → HasNoLetter (stands plain) text
other-letter plain text rest c e lacks other b more from =
    let f = first-byte text rest c e in
    let low : c < 128 = elim (cases_lt c 128) [ inl l ↦ l | inr h ↦ absurd (false≢true (sym lacks ∙ stands-high plain c h)) ] in
    let same : b ≡ c = heads b f.byte more (f.tail ++ rest) (sym from ∙ f.from) ∙ (f.low low).0 in
    letter-none (stands plain) b more (ap (stands plain) same ∙ lacks) (ne_eqb b backslash (λ z. other (sym same ∙ z)))

letter-escape : (p : ℕ → Bool) (more : Bytes) → p backslash ≡ false → letter p backslash more ≡ behind_backslash (escaped p more)
letter-escape p more h = rw h refl

pub no-escaped-letter : (plain : Plain) (text rest : Bytes) (c : ℕ) → text ≡ encode_utf8 c ++ rest → c ≡ 92 → escaped (stands plain) rest ≡ None → HasNoLetter (stands plain) text
no-escaped-letter plain text rest c e is none b more from =
    let f = first-byte text rest c e in
    let l = f.low (omega (arith, is)) in
    let g : b ∷ more ≡ backslash ∷ rest = sym from ∙ f.from ∙ ap (λ (v : Bytes). f.byte ∷ (v ++ rest)) l.1 ∙ ap (λ (k : ℕ). k ∷ rest) (l.0 ∙ is) in
    let h : letter (stands plain) backslash rest ≡ None = letter-escape (stands plain) rest (stands-backslash plain) ∙ ap behind_backslash none in
    ap (λ (k : ℕ). letter (stands plain) k more) (heads b backslash more rest g) ∙ ap (letter (stands plain) backslash) (tails b backslash more rest g) ∙ h

pub escaped-letter : (plain : Plain) (text rest : Bytes) (c : ℕ) (r : Option (ℕ × Bor Bytes)) → text ≡ encode_utf8 c ++ rest → c ≡ 92
    → escaped (stands plain) rest ≡ escape rest → MatchOption r (escape rest ≡ None) (λ p. IsEscape rest p.1.now p.0) → MatchOption r (HasNoLetter (stands plain) text) (λ p. IsLetter (stands plain) text p.1.now p.0)
escaped-letter plain text rest c None e is same none = no-escaped-letter plain text rest c e is (same ∙ none)
escaped-letter plain text rest c (Some p) e is same s =
    let f = first-byte text rest c e in
    let l = f.low (omega (arith, is)) in
    let cons : text ≡ backslash ∷ rest = f.from ∙ ap (λ (v : Bytes). f.byte ∷ (v ++ rest)) l.1 ∙ ap (λ (k : ℕ). k ∷ rest) (l.0 ∙ is) in
    let n : s.first.length + 1 ≡ suc s.first.length = omega arith in
    record {
      byte = backslash;
      more = rest;
      from = cons;
      first = record { value = s.first.value; length = s.first.length + 1 };
      tail = s.tail;
      is = letter-escape (stands plain) rest (stands-backslash plain) ∙ ap behind_backslash (same ∙ s.is);
      value = s.value;
      some = omega arith;
      rest_is = ap (λ (v : Bytes). drop (s.first.length + 1) v) cons ∙ ap (λ (k : ℕ). drop k (backslash ∷ rest)) n ∙ s.rest_is;
      high = s.high;
    }

-- U+0000 behind `\` in a name, and every other escape
pub zero-escaped : (p : ℕ → Bool) (text : Bytes) → (not (p 0) && begins_with 0 text) ≡ true → escaped p text ≡ None
zero-escaped p text h = ap (λ (c : Bool). if c then None else escape text) h

pub other-escaped : (p : ℕ → Bool) (text : Bytes) → (not (p 0) && begins_with 0 text) ≡ false → escaped p text ≡ escape text
other-escaped p text h = ap (λ (c : Bool). if c then None else escape text) h

pub letter-shorter : (p : ℕ → Bool) (text rest : Bytes) (c : ℕ) → IsLetter p text rest c → length rest < length text
letter-shorter p text rest c l =
    omega (arith, ap length l.from, ap length l.rest_is, length-append l.tail rest, length-drop l.first.length text, l.some)

-- ---- runs

pub onto-onto : (a b : Bytes) (t : Taken) → onto a (onto b t) ≡ onto (a ++ b) t
onto-onto a b t = ap (λ (v : Bytes). record { value = v; rest = t.rest }) (sym (append_assoc a b t.value))

run-byte : (b : ℕ) (rest : Bytes) → is_name_byte b ≡ true → run zero (b ∷ rest) ≡ onto (b ∷ []) (run zero rest)
run-byte b rest h = rw h refl

run-high : (bytes rest : Bytes) → AllByRecursion (λ b. 128 ≤ b) bytes → run zero (bytes ++ rest) ≡ onto bytes (run zero rest)
run-high [] rest h = refl
run-high (b ∷ bytes) rest h =
    run-byte b (bytes ++ rest) (name_byte_high b h.0) ∙ ap (onto (b ∷ [])) (run-high bytes rest h.1) ∙ onto-onto (b ∷ []) bytes (run zero rest)

run-skip : (k : ℕ) (text : Bytes) → run k text ≡ run zero (drop k text)
run-skip zero text = refl
run-skip (suc k) [] = refl
run-skip (suc k) (b ∷ text) = run-skip k text

run-first : (b : ℕ) (more : Bytes) (l : Letter) → letter is_name_byte b more ≡ Some l → run zero (b ∷ more) ≡ onto l.value (run (l.length - 1) more)
run-first b more l h = rw h refl

drop-behind : (n b : ℕ) (more : Bytes) → 1 ≤ n → drop (n - 1) more ≡ drop n (b ∷ more)
drop-behind zero b more h = absurd (omega arith)
drop-behind (suc n) b more h = let e : suc n - 1 ≡ n = omega arith in ap (λ (k : ℕ). drop k more) e

pub run-letter : (text rest : Bytes) (c : ℕ) → IsLetter is_name_byte text rest c → run zero text ≡ onto (encode_utf8 c) (run zero rest)
run-letter text rest c l =
    let n = l.first.length in
    let behind : drop (n - 1) l.more ≡ l.tail ++ rest = drop-behind n l.byte l.more l.some ∙ ap (drop n) (sym l.from) ∙ l.rest_is in
    ap (run zero) l.from ∙ run-first l.byte l.more l.first l.is
    ∙ ap (onto l.first.value) (run-skip (n - 1) l.more ∙ ap (run zero) behind ∙ run-high l.tail rest l.high)
    ∙ onto-onto l.first.value l.tail (run zero rest) ∙ ap (λ (v : Bytes). onto v (run zero rest)) l.value

run-last : (b : ℕ) (more : Bytes) → letter is_name_byte b more ≡ None → run zero (b ∷ more) ≡ record { value = []; rest = b ∷ more }
run-last b more h = rw h refl

pub run-end : (text : Bytes) → HasNoLetter is_name_byte text → run zero text ≡ record { value = []; rest = text }
run-end [] h = refl
run-end (b ∷ more) h = run-last b more (h b more refl)

-- the run so far, and what is still to come
pub run_more : (value more value' : Bytes) (text rest : Bytes) (whole : Taken) → run zero text ≡ onto more (run zero rest) → value' ≡ value ++ more
    → onto value (run zero text) ≡ whole → onto value' (run zero rest) ≡ whole
run_more value more value' text rest whole step value-is so_far =
    ap (λ (v : Bytes). onto v (run zero rest)) value-is ∙ sym (onto-onto value more (run zero rest)) ∙ ap (onto value) (sym step) ∙ so_far

pub run_done : (value text : Bytes) (whole : Taken) → run zero text ≡ record { value = []; rest = text } → onto value (run zero text) ≡ whole → whole ≡ record { value = value; rest = text }
run_done value text whole ends so_far = sym so_far ∙ ap (onto value) ends ∙ ap (λ (v : Bytes). record { value = v; rest = text }) (append-nil value)

-- ---- strings

-- a value before what a string holds
abbrev pub before : Bytes → Option Taken → Option Taken
before value None = None
before value (Some t) = Some (onto value t)

pub before-before : (a b : Bytes) (t : Option Taken) → before a (before b t) ≡ before (a ++ b) t
before-before a b None = refl
before-before a b (Some t) = ap Some (onto-onto a b t)

before-nil : (t : Option Taken) → before [] t ≡ t
before-nil None = refl
before-nil (Some t) = refl

quoted-before : (l : Letter) (more : Option Taken) → quoted (Some l) more ≡ before l.value more
quoted-before l None = refl
quoted-before l (Some t) = refl

string-skip : (q k : ℕ) (text : Bytes) → string q k text ≡ string q zero (drop k text)
string-skip q zero text = refl
string-skip q (suc k) [] = refl
string-skip q (suc k) (b ∷ text) = string-skip q k text

string-first : (q b : ℕ) (more : Bytes) (l : Letter) → eqb b q ≡ false → letter is_plain b more ≡ Some l → string q zero (b ∷ more) ≡ before l.value (string q (l.length - 1) more)
string-first q b more l h k = rw (h, k) (quoted-before l (string q (l.length - 1) more))

string-byte : (q b : ℕ) (rest : Bytes) → eqb b q ≡ false → is_plain b ≡ true → string q zero (b ∷ rest) ≡ before (b ∷ []) (string q zero rest)
string-byte q b rest h k = string-first q b rest (record { value = b ∷ []; length = 1 }) h (letter-plain is_plain b rest k)

string-high : (q : ℕ) (bytes rest : Bytes) → q < 128 → AllByRecursion (λ b. 128 ≤ b) bytes → string q zero (bytes ++ rest) ≡ before bytes (string q zero rest)
string-high q [] rest low h = sym (before-nil (string q zero rest))
string-high q (b ∷ bytes) rest low h =
    let high = h.0 in
    string-byte q b (bytes ++ rest) (ne_eqb b q (λ e. omega (arith, high, low, e))) (stands-high InString b h.0)
    ∙ ap (before (b ∷ [])) (string-high q bytes rest low h.1) ∙ before-before (b ∷ []) bytes (string q zero rest)

begins-byte : (q b : ℕ) (text more : Bytes) → begins_with q text ≡ false → text ≡ b ∷ more → eqb b q ≡ false
begins-byte q b text more h e = ap (begins_with q) (sym e) ∙ h

pub string-letter : (q : ℕ) (text rest : Bytes) (c : ℕ) → q < 128 → begins_with q text ≡ false → IsLetter is_plain text rest c → string q zero text ≡ before (encode_utf8 c) (string q zero rest)
string-letter q text rest c low other l =
    let n = l.first.length in
    let behind : drop (n - 1) l.more ≡ l.tail ++ rest = drop-behind n l.byte l.more l.some ∙ ap (drop n) (sym l.from) ∙ l.rest_is in
    ap (string q zero) l.from ∙ string-first q l.byte l.more l.first (begins-byte q l.byte text l.more other l.from) l.is
    ∙ ap (before l.first.value) (string-skip q (n - 1) l.more ∙ ap (string q zero) behind ∙ string-high q l.tail rest low l.high)
    ∙ before-before l.first.value l.tail (string q zero rest) ∙ ap (λ (v : Bytes). before v (string q zero rest)) l.value

pub string_more : (value more value' : Bytes) (rest : Option Taken) (text whole : Option Taken) → text ≡ before more rest → value' ≡ value ++ more → before value text ≡ whole → before value' rest ≡ whole
string_more value more value' rest text whole step value-is so_far =
    ap (λ (v : Bytes). before v rest) value-is ∙ sym (before-before value more rest) ∙ ap (before value) (sym step) ∙ so_far
