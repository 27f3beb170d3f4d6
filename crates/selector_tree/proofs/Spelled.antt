-- How characters are spelled, from the bytes that stand for them.
use Rattle.std.proofs.Common.{◌≡◌, ℕ, ◌+◌, ◌/◌, ◌%◌, ◌<◌, ◌≤◌, Bool, true, false, eqb, leb, ltb, not, ◌||◌, ◌&&◌, List, [], ◌∷◌, ◌++◌, refl, sym, ap, ap₂, ◌∙◌, append_assoc, append-nil, length, length-append, if◌then◌else◌, arith, inl, inr}
use Rattle.std.specs.Prelude.{encode_utf8}
use Rattle.std.proofs.Math.Bool.{and-true, and-false}
use Rattle.std.specs.List.{AllByRecursion}
use lib.Utf8.{encode}
use Rattle.std.proofs.lemmas.Str.{encode_ascii}
use Rattle.std.proofs.lemmas.Grind.{flat_map-append}
use Rattle.std.proofs.lemmas.Bool.{cases_lt, cases_Bool, or_from, and_right, or_right, ne_eqb, lt-leb, le-leb, le-ltb, both_ways}
use Rattle.selector_tree.specs.declared.letters.Spelling.{Spelling}
use Rattle.selector_tree.specs.declared.letters.Spelling.TheVariants.{Name, Quoted, Literal}
use Rattle.selector_tree.specs.Letters.{is_within, is_digit, is_name_byte, is_control, numbered, is_numbered, is_marked, letter, letters, begun, behind_dash, name_text, body_text}

-- the bytes of a character past ASCII
pub record IsHigh (bytes : List ℕ) : Type 0 where
  pub first : ℕ
  pub tail : List ℕ
  pub is : bytes ≡ first ∷ tail
  pub first_high : 128 ≤ first
  pub high : AllByRecursion (λ b. 128 ≤ b) tail

pub encode-high : (c : ℕ) → 128 ≤ c → IsHigh (encode_utf8 c)
unfolding lib.Utf8.encode
encode-high c h =
    let e : ltb c 128 ≡ false = le-ltb c 128 h in
    elim (cases_Bool (ltb c 2048)) [
      | inl two ↦ record { first = 192 + c / 64; tail = (128 + c % 64) ∷ []; is = rw (e, two) refl; first_high = omega arith; high = (omega arith, tt) }
      | inr more ↦ elim (cases_Bool (ltb c 65536)) [
        | inl three ↦ record { first = 224 + c / 4096; tail = (128 + c / 64 % 64) ∷ (128 + c % 64) ∷ []; is = rw (e, more, three) refl; first_high = omega arith; high = (omega arith, (omega arith, tt)) }
        | inr four ↦ record { first = 240 + c / 262144; tail = (128 + c / 4096 % 64) ∷ (128 + c / 64 % 64) ∷ (128 + c % 64) ∷ []; is = rw (e, more, four) refl; first_high = omega arith; high = (omega arith, (omega arith, (omega arith, tt))) }
      ]
    ]

control_high : (b : ℕ) → 128 ≤ b → is_control b ≡ false
control_high b h = or_from (is_within 1 31 b) (eqb b 127) (and_right (leb 1 b) (leb b 31) (lt-leb b 31 (omega arith))) (ne_eqb b 127 (λ e. omega arith))

pub numbered_high : (s : Spelling) (b : ℕ) → 128 ≤ b → is_numbered s b ≡ false
numbered_high Name b h = control_high b h
numbered_high Quoted b h = control_high b h
numbered_high Literal b h = refl

name_high : (b : ℕ) → 128 ≤ b → is_name_byte b ≡ true
name_high b h = or_right (is_within 97 122 b || is_within 65 90 b || is_digit b || eqb b 45 || eqb b 95) (leb 128 b) (le-leb 128 b h)

pub marked_high : (s : Spelling) (b : ℕ) → 128 ≤ b → is_marked s b ≡ false
marked_high Name b h = ap not (name_high b h)
marked_high Quoted b h = or_from (eqb b 34) (eqb b 92) (ne_eqb b 34 (λ e. omega arith)) (ne_eqb b 92 (λ e. omega arith))
marked_high Literal b h =
    or_from (eqb b 92 || eqb b 47 || eqb b 34 || eqb b 40) (eqb b 41)
    (or_from (eqb b 92 || eqb b 47 || eqb b 34) (eqb b 40)
    (or_from (eqb b 92 || eqb b 47) (eqb b 34)
    (or_from (eqb b 92) (eqb b 47) (ne_eqb b 92 (λ e. omega arith)) (ne_eqb b 47 (λ e. omega arith)))
    (ne_eqb b 34 (λ e. omega arith)))
    (ne_eqb b 40 (λ e. omega arith)))
    (ne_eqb b 41 (λ e. omega arith))

-- a numbered character is of ASCII
pub numbered_low : (s : Spelling) (c : ℕ) → is_numbered s c ≡ true → c < 128
numbered_low s c h = elim (cases_lt c 128) [ inl low ↦ low | inr high ↦ absurd (both_ways (is_numbered s c) (numbered_high s c high) h) ]

marked_low : (s : Spelling) (c : ℕ) → is_marked s c ≡ true → c < 128
marked_low s c h = elim (cases_lt c 128) [ inl low ↦ low | inr high ↦ absurd (both_ways (is_marked s c) (marked_high s c high) h) ]

letter-high : (s : Spelling) (b : ℕ) → 128 ≤ b → letter s b ≡ b ∷ []
letter-high s b h = rw (numbered_high s b h, marked_high s b h) refl

letters-high : (s : Spelling) (bytes : List ℕ) → AllByRecursion (λ b. 128 ≤ b) bytes → letters s bytes ≡ bytes
letters-high s [] h = refl
letters-high s (b ∷ bytes) h = ap₂ ◌++◌ (letter-high s b h.0) (letters-high s bytes h.1)

-- one letter of ASCII
letters-low : (s : Spelling) (c : ℕ) → c < 128 → letters s (encode_utf8 c) ≡ letter s c
letters-low s c h = ap (letters s) (encode_ascii c h) ∙ append-nil (letter s c)

pub letters-numbered : (s : Spelling) (c : ℕ) → is_numbered s c ≡ true → letters s (encode_utf8 c) ≡ numbered c
letters-numbered s c h = letters-low s c (numbered_low s c h) ∙ rw h refl

pub letters-other : (s : Spelling) (c : ℕ) → is_numbered s c ≡ false → letters s (encode_utf8 c) ≡ (if is_marked s c then 92 ∷ encode_utf8 c else encode_utf8 c)
letters-other s c n =
    elim (cases_lt c 128) [
      | inl low ↦ letters-low s c low ∙ rw (n, encode_ascii c low) refl
      | inr high ↦ (
          let b = encode-high c high in
          rw marked_high (ap (letters s) b.is ∙ ap₂ ◌++◌ (letter-high s b.first b.first_high) (letters-high s b.tail b.high) ∙ sym b.is))
    ]

-- one more character in front
pub letters-character : (s : Spelling) (c : ℕ) (text rest : List ℕ) → text ≡ encode_utf8 c ++ rest → letters s text ≡ letters s (encode_utf8 c) ++ letters s rest
letters-character s c text rest e = ap (letters s) e ∙ flat_map-append (letter s) (encode_utf8 c) rest

-- less is left behind a character
pub shorter : (c : ℕ) (text rest : List ℕ) → text ≡ encode_utf8 c ++ rest → length rest < length text
shorter c text rest e =
    elim (cases_lt c 128) [
      | inl low ↦ omega (arith, ap length (e ∙ ap (λ v. v ++ rest) (encode_ascii c low)))
      | inr high ↦ (
          let b = encode-high c high in
          omega (arith, ap length (e ∙ ap (λ v. v ++ rest) b.is), length-append b.tail rest))
    ]

digit_high : (b : ℕ) → 128 ≤ b → is_digit b ≡ false
digit_high b h = and_right (leb 48 b) (leb b 57) (lt-leb b 57 (omega arith))

pub digit_low : (c : ℕ) → is_digit c ≡ true → c < 128
digit_low c h = elim (cases_lt c 128) [ inl low ↦ low | inr high ↦ absurd (both_ways (is_digit c) (digit_high c high) h) ]

-- ---- names

pub begun-digit : (c : ℕ) (rest : List ℕ) → is_digit c ≡ true → begun (encode_utf8 c ++ rest) ≡ numbered c ++ letters Name rest
begun-digit c rest h = ap (λ v. begun (v ++ rest)) (encode_ascii c (digit_low c h)) ∙ rw h refl

pub begun-letter : (c : ℕ) (rest : List ℕ) → is_digit c ≡ false → begun (encode_utf8 c ++ rest) ≡ letters Name (encode_utf8 c) ++ letters Name rest
begun-letter c rest h =
    elim (cases_lt c 128) [
      | inl low ↦
          ap (λ v. begun (v ++ rest)) (encode_ascii c low) ∙ ap (λ b. (if b then numbered c else letter Name c) ++ letters Name rest) h
          ∙ ap (λ v. v ++ letters Name rest) (sym (letters-low Name c low))
      | inr high ↦ (
          let b = encode-high c high in
          let front : begun (b.first ∷ (b.tail ++ rest)) ≡ letter Name b.first ++ letters Name (b.tail ++ rest) = rw (digit_high b.first b.first_high) refl in
          ap (λ v. begun (v ++ rest)) b.is ∙ front
          ∙ ap (λ v. letter Name b.first ++ v) (flat_map-append (letter Name) b.tail rest)
          ∙ sym (append_assoc (letter Name b.first) (letters Name b.tail) (letters Name rest))
          ∙ ap (λ v. letters Name v ++ letters Name rest) (sym b.is))
    ]

pub name-begun : (c : ℕ) (text rest : List ℕ) → text ≡ encode_utf8 c ++ rest → (c ≡ 45 → ⊥) → name_text text ≡ begun (encode_utf8 c ++ rest)
name-begun c text rest e other =
    elim (cases_lt c 128) [
      | inl low ↦ (
          let cons : encode_utf8 c ++ rest ≡ c ∷ rest = ap (λ v. v ++ rest) (encode_ascii c low) in
          let one : name_text (c ∷ rest) ≡ begun (c ∷ rest) = rw (ne_eqb c 45 other) refl in
          ap name_text (e ∙ cons) ∙ one ∙ ap begun (sym cons))
      | inr high ↦ (
          let b = encode-high c high in
          let cons : encode_utf8 c ++ rest ≡ b.first ∷ (b.tail ++ rest) = ap (λ v. v ++ rest) b.is in
          let one : name_text (b.first ∷ (b.tail ++ rest)) ≡ begun (b.first ∷ (b.tail ++ rest)) = rw (ne_eqb b.first 45 (λ i. omega (arith, i, b.first_high))) refl in
          ap name_text (e ∙ cons) ∙ one ∙ ap begun (sym cons))
    ]

pub name-dash : (c : ℕ) (text rest : List ℕ) → text ≡ encode_utf8 c ++ rest → c ≡ 45 → name_text text ≡ behind_dash rest
name-dash c text rest e is = ap name_text (e ∙ ap (λ k. encode_utf8 k ++ rest) is ∙ ap (λ v. v ++ rest) (encode_ascii 45 (omega arith)))

pub behind_dash-begun : (c : ℕ) (text rest : List ℕ) → text ≡ encode_utf8 c ++ rest → behind_dash text ≡ 45 ∷ begun (encode_utf8 c ++ rest)
behind_dash-begun c text rest e =
    elim (cases_lt c 128) [
      | inl low ↦ (
          let cons : encode_utf8 c ++ rest ≡ c ∷ rest = ap (λ v. v ++ rest) (encode_ascii c low) in
          ap behind_dash (e ∙ cons) ∙ ap (λ v. 45 ∷ begun v) (sym cons))
      | inr high ↦ (
          let b = encode-high c high in
          let cons : encode_utf8 c ++ rest ≡ b.first ∷ (b.tail ++ rest) = ap (λ v. v ++ rest) b.is in
          ap behind_dash (e ∙ cons) ∙ ap (λ v. 45 ∷ begun v) (sym cons))
    ]

-- ---- bodies of patterns

body-high : (bytes rest : List ℕ) → AllByRecursion (λ b. 128 ≤ b) bytes → body_text false (bytes ++ rest) ≡ bytes ++ body_text false rest
body-high [] rest h = refl
body-high (b ∷ bytes) rest h = rw (ne_eqb b 47 (λ i. omega (arith, i, h.0)), ne_eqb b 92 (λ i. omega (arith, i, h.0))) (ap (λ v. b ∷ v) (body-high bytes rest h.1))

body-paired : (b : ℕ) (rest : List ℕ) → (paired : Bool) → body_text paired (b ∷ rest) ≡ (if eqb b 47 && not paired then 92 ∷ b ∷ [] else b ∷ []) ++ body_text (eqb b 92 && not paired) rest
body-paired b rest true = rw (and-false (eqb b 47), and-false (eqb b 92)) refl
body-paired b rest false = rw (and-true (eqb b 47), and-true (eqb b 92)) refl

pub body-character : (paired : Bool) (c : ℕ) (text rest : List ℕ) → text ≡ encode_utf8 c ++ rest →
    body_text paired text ≡ (if eqb c 47 && not paired then 92 ∷ encode_utf8 c else encode_utf8 c) ++ body_text (eqb c 92 && not paired) rest
body-character paired c text rest e =
    elim (cases_lt c 128) [
      | inl low ↦ ap (body_text paired) (e ∙ ap (λ v. v ++ rest) (encode_ascii c low)) ∙ rw (encode_ascii c low) (body-paired c rest paired)
      | inr high ↦ (
          let b = encode-high c high in
          let first47 : eqb b.first 47 ≡ false = ne_eqb b.first 47 (λ i. omega (arith, i, b.first_high)) in
          let first92 : eqb b.first 92 ≡ false = ne_eqb b.first 92 (λ i. omega (arith, i, b.first_high)) in
          let one : body_text paired (b.first ∷ (b.tail ++ rest)) ≡ b.first ∷ body_text false (b.tail ++ rest) =
          body-paired b.first (b.tail ++ rest) paired ∙ rw (first47, first92) refl in
          ap (body_text paired) (e ∙ ap (λ v. v ++ rest) b.is) ∙ one ∙ ap (λ v. b.first ∷ v) (body-high b.tail rest b.high)
          ∙ ap (λ v. v ++ body_text false rest) (sym b.is)
          ∙ sym (rw (ne_eqb c 47 (λ i. omega arith), ne_eqb c 92 (λ i. omega arith)) refl))
    ]

-- ---- what is added, one thing behind the other

-- two things added are their join
pub added : (out mid new first second all : List ℕ) → mid ≡ out ++ first → all ≡ first ++ second → new ≡ mid ++ second → new ≡ out ++ all
added out mid new first second all m a n = n ∙ ap (λ v. v ++ second) m ∙ append_assoc out first second ∙ ap (λ v. out ++ v) (sym a)

-- one more character of a body
pub body-added : (old new all text rest : List ℕ) (paired marked next : Bool) (c : ℕ) → text ≡ encode_utf8 c ++ rest → marked ≡ (eqb c 47 && not paired) → next ≡ (eqb c 92 && not paired)
    → new ≡ old ++ (if marked then 92 ∷ encode_utf8 c else encode_utf8 c) → old ++ body_text paired text ≡ all → new ++ body_text next rest ≡ all
body-added old new all text rest paired marked next c e m n is so_far =
    let one : List ℕ = if eqb c 47 && not paired then 92 ∷ encode_utf8 c else encode_utf8 c in
    ap₂ (λ v b. v ++ body_text b rest) (is ∙ ap (λ b. old ++ (if b then 92 ∷ encode_utf8 c else encode_utf8 c)) m) n
    ∙ append_assoc old one (body_text (eqb c 92 && not paired) rest)
    ∙ ap (λ v. old ++ v) (sym (body-character paired c text rest e)) ∙ so_far

-- a name that begins with `-`, and something behind it
pub name-second : (c d : ℕ) (name rest behind : List ℕ) → name ≡ encode_utf8 c ++ rest → c ≡ 45 → rest ≡ encode_utf8 d ++ behind → name_text name ≡ encode_utf8 45 ++ begun (encode_utf8 d ++ behind)
name-second c d name rest behind e is f =
    name-dash c name rest e is ∙ behind_dash-begun d rest behind f ∙ ap (λ v. v ++ begun (encode_utf8 d ++ behind)) (sym (encode_ascii 45 (omega arith)))
