-- Texts in which `\` is dropped, character by character, and texts without quotes.
use Rattle.std.proofs.Common.{◌≡◌, ℕ, suc, ◌-◌, ◌<◌, ◌≤◌, Bool, true, false, not, eqb, ◌&&◌, ◌||◌, [], ◌∷◌, ◌++◌, length, get_or, take, drop, refl, sym, ap, ◌∙◌, append_assoc, arith, inl, inr}
use Rattle.std.specs.Prelude.{encode_utf8}
use Rattle.std.specs.List.{AllByRecursion}
use Rattle.std.proofs.lemmas.Bool.{cases_lt, cases_Bool, or_from, ne_eqb, eqb-true}
use Rattle.selector_spelling.specs.Bytes.{Bytes, is_quote, backslash}
use Rattle.selector_spelling.specs.Arguments.{unescaped, last_is, without_last, unquoted}
use Rattle.spelling_reader.specs.declared.texts.Marks.{Marks}
use Rattle.spelling_reader.specs.declared.texts.Marks.TheVariants.{BeforeSlash, BeforeSigns}
use Rattle.spelling_reader.specs.Texts.{marked, pushed}
use Rattle.selector_lexer.proofs.Characters.{first-byte}

-- ---- dropped `\`

other : (b c : ℕ) → 128 ≤ b → c < 128 → eqb b c ≡ false
other b c h k = ne_eqb b c (λ e. omega (arith, h, k, e))

marked-high : (marks : Marks) (b : ℕ) → 128 ≤ b → marked marks b ≡ false
marked-high BeforeSlash b h = other b 47 h (omega arith)
marked-high BeforeSigns b h =
    or_from (eqb b 40 || eqb b 41 || eqb b 92 || eqb b 47) (eqb b 34 || eqb b 39)
    (or_from (eqb b 40 || eqb b 41 || eqb b 92) (eqb b 47)
    (or_from (eqb b 40 || eqb b 41) (eqb b 92)
    (or_from (eqb b 40) (eqb b 41) (other b 40 h (omega arith)) (other b 41 h (omega arith))) (other b 92 h (omega arith))) (other b 47 h (omega arith)))
    (or_from (eqb b 34) (eqb b 39) (other b 34 h (omega arith)) (other b 39 h (omega arith)))

module _ (p : ℕ → Bool) where
  plain-byte : (b : ℕ) (text : Bytes) → eqb b backslash ≡ false → unescaped p false (b ∷ text) ≡ b ∷ unescaped p false text
  plain-byte b text h = rw h refl

  pair-begins : (b : ℕ) (text : Bytes) → eqb b backslash ≡ true → unescaped p false (b ∷ text) ≡ unescaped p true text
  pair-begins b text h = rw h refl

  pair-dropped : (b : ℕ) (text : Bytes) → p b ≡ true → unescaped p true (b ∷ text) ≡ b ∷ unescaped p false text
  pair-dropped b text h = rw h refl

  pair-kept : (b : ℕ) (text : Bytes) → p b ≡ false → unescaped p true (b ∷ text) ≡ backslash ∷ b ∷ unescaped p false text
  pair-kept b text h = rw h refl

  high-bytes : (bytes rest : Bytes) → AllByRecursion (λ b. 128 ≤ b) bytes → unescaped p false (bytes ++ rest) ≡ bytes ++ unescaped p false rest
  high-bytes [] rest h = refl
  high-bytes (b ∷ bytes) rest h = plain-byte b (bytes ++ rest) (other b backslash h.0 (omega arith)) ∙ ap (λ (v : Bytes). b ∷ v) (high-bytes bytes rest h.1)

  pushed-pair : (c : ℕ) → eqb c backslash ≡ true → pushed p false c ≡ []
  pushed-pair c h = rw h refl

  pushed-plain : (c : ℕ) → eqb c backslash ≡ false → pushed p false c ≡ encode_utf8 c
  pushed-plain c h = rw h refl

  pushed-dropped : (c : ℕ) → p c ≡ true → pushed p true c ≡ encode_utf8 c
  pushed-dropped c h = rw h refl

  pushed-kept : (c : ℕ) → p c ≡ false → pushed p true c ≡ backslash ∷ encode_utf8 c
  pushed-kept c h = rw h refl

pub unescaped-character : (marks : Marks) (paired : Bool) (c : ℕ) (text rest : Bytes) → text ≡ encode_utf8 c ++ rest
    → unescaped (marked marks) paired text ≡ pushed (marked marks) paired c ++ unescaped (marked marks) (eqb c backslash && not paired) rest
unescaped-character marks false c text rest e =
    let p = marked marks in
    let f = first-byte text rest c e in
    elim (cases_Bool (eqb c backslash)) [
      | inl is ↦ (
          let low = f.low (let k = eqb-true c backslash is in omega (arith, k)) in
          let cons : text ≡ c ∷ rest = f.from ∙ ap (λ (v : Bytes). f.byte ∷ (v ++ rest)) low.1 ∙ ap (λ (k : ℕ). k ∷ rest) low.0 in
          ap (unescaped p false) cons ∙ pair-begins p c rest is
          ∙ sym (ap (λ (v : Bytes). v ++ unescaped p (eqb c backslash && true) rest) (pushed-pair p c is) ∙ (let g : (eqb c backslash && true) ≡ true = rw is refl in ap (λ (q : Bool). unescaped p q rest) g)))
      | inr another ↦ (
          let byte : eqb f.byte backslash ≡ false = elim (cases_lt c 128) [ inl l ↦ ap (λ (k : ℕ). eqb k backslash) (f.low l).0 ∙ another | inr h ↦ other f.byte backslash (f.high_byte h) (omega arith) ] in
          ap (unescaped p false) f.from ∙ plain-byte p f.byte (f.tail ++ rest) byte ∙ ap (λ (v : Bytes). f.byte ∷ v) (high-bytes p f.tail rest f.high)
          ∙ ap (λ (v : Bytes). v ++ unescaped p false rest) (sym (pushed-plain p c another ∙ f.is))
          ∙ (let g : (eqb c backslash && true) ≡ false = rw another refl in ap (λ (q : Bool). pushed p false c ++ unescaped p q rest) (sym g)))
    ]
unescaped-character marks true c text rest e =
    let p = marked marks in
    let f = first-byte text rest c e in
    let next : (eqb c backslash && false) ≡ false = elim (cases_Bool (eqb c backslash)) [ inl is ↦ rw is refl | inr another ↦ rw another refl ] in
    let same : p f.byte ≡ p c = elim (cases_lt c 128) [ inl l ↦ ap p (f.low l).0 | inr h ↦ marked-high marks f.byte (f.high_byte h) ∙ sym (marked-high marks c h) ] in
    let last : pushed p true c ++ unescaped p false rest ≡ pushed p true c ++ unescaped p (eqb c backslash && false) rest = ap (λ (q : Bool). pushed p true c ++ unescaped p q rest) (sym next) in
    elim (cases_Bool (p c)) [
      | inl drops ↦ ap (unescaped p true) f.from ∙ pair-dropped p f.byte (f.tail ++ rest) (same ∙ drops) ∙ ap (λ (v : Bytes). f.byte ∷ v) (high-bytes p f.tail rest f.high)
          ∙ ap (λ (v : Bytes). v ++ unescaped p false rest) (sym (pushed-dropped p c drops ∙ f.is)) ∙ last
      | inr keeps ↦ ap (unescaped p true) f.from ∙ pair-kept p f.byte (f.tail ++ rest) (same ∙ keeps) ∙ ap (λ (v : Bytes). backslash ∷ f.byte ∷ v) (high-bytes p f.tail rest f.high)
          ∙ ap (λ (v : Bytes). v ++ unescaped p false rest) (sym (pushed-kept p c keeps ∙ ap (λ (v : Bytes). backslash ∷ v) f.is)) ∙ last
    ]

pub unescaped_more : (out more out' text rest whole : Bytes) → text ≡ more ++ rest → out' ≡ out ++ more → out ++ text ≡ whole → out' ++ rest ≡ whole
unescaped_more out more out' text rest whole step out-is so_far =
    ap (λ (v : Bytes). v ++ rest) out-is ∙ append_assoc out more rest ∙ ap (λ (v : Bytes). out ++ v) (sym step) ∙ so_far

-- ---- quotes

last-by : (q b : ℕ) (text : Bytes) → last_is q (b ∷ text) ≡ eqb (get_or (b ∷ text) (length text) 0) q
last-by q b [] = refl
last-by q b (c ∷ text) = last-by q c text

without-last-by : (b : ℕ) (text : Bytes) → without_last (b ∷ text) ≡ take (length text) (b ∷ text)
without-last-by b [] = refl
without-last-by b (c ∷ text) = ap (λ (v : Bytes). b ∷ v) (without-last-by c text)

pub unquoted-other : (text : Bytes) → 2 ≤ length text → (is_quote (get_or text 0 0) && eqb (get_or text (length text - 1) 0) (get_or text 0 0)) ≡ false → unquoted text ≡ text
unquoted-other [] h e = absurd (omega arith)
unquoted-other (b ∷ []) h e = absurd (omega arith)
unquoted-other (b ∷ c ∷ text) h e =
    let n : length (b ∷ c ∷ text) - 1 ≡ suc (length text) = omega arith in
    let l : last_is b (c ∷ text) ≡ eqb (get_or (b ∷ c ∷ text) (length (b ∷ c ∷ text) - 1) 0) b = last-by b c text ∙ ap (λ (k : ℕ). eqb (get_or (b ∷ c ∷ text) k 0) b) (sym n) in
    let f : (is_quote b && last_is b (c ∷ text)) ≡ false = ap (λ (x : Bool). is_quote b && x) l ∙ e in
    rw f refl

pub unquoted-quoted : (text : Bytes) → 2 ≤ length text → (is_quote (get_or text 0 0) && eqb (get_or text (length text - 1) 0) (get_or text 0 0)) ≡ true → unquoted text ≡ drop 1 (take (length text - 1) text)
unquoted-quoted [] h e = absurd (omega arith)
unquoted-quoted (b ∷ []) h e = absurd (omega arith)
unquoted-quoted (b ∷ c ∷ text) h e =
    let n : length (b ∷ c ∷ text) - 1 ≡ suc (length text) = omega arith in
    let l : last_is b (c ∷ text) ≡ eqb (get_or (b ∷ c ∷ text) (length (b ∷ c ∷ text) - 1) 0) b = last-by b c text ∙ ap (λ (k : ℕ). eqb (get_or (b ∷ c ∷ text) k 0) b) (sym n) in
    let f : (is_quote b && last_is b (c ∷ text)) ≡ true = ap (λ (x : Bool). is_quote b && x) l ∙ e in
    let one : unquoted (b ∷ c ∷ text) ≡ without_last (c ∷ text) = rw f refl in
    one ∙ without-last-by c text ∙ ap (λ (k : ℕ). drop 1 (take k (b ∷ c ∷ text))) (sym n)
