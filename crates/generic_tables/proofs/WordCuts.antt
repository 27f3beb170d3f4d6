-- The words of a text behind its first white space.
use Rattle.std.proofs.Common.{◌≡◌, ◌∙◌, ◌+◌, ◌<◌, ◌≤◌, ◌==◌, ℕ, zero, suc, Bool, true, false, not, leb, List, [], ◌∷◌, length, take, drop, get_or, arith, refl, sym, ap, ap₂, subst, inl, inr}
use Rattle.std.specs.Char.{is_ascii_whitespace}
use Rattle.std.specs.Str.{IsTrimAsciiStart, IsAsciiWhitespaceBelow, IsCharBoundary}
use Rattle.std.specs.List.{position_or_len}
use Rattle.std.specs.Int.{is_in_range}
use Rattle.std.proofs.lemmas.List.{get_or-drop}
use Rattle.std.proofs.lemmas.List.Sums.{prefix_len-le-length}
use Rattle.std.proofs.lemmas.Bool.{cases_lt, eqb-true, and_right, lt-leb, false≢true}
use Rattle.std.proofs.lemmas.Str.{IsCharBoundary-end, IsCharBoundary-before_ascii}
use Rattle.page_tree.specs.Words.{words}
use Rattle.selector_match.proofs.WordLaws.{first_word}

words-behind : (n : ℕ) (text : List ℕ) → n ≤ length text → IsAsciiWhitespaceBelow text n → words (drop n text) ≡ words text
words-behind zero text fits spaces = refl
words-behind (suc n) [] fits spaces = refl
words-behind (suc n) (c ∷ text) fits spaces =
    words-behind n text (lowered n (length text) fits) (λ i l. spaces (suc i) (raised i n l)) ∙ sym (step (is_ascii_whitespace c) (spaces 0 (positive n)))
  where
    lowered : (m k : ℕ) → suc m ≤ suc k → m ≤ k
    lowered m k h = omega arith

    raised : (m k : ℕ) → m < k → suc m < suc k
    raised m k h = omega arith

    positive : (m : ℕ) → 0 < suc m
    positive m = omega arith

    step : (b : Bool) → is_ascii_whitespace c ≡ true → words (c ∷ text) ≡ words text
    step b e = rw e refl

-- white space before a text is no part of its words
pub words-trimmed : (text rest : List ℕ) → IsTrimAsciiStart text rest → words rest ≡ words text
words-trimmed text rest (n, is, lengths, spaces, other) = ap words is ∙ words-behind n text (omega arith) spaces

-- nothing but white space has no words
pub no_words : (text rest : List ℕ) → IsTrimAsciiStart text rest → true ≡ (length rest == 0) → words text ≡ []
no_words text rest trimmed none = sym (words-trimmed text rest trimmed) ∙ empty rest none
  where
    empty : (bytes : List ℕ) → true ≡ (length bytes == 0) → words bytes ≡ []
    empty [] h = refl
    empty (c ∷ bytes) h = let none : suc (length bytes) ≡ 0 = eqb-true (suc (length bytes)) 0 (sym h) in absurd (omega arith)

-- how many bytes stand before the first white space
abbrev word_length : List ℕ → ℕ
word_length = position_or_len is_ascii_whitespace

-- behind that white space stands something else
pub begins : (text rest : List ℕ) → IsTrimAsciiStart text rest → false ≡ (length rest == 0) → 0 < word_length rest
begins text rest (n, is, lengths, spaces, other) some = by rest is (omega arith) some
  where
    at : (c : ℕ) (bytes : List ℕ) → c ∷ bytes ≡ drop n text → n < length text → is_ascii_whitespace c ≡ false
    at c bytes e l =
        let place : n + 0 ≡ n = omega arith in
        ap (λ (cs : List ℕ). is_ascii_whitespace (get_or cs 0 0)) e ∙ ap is_ascii_whitespace (get_or-drop n text 0 0)
        ∙ ap (λ (k : ℕ). is_ascii_whitespace (get_or text k 0)) place ∙ other l

    by : (bytes : List ℕ) → bytes ≡ drop n text → length bytes + n ≡ length text → false ≡ (length bytes == 0) → 0 < word_length bytes
    by [] e l h = absurd (false≢true h)
    by (c ∷ bytes) e l h = rw (at c bytes e (below (length bytes) n (length text) l)) (omega arith)
      where
        below : (a b m : ℕ) → suc a + b ≡ m → b < m
        below a b m e = omega arith

-- the first word, and what is behind it
pub cut : (text rest front behind : List ℕ) (end : ℕ) → IsTrimAsciiStart text rest → false ≡ (length rest == 0) → end ≡ word_length rest →
    front ≡ take end rest → behind ≡ drop end rest → words text ≡ front ∷ words behind
cut text rest front behind end trimmed some is f b =
    sym (words-trimmed text rest trimmed) ∙ first_word rest (begins text rest trimmed some)
    ∙ ap₂ (λ (x y : List ℕ). x ∷ words y) (ap (λ (n : ℕ). take n rest) (sym is) ∙ sym f) (ap (λ (n : ℕ). drop n rest) (sym is) ∙ sym b)

pub shorter : (text rest behind : List ℕ) (end : ℕ) → IsTrimAsciiStart text rest → false ≡ (length rest == 0) → end ≡ word_length rest →
    length behind + end ≡ length rest → length behind < length text
shorter text rest behind end trimmed some is l =
    let some_word = begins text rest trimmed some in
    let (n, e, lengths, spaces, other) = trimmed in
    omega arith

no_range : (low high b : ℕ) → high < b → is_in_range low high b ≡ false
no_range low high b h = and_right (leb low b) (leb b high) (lt-leb b high (omega arith))

high : (b : ℕ) → 128 ≤ b → is_ascii_whitespace b ≡ false
high b h = rw (no_range 9 10 b (omega arith), no_range 12 13 b (omega arith), no_range 32 32 b (omega arith)) refl

low : (b : ℕ) → is_ascii_whitespace b ≡ true → b < 128
low b e = elim (cases_lt b 128) [ inl l ↦ l | inr h ↦ absurd (false≢true (sym (high b h) ∙ e)) ]

at_space : (text : List ℕ) → word_length text < length text → is_ascii_whitespace (get_or text (word_length text) 0) ≡ true
at_space [] h = absurd (omega arith)
at_space (c ∷ text) h = by (is_ascii_whitespace c) refl (at_space text)
  where
    by : (b : Bool) → is_ascii_whitespace c ≡ b → (word_length text < length text → is_ascii_whitespace (get_or text (word_length text) 0) ≡ true) →
        is_ascii_whitespace (get_or (c ∷ text) (word_length (c ∷ text)) 0) ≡ true
    by true e later = ap (λ (k : ℕ). is_ascii_whitespace (get_or (c ∷ text) k 0)) (on_space e) ∙ e
      where
        on_space : is_ascii_whitespace c ≡ true → word_length (c ∷ text) ≡ 0
        on_space e = rw e refl
    by false e later =
        ap (λ (k : ℕ). is_ascii_whitespace (get_or (c ∷ text) k 0)) (on_other e)
        ∙ later (smaller (word_length (c ∷ text)) (word_length text) (length text) (on_other e) h)
      where
        on_other : is_ascii_whitespace c ≡ false → word_length (c ∷ text) ≡ suc (word_length text)
        on_other e = rw e (omega arith)

        smaller : (a b m : ℕ) → a ≡ suc b → a < suc m → b < m
        smaller a b m e h = omega arith

-- a text may be cut before its first white space
pub boundary : (text : List ℕ) (end : ℕ) → end ≡ word_length text → IsCharBoundary text end
boundary text end is = subst (λ (n : ℕ). IsCharBoundary text n) (sym is) (elim (cases_lt (word_length text) (length text)) [
  | inl l ↦ IsCharBoundary-before_ascii text (word_length text) l (low (get_or text (word_length text) 0) (at_space text l))
  | inr h ↦ (let most = prefix_len-le-length (λ b. not (is_ascii_whitespace b)) text in
      let e : length text ≡ word_length text = omega arith in
      subst (λ (n : ℕ). IsCharBoundary text n) e (IsCharBoundary-end text))
])
