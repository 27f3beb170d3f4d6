-- The first word of a text, and those behind it.
use Rattle.std.proofs.Common.{◌≡◌, ◌⊎◌, ◌-◌, ◌<◌, ◌++◌, ℕ, suc, Bool, true, false, not, List, [], ◌∷◌, length, take, drop, arith, refl, sym, ap, ◌∙◌, inl, inr, append_assoc, Some, None}
use Rattle.std.proofs.lemmas.Grind.{common_steps}
use Rattle.std.proofs.lemmas.List.{append-nil, length-drop}
use Rattle.std.specs.Char.{is_ascii_whitespace}
use Rattle.std.proofs.lemmas.Bool.{cases_lt, lt-ltb}
use Rattle.std.proofs.lemmas.List.Sums.{prefix_len-le-length}
use Rattle.std.specs.List.{position, position_or_len}
use Rattle.page_tree.specs.Words.{words, words_from, kept}

abbrev length_of_word : List ℕ → ℕ
length_of_word = position_or_len is_ascii_whitespace

-- a byte before a text, by what it is
on_space : (c : ℕ) (bytes : List ℕ) → is_ascii_whitespace c ≡ true → length_of_word (c ∷ bytes) ≡ 0
on_space c bytes e = rw e refl

on_other : (c : ℕ) (bytes : List ℕ) → is_ascii_whitespace c ≡ false → length_of_word (c ∷ bytes) ≡ suc (length_of_word bytes)
on_other c bytes e = rw e (omega arith)

words_from-space : (front : List ℕ) (c : ℕ) (bytes : List ℕ) → is_ascii_whitespace c ≡ true → words_from front (c ∷ bytes) ≡ kept front (words (c ∷ bytes))
words_from-space front c bytes e = rw e refl

words_from-other : (front : List ℕ) (c : ℕ) (bytes : List ℕ) → is_ascii_whitespace c ≡ false → words_from front (c ∷ bytes) ≡ words_from (front ++ c ∷ []) bytes
words_from-other front c bytes e = rw e refl

-- behind the front of a word comes the rest of it, and then the other words
words_from-cut : (bytes front : List ℕ) → words_from front bytes ≡ kept (front ++ take (length_of_word bytes) bytes) (words (drop (length_of_word bytes) bytes))
words_from-cut [] front = ap (λ f. kept f []) (sym (append-nil front))
words_from-cut (c ∷ bytes) front = by_kind (words_from-cut bytes (front ++ c ∷ [])) (is_ascii_whitespace c) refl
  where
    by_kind : words_from (front ++ c ∷ []) bytes ≡ kept ((front ++ c ∷ []) ++ take (length_of_word bytes) bytes) (words (drop (length_of_word bytes) bytes)) → (b : Bool) → is_ascii_whitespace c ≡ b → words_from front (c ∷ bytes) ≡ kept (front ++ take (length_of_word (c ∷ bytes)) (c ∷ bytes)) (words (drop (length_of_word (c ∷ bytes)) (c ∷ bytes)))
    by_kind later true e = rw (on_space c bytes e) (words_from-space front c bytes e ∙ ap (λ f. kept f (words (c ∷ bytes))) (sym (append-nil front)))
    by_kind later false e =
        rw (on_other c bytes e)
        (words_from-other front c bytes e ∙ later ∙ ap (λ f. kept f (words (drop (length_of_word bytes) bytes))) (append_assoc front (c ∷ []) (take (length_of_word bytes) bytes)))

-- a text that begins with a word
pub first_word : (text : List ℕ) → 0 < length_of_word text → words text ≡ take (length_of_word text) text ∷ words (drop (length_of_word text) text)
first_word [] h = absurd (omega arith)
first_word (c ∷ bytes) h = words_from-cut (c ∷ bytes) [] ∙ by_kind (is_ascii_whitespace c) refl
  where
    by_kind : (b : Bool) → is_ascii_whitespace c ≡ b
        → kept (take (length_of_word (c ∷ bytes)) (c ∷ bytes)) (words (drop (length_of_word (c ∷ bytes)) (c ∷ bytes))) ≡ take (length_of_word (c ∷ bytes)) (c ∷ bytes) ∷ words (drop (length_of_word (c ∷ bytes)) (c ∷ bytes))
    by_kind true e = absurd (omega (arith, on_space c bytes e))
    by_kind false e = rw (on_other c bytes e) refl

-- as the code cuts it
pub first_word_cut : (whole text : List ℕ) (end : ℕ) → words text ≡ words whole → (length text ≡ 0 ⊎ 0 < length_of_word text) → (length text ≡ 0 → ⊥) → end ≡ length_of_word text
    → words whole ≡ take end text ∷ words (take (length text - end) (drop end text))
first_word_cut whole text end same begins some e =
    elim begins [
      | inl none ↦ absurd (some none)
      | inr h ↦
          let rest : take (length text - end) (drop end text) ≡ drop end text = grind (arith, common_steps, length-drop end text) in
          sym same ∙ first_word text h ∙ sym (rw (rest, e) refl)
    ]

-- without white space all is one word
pub no_space : (text : List ℕ) → None ≡ position is_ascii_whitespace text → length text ≡ length_of_word text
no_space text e =
    elim (cases_lt (length_of_word text) (length text)) [
      | inl lt ↦ let found : position is_ascii_whitespace text ≡ Some (length_of_word text) = rw (lt-ltb (length_of_word text) (length text) lt) refl in let no : None ≡ Some (length_of_word text) = e ∙ found in cc
      | inr le ↦ omega (arith, prefix_len-le-length (λ b. not (is_ascii_whitespace b)) text)
    ]
