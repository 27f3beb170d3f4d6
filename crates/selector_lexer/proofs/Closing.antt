-- Only an ASCII byte closes the last that is open, and nothing is skipped behind it.
use Rattle.std.proofs.Common.{◌≡◌, ℕ, zero, suc, ◌+◌, ◌<◌, true, false, ◌||◌, eqb, List, [], ◌∷◌, ◌++◌, length, get_or, take, drop, refl, sym, ap, ◌∙◌, arith, inl, inr}
use Rattle.std.proofs.lemmas.Bool.{cases_Bool, false≢true, eqb-true, and_parts}
use Rattle.std.proofs.lemmas.List.{drop_more, take_more, append_assoc, append-nil}
use Rattle.selector_spelling.specs.declared.open.Open.{Open}
use Rattle.selector_spelling.specs.declared.open.Open.TheVariants.{Selector, Raw, Round, Square, DoubleQuote, SingleQuote}
use Rattle.selector_spelling.specs.Bytes.{Bytes, is_empty, is_quote, begins_with, front, behind, is_pseudo_byte, colon, round_open, round_close, square_open, square_close, backslash}
use Rattle.selector_spelling.specs.Scan.{Scan, is_bare, standing, behind_name, behind_colon, in_pieces, in_raw, in_square, in_string, step, within}

-- what is said of the scan behind the byte b
abbrev pub Closes : ℕ → Scan → Type 0
Closes b t = is_empty t.stack ≡ true → (b < 128) × (t.skip ≡ 0)

stays : (b : ℕ) (t : Scan) → is_empty t.stack ≡ false → Closes b t
stays b t e f = absurd (false≢true (sym e ∙ f))

low_closing : (b c : ℕ) → c < 128 → eqb b c ≡ true → b < 128
low_closing b c h e = omega (arith, h, eqb-true b c e)

low_either : (b c d : ℕ) → c < 128 → d < 128 → (eqb b c || eqb b d) ≡ true → b < 128
low_either b c d h k e =
    elim (cases_Bool (eqb b c)) [
      | inl is ↦ low_closing b c h is
      | inr other ↦ low_closing b d k (let f : (eqb b c || eqb b d) ≡ eqb b d = rw other refl in sym f ∙ e)
    ]

module _ (o : Open) (others : List Open) where
  name-stays : (name rest : Bytes) → is_empty (behind_name (o ∷ others) name rest).stack ≡ false
  name-stays name [] = refl
  name-stays name (c ∷ rest) = elim (cases_Bool (eqb c round_open)) [ inl is ↦ rw is refl | inr other ↦ rw other refl ]

  colon-stays : (text : Bytes) → is_empty (behind_colon (o ∷ others) text).stack ≡ false
  colon-stays text =
      elim (cases_Bool (begins_with colon text)) [
        | inl is ↦ rw is refl
        | inr other ↦ rw other (name-stays (front is_pseudo_byte text) (behind is_pseudo_byte text))
      ]

  module _ (next : Open) where
    abbrev here : Scan
    here = record { stack = o ∷ others; skip = 0; next = next }

    raw-closes : (b : ℕ) → Closes b (in_raw here b)
    raw-closes b =
        elim (cases_Bool (eqb b round_open)) [
          | inl is ↦ rw is (stays b (standing (Raw ∷ o ∷ others)) refl)
          | inr other ↦ elim (cases_Bool (eqb b round_close)) [
            | inl close ↦ rw (other, close) (λ e. (low_closing b round_close (omega arith) close, refl))
            | inr last ↦ rw (other, last) (stays b (standing (o ∷ others)) refl)
          ]
        ]

    string-closes : (q b : ℕ) → q < 128 → Closes b (in_string q here b)
    string-closes q b h =
        elim (cases_Bool (eqb b q)) [
          | inl close ↦ rw close (λ e. (low_closing b q h close, refl))
          | inr last ↦ rw last (stays b (standing (o ∷ others)) refl)
        ]

    square-closes : (b : ℕ) → Closes b (in_square here b)
    square-closes b =
        elim (cases_Bool (is_quote b)) [
          | inl is ↦ rw is (λ e. absurd (false≢true e))
          | inr other ↦ elim (cases_Bool (eqb b square_close)) [
            | inl close ↦ rw (other, close) (λ e. (low_closing b square_close (omega arith) close, refl))
            | inr last ↦ rw (other, last) (stays b (standing (o ∷ others)) refl)
          ]
        ]

    pieces-closes : (b : ℕ) (text : Bytes) → Closes b (in_pieces here b text)
    pieces-closes b text =
        elim (cases_Bool (eqb b colon)) [
          | inl is ↦ rw is (stays b (behind_colon (o ∷ others) text) (colon-stays text))
          | inr c ↦ elim (cases_Bool (eqb b round_open)) [
            | inl is ↦ rw (c, is) (stays b (standing (next ∷ o ∷ others)) refl)
            | inr r ↦ elim (cases_Bool (eqb b square_open)) [
              | inl is ↦ rw (c, r, is) (stays b (standing (Square ∷ o ∷ others)) refl)
              | inr s ↦ elim (cases_Bool (is_quote b)) [
                | inl is ↦ rw (c, r, s, is) (λ e. absurd (false≢true e))
                | inr q ↦ elim (cases_Bool (eqb b round_close || eqb b square_close)) [
                  | inl close ↦ rw (c, r, s, q, close) (λ e. (low_either b round_close square_close (omega arith) (omega arith) close, refl))
                  | inr last ↦ rw (c, r, s, q, last) (stays b (standing (o ∷ others)) refl)
                ]
              ]
            ]
          ]
        ]

inside-closes : (o : Open) (others : List Open) (next : Open) (b : ℕ) (text : Bytes) → eqb b backslash ≡ false
    → Closes b (step (record { stack = o ∷ others; skip = 0; next = next }) b text)
inside-closes Selector others next b text h = rw h (pieces-closes Selector others next b text)
inside-closes Round others next b text h = rw h (pieces-closes Round others next b text)
inside-closes Raw others next b text h = rw h (raw-closes Raw others next b)
inside-closes Square others next b text h = rw h (square-closes Square others next b)
inside-closes DoubleQuote others next b text h = rw h (string-closes DoubleQuote others next 34 b (omega arith))
inside-closes SingleQuote others next b text h = rw h (string-closes SingleQuote others next 39 b (omega arith))

by_fields : (stack : List Open) (skip : ℕ) (next : Open) (b : ℕ) (text : Bytes) → is_empty stack ≡ false → Closes b (step (record { stack = stack; skip = skip; next = next }) b text)
by_fields [] skip next b text h = λ e. absurd (false≢true (sym h))
by_fields (o ∷ others) (suc skip) next b text h = λ e. absurd (false≢true e)
by_fields (o ∷ others) zero next b text h =
    elim (cases_Bool (eqb b backslash)) [
      | inl is ↦ rw is (λ e. absurd (false≢true e))
      | inr other ↦ inside-closes o others next b text other
    ]

pub step-closes : (s : Scan) (b : ℕ) (text : Bytes) → is_empty s.stack ≡ false → Closes b (step s b text)
step-closes s b text h = by_fields s.stack s.skip s.next b text h

-- what is still open behind a byte, where it isn't bare
pub step-open : (s : Scan) (b : ℕ) (text : Bytes) → is_empty s.stack ≡ false → is_bare (step s b text) ≡ false → is_empty (step s b text).stack ≡ false
step-open s b text h e =
    let t = step s b text in
    elim (cases_Bool (is_empty t.stack)) [
      | inl empty ↦ absurd (let k : t.skip ≡ 0 = (step-closes s b text h empty).1 in let f : is_bare t ≡ true = rw (empty, k) refl in false≢true (sym e ∙ f))
      | inr some ↦ some
    ]

-- ---- the end of an argument, byte by byte

module _ (whole text : Bytes) (s t : Scan) (at : ℕ) (inside : at < length text) (stepped : t ≡ step s (get_or text at 0) (drop (at + 1) text))
    (so_far : take at text ++ within s (drop at text) ≡ whole) (some : is_empty s.stack ≡ false) where
  abbrev byte : ℕ
  byte = get_or text at 0

  abbrev rest : Bytes
  rest = drop (at + 1) text

  pub argument-more : is_bare t ≡ false → (take (at + 1) text ++ within t rest ≡ whole) × (is_empty t.stack ≡ false)
  argument-more e =
      let next = step s byte rest in
      let f : is_bare next ≡ false = ap is_bare (sym stepped) ∙ e in
      let one : within s (byte ∷ rest) ≡ byte ∷ within next rest = rw f refl in
      let two : within s (drop at text) ≡ byte ∷ within t rest = ap (within s) (drop_more text at 0 inside) ∙ one ∙ ap (λ (u : Scan). byte ∷ within u rest) (sym stepped) in (
        ap (λ (v : Bytes). v ++ within t rest) (take_more text at 0 inside) ∙ append_assoc (take at text) (byte ∷ []) (within t rest) ∙ ap (λ (v : Bytes). take at text ++ v) (sym two) ∙ so_far,
        ap (λ (u : Scan). is_empty u.stack) stepped ∙ step-open s byte rest some f,
      )

  pub argument-done : is_bare t ≡ true → (whole ≡ take at text) × (byte < 128)
  argument-done e =
      let next = step s byte rest in
      let f : is_bare next ≡ true = ap is_bare (sym stepped) ∙ e in
      let one : within s (byte ∷ rest) ≡ [] = rw f refl in
      let two : within s (drop at text) ≡ [] = ap (within s) (drop_more text at 0 inside) ∙ one in (
        sym so_far ∙ ap (λ (v : Bytes). take at text ++ v) two ∙ append-nil (take at text),
        (step-closes s byte rest some (and_parts (is_empty next.stack) (eqb next.skip 0) f).0).0,
      )
