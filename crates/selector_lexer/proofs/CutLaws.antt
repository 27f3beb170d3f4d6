-- A text is cut at its first bare byte that passes, and what follows is cut as a text of its own.
use Rattle.std.proofs.Common.{◌≡◌, ℕ, zero, suc, ◌+◌, ◌<◌, Bool, true, false, ◌||◌, ◌&&◌, eqb, List, [], ◌∷◌, length, get_or, take, drop, refl, sym, ap, subst, ◌∙◌, arith, inl, inr}
use Rattle.std.proofs.lemmas.Bool.{cases_Bool, eqb-true, and_parts}
use Rattle.cos_source.specs.Spaces.{is_space}
use Rattle.selector_spelling.specs.declared.open.Open.{Open}
use Rattle.selector_spelling.specs.Bytes.{Bytes, is_empty}
use Rattle.selector_spelling.specs.Scan.{Scan, bare, is_bare, step}
use Rattle.selector_spelling.specs.Cuts.{Part, longer, parts_from, is_comma, is_sign}
use Rattle.selector_lexer.specs.declared.cuts.Cut.{Cut}
use Rattle.selector_lexer.specs.declared.cuts.Cut.TheVariants.{Comma, Sign, Space}
use Rattle.selector_lexer.specs.Splits.{cuts, first_part}

-- a bare byte that passes leaves the scan bare
pub record Separates (p : ℕ → Bool) : Type 0 where
  pub low : (b : ℕ) → p b ≡ true → b < 128
  pub again : (b : ℕ) (s : Scan) (rest : Bytes) → p b ≡ true → is_bare s ≡ true → step s b rest ≡ bare

-- ---- the separators

module _ (b : ℕ) where
  abbrev IsPlain : Type 0
  IsPlain = (b < 128) × ((next : Open) (rest : Bytes) → step (record { stack = []; skip = 0; next = next }) b rest ≡ bare)

  one_of : (c : ℕ) → c < 128 → ((next : Open) (rest : Bytes) → step (record { stack = []; skip = 0; next = next }) c rest ≡ bare) → eqb b c ≡ true → IsPlain
  one_of c low computes e =
      let same : c ≡ b = sym (eqb-true b c e) in
      (omega (arith, low, same), λ next rest. subst (λ (k : ℕ). step (record { stack = []; skip = 0; next = next }) k rest ≡ bare) same (computes next rest))

  either : (x y : Bool) → (x ≡ true → IsPlain) → (y ≡ true → IsPlain) → (x || y) ≡ true → IsPlain
  either true y f g e = f refl
  either false y f g e = g e

comma-plain : (b : ℕ) → is_comma b ≡ true → IsPlain b
comma-plain b e = one_of b 44 (omega arith) (λ next rest. refl) e

sign-plain : (b : ℕ) → is_sign b ≡ true → IsPlain b
sign-plain b e =
    either b (eqb b 62 || eqb b 43) (eqb b 126)
    (either b (eqb b 62) (eqb b 43) (one_of b 62 (omega arith) (λ next rest. refl)) (one_of b 43 (omega arith) (λ next rest. refl)))
    (one_of b 126 (omega arith) (λ next rest. refl)) e

space-plain : (b : ℕ) → is_space b ≡ true → IsPlain b
space-plain b e =
    either b (eqb b 32 || eqb b 9 || eqb b 12) (eqb b 13)
    (either b (eqb b 32 || eqb b 9) (eqb b 12)
    (either b (eqb b 32) (eqb b 9) (one_of b 32 (omega arith) (λ next rest. refl)) (one_of b 9 (omega arith) (λ next rest. refl)))
    (one_of b 12 (omega arith) (λ next rest. refl)))
    (one_of b 13 (omega arith) (λ next rest. refl)) e

nil_from_empty : {A : Type 0} (xs : List A) → is_empty xs ≡ true → xs ≡ []
nil_from_empty [] e = refl
nil_from_empty (x ∷ xs) e = absurd (let f : true ≡ false = sym e in cc)

by_fields : (b : ℕ) (stack : List Open) (skip : ℕ) (next : Open) (rest : Bytes) → IsPlain b → stack ≡ [] → skip ≡ 0 → step (record { stack = stack; skip = skip; next = next }) b rest ≡ bare
by_fields b stack skip next rest plain e f =
    ap (λ (v : List Open). step (record { stack = v; skip = skip; next = next }) b rest) e ∙ ap (λ (k : ℕ). step (record { stack = []; skip = k; next = next }) b rest) f ∙ plain.1 next rest

from_plain : (p : ℕ → Bool) → ((b : ℕ) → p b ≡ true → IsPlain b) → Separates p
from_plain p plain = record {
  low = λ b e. (plain b e).0;
  again = λ b s rest e bare-is.
      let q = and_parts (is_empty s.stack) (eqb s.skip 0) bare-is in
      by_fields b s.stack s.skip s.next rest (plain b e) (nil_from_empty s.stack q.0) (eqb-true s.skip 0 q.1);
}

pub cuts-separate : (cut : Cut) → Separates (cuts cut)
cuts-separate Comma = from_plain is_comma comma-plain
cuts-separate Sign = from_plain is_sign sign-plain
cuts-separate Space = from_plain is_space space-plain

-- ---- the first part

abbrev part : ℕ → ℕ → Bytes → Part
part sign at text = record { sign = sign; at = at; text = text }

module _ (p : ℕ → Bool) (separates : Separates p) where
  cut-here : (s : Scan) (sign at b : ℕ) (text : Bytes) → (is_bare s && p b) ≡ true → parts_from p s sign at (b ∷ text) ≡ part sign at [] ∷ parts_from p (step s b text) b (at + 1) text
  cut-here s sign at b text h = rw h refl

  uncut-here : (s : Scan) (sign at b : ℕ) (text : Bytes) → (is_bare s && p b) ≡ false → parts_from p s sign at (b ∷ text) ≡ longer sign at b (parts_from p (step s b text) sign (at + 1) text)
  uncut-here s sign at b text h = rw h refl

  part-cut : (s : Scan) (b : ℕ) (text : Bytes) → (is_bare s && p b) ≡ true → first_part p s (b ∷ text) ≡ []
  part-cut s b text h = rw h refl

  part-uncut : (s : Scan) (b : ℕ) (text : Bytes) → (is_bare s && p b) ≡ false → first_part p s (b ∷ text) ≡ b ∷ first_part p (step s b text) text
  part-uncut s b text h = rw h refl

  pub parts-last : (s : Scan) (sign at : ℕ) (text : Bytes) → first_part p s text ≡ text → parts_from p s sign at text ≡ part sign at text ∷ []
  parts-last s sign at [] e = refl
  parts-last s sign at (b ∷ text) e =
      elim (cases_Bool (is_bare s && p b)) [
        | inl h ↦ absurd (let f : [] ≡ b ∷ text = sym (part-cut s b text h) ∙ e in cc)
        | inr h ↦ (
            let more : first_part p (step s b text) text ≡ text = (let f : b ∷ first_part p (step s b text) text ≡ b ∷ text = sym (part-uncut s b text h) ∙ e in cc) in
            uncut-here s sign at b text h ∙ ap (longer sign at b) (parts-last (step s b text) sign (at + 1) text more))
      ]

  pub parts-first : (s : Scan) (sign at n : ℕ) (text : Bytes) → n < length text → first_part p s text ≡ take n text
      → parts_from p s sign at text ≡ part sign at (take n text) ∷ parts_from p bare (get_or text n 0) (at + n + 1) (drop (n + 1) text)
  parts-first s sign at n [] lt e = absurd (omega arith)
  parts-first s sign at zero (b ∷ text) lt e =
      elim (cases_Bool (is_bare s && p b)) [
        | inl h ↦ (
            let q = and_parts (is_bare s) (p b) h in
            cut-here s sign at b text h ∙ ap (λ (t : Scan). part sign at [] ∷ parts_from p t b (at + 1) text) (separates.again b s text q.1 q.0)
            ∙ (let k : at + 1 ≡ at + 0 + 1 = omega arith in ap (λ (m : ℕ). part sign at [] ∷ parts_from p bare b m text) k))
        | inr h ↦ absurd (let f : b ∷ first_part p (step s b text) text ≡ [] = sym (part-uncut s b text h) ∙ e in cc)
      ]
  parts-first s sign at (suc n) (b ∷ text) lt e =
      elim (cases_Bool (is_bare s && p b)) [
        | inl h ↦ absurd (let f : [] ≡ b ∷ take n text = sym (part-cut s b text h) ∙ e in cc)
        | inr h ↦ (
            let more : first_part p (step s b text) text ≡ take n text = (let f : b ∷ first_part p (step s b text) text ≡ b ∷ take n text = sym (part-uncut s b text h) ∙ e in cc) in
            let k : at + 1 + n + 1 ≡ at + suc n + 1 = omega arith in
            let d : drop (n + 1) text ≡ drop (suc n + 1) (b ∷ text) = (let j : suc n + 1 ≡ suc (n + 1) = omega arith in ap (λ (m : ℕ). drop m (b ∷ text)) (sym j)) in
            uncut-here s sign at b text h ∙ ap (longer sign at b) (parts-first (step s b text) sign (at + 1) n text (omega arith) more)
            ∙ ap (λ (m : ℕ). part sign at (b ∷ take n text) ∷ parts_from p bare (get_or text n 0) m (drop (n + 1) text)) k
            ∙ ap (λ (v : Bytes). part sign at (b ∷ take n text) ∷ parts_from p bare (get_or text n 0) (at + suc n + 1) v) d)
      ]
