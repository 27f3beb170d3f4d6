-- Compounds, chains and selectors, part by part.
use Rattle.std.specs.Prelude.{IfSome}
use Rattle.std.proofs.Common.{◌≡◌, ℕ, zero, suc, ◌+◌, ◌-◌, ◌<◌, ◌≤◌, Bool, true, false, ◌&&◌, List, [], ◌∷◌, ◌++◌, length, drop, Option, Some, None, Result, Ok, Err, refl, sym, ap, ◌∙◌, arith, inl, inr}
use Rattle.std.proofs.lemmas.Bool.{cases_Bool, false≢true}
use Rattle.std.proofs.lemmas.List.{length-drop}
use Rattle.cos_source.specs.Spaces.{is_space, without_first_spaces}
use Rattle.selector_tree.specs.declared.selector.Step.{Step}
use Rattle.selector_spelling.specs.declared.finding.Cause.TheVariants as cause
use Rattle.selector_spelling.specs.declared.finding.Finding.{Finding}
use Rattle.selector_spelling.specs.declared.reading.Notes.{Notes}
use Rattle.selector_spelling.specs.declared.reading.Reading.{Reading}
use Rattle.selector_spelling.specs.declared.reading.Setting.{Setting}
use Rattle.selector_spelling.specs.Bytes.{Bytes, is_empty}
use Rattle.selector_spelling.specs.Scan.{Scan, bare, is_bare}
use Rattle.selector_spelling.specs.Scan as scan
use Rattle.selector_spelling.specs.Cuts.{Part, longer, parts_from, compound, filled, behind_space, compounds, is_sign}
use Rattle.selector_spelling.specs.Pieces.{bad, nothing, Piece, piece_length, then_others, pieces}
use Rattle.selector_lexer.specs.declared.cuts.Behind.{Behind}
use Rattle.selector_lexer.specs.declared.cuts.First.{First}
use Rattle.selector_lexer.specs.declared.cuts.Cut.TheVariants.{Space}
use Rattle.selector_lexer.specs.Splits.{parts_behind, bytes_behind, IsFirst}
use Rattle.spelling_reader.specs.Readings.{Inner, piece_at, ReadsPiece}
use Rattle.spelling_reader.specs.Chains.{items_read, compounds_read}
use Rattle.selector_lexer.proofs.CutLaws.{cuts-separate}
use Rattle.spelling_reader.proofs.SoFar.{then_read}

-- ---- pieces

module _ (inner : Inner) (setting : Setting) where
  pub pieces-skip : (first : Bool) (at k : ℕ) (text : Bytes) → pieces inner setting first at k text ≡ pieces inner setting first (at + k) zero (drop k text)
  pieces-skip first at zero text = let e : at ≡ at + 0 = omega arith in ap (λ (n : ℕ). pieces inner setting first n zero text) e
  pieces-skip first at (suc k) [] = refl
  pieces-skip first at (suc k) (b ∷ text) =
      let e : at + 1 + k ≡ at + suc k = omega arith in
      pieces-skip first (at + 1) k text ∙ ap (λ (n : ℕ). pieces inner setting first n zero (drop k text)) e

  drop-behind : (n b : ℕ) (more : Bytes) → 1 ≤ n → drop (n - 1) more ≡ drop n (b ∷ more)
  drop-behind zero b more h = absurd (omega arith)
  drop-behind (suc n) b more h = let e : suc n - 1 ≡ n = omega arith in ap (λ (k : ℕ). drop k more) e

  read-piece : (first : Bool) (at : ℕ) (text : Bytes) (p : Piece) → 0 < length text → piece_at inner setting first at text ≡ Ok p → 1 ≤ p.length
      → pieces inner setting first at zero text ≡ then_read (Ok p.reading) (pieces inner setting false (at + p.length) zero (drop p.length text))
  read-piece first at [] p some e h = absurd (omega arith)
  read-piece first at (b ∷ more) p some e h =
      let n : at + 1 + (p.length - 1) ≡ at + p.length = omega arith in
      ap (λ (x : Result Piece Finding). then_others x (pieces inner setting false (at + 1) (piece_length x - 1) more)) e
      ∙ ap (then_read (Ok p.reading)) (pieces-skip false (at + 1) (p.length - 1) more ∙ ap (λ (k : ℕ). pieces inner setting false k zero (drop (p.length - 1) more)) n
      ∙ ap (pieces inner setting false (at + p.length) zero) (drop-behind p.length b more h))

  -- where nothing is left, the place is no matter
  any-place : (at at' : ℕ) (rest : Bytes) → (0 < length rest → at' ≡ at) → pieces inner setting false at zero rest ≡ pieces inner setting false at' zero rest
  any-place at at' [] h = refl
  any-place at at' (b ∷ rest) h = ap (λ (k : ℕ). pieces inner setting false k zero (b ∷ rest)) (sym (h (omega arith)))

  pub piece-next : (first : Bool) (at at' : ℕ) (text rest : Bytes) (steps steps' : List Step) (notes notes' : Notes) → 0 < length text → at' + length rest ≡ at + length text
      → (r : ReadsPiece steps steps' notes notes' text rest (piece_at inner setting first at text))
      → pieces inner setting first at zero text ≡ then_read (Ok r.read.reading) (pieces inner setting false at' zero rest)
  piece-next first at at' text rest steps steps' notes notes' some places r =
      let n = r.read.length in
      let place : 0 < length rest → at' ≡ at + n = λ h. (let k : length rest ≡ length text - n = ap length r.rest_is ∙ length-drop n text in omega (arith, h, k, places)) in
      read-piece first at text r.read some r.is r.some
      ∙ ap (λ (v : Bytes). then_read (Ok r.read.reading) (pieces inner setting false (at + n) zero v)) (sym r.rest_is)
      ∙ ap (then_read (Ok r.read.reading)) (any-place (at + n) at' rest place)

  pub piece-fails : (first : Bool) (at : ℕ) (text : Bytes) (f : Finding) → 0 < length text → piece_at inner setting first at text ≡ Err f → pieces inner setting first at zero text ≡ Err f
  piece-fails first at [] f some e = absurd (omega arith)
  piece-fails first at (b ∷ more) f some e = ap (λ (x : Result Piece Finding). then_others x (pieces inner setting false (at + 1) (piece_length x - 1) more)) e

-- ---- words

abbrev part : ℕ → ℕ → Bytes → Part
part sign at text = record { sign = sign; at = at; text = text }

-- the compounds of a text, whose first stands behind a byte
abbrev pub words : ℕ → ℕ → Bytes → List Part
words sign at text = filled (parts_from is_space bare sign at text)

abbrev pub words_behind : ℕ → Option Behind → List Part
words_behind at behind = filled (parts_behind is_space at behind)

cut-space : (sign at b : ℕ) (text : Bytes) → is_space b ≡ true → parts_from is_space bare sign at (b ∷ text) ≡ part sign at [] ∷ parts_from is_space (scan.step bare b text) b (at + 1) text
cut-space sign at b text h = rw h refl

word-space : (sign at b : ℕ) (text : Bytes) → is_space b ≡ true → words sign at (b ∷ text) ≡ words b (at + 1) text
word-space sign at b text h =
    ap filled (cut-space sign at b text h ∙ ap (λ (s : Scan). part sign at [] ∷ parts_from is_space s b (at + 1) text) ((cuts-separate Space).again b bare text h refl))

-- the words behind the white space at the front
pub record Trimmed (sign at : ℕ) (text : Bytes) : Type 0 where
  pub behind : ℕ
  pub place : ℕ
  pub place_is : place + length (without_first_spaces text) ≡ at + length text
  pub same : words sign at text ≡ words behind place (without_first_spaces text)

trimmed-space : (b : ℕ) (text : Bytes) → is_space b ≡ true → without_first_spaces (b ∷ text) ≡ without_first_spaces text
trimmed-space b text h = rw h refl

trimmed-other : (b : ℕ) (text : Bytes) → is_space b ≡ false → without_first_spaces (b ∷ text) ≡ b ∷ text
trimmed-other b text h = rw h refl

pub trimmed-words : (sign at : ℕ) (text : Bytes) → Trimmed sign at text
trimmed-words sign at [] = record { behind = sign; place = at; place_is = refl; same = refl }
trimmed-words sign at (b ∷ text) =
    elim (cases_Bool (is_space b)) [
      | inl h ↦ (
          let t = trimmed-words b (at + 1) text in
          let e = trimmed-space b text h in
          record {
            behind = t.behind;
            place = t.place;
            place_is = omega (arith, t.place_is, ap length e);
            same = word-space sign at b text h ∙ t.same ∙ ap (words t.behind t.place) (sym e);
          })
      | inr h ↦ (
          let e = trimmed-other b text h in
          record { behind = sign; place = at; place_is = ap (λ (v : Bytes). at + length v) e; same = ap (words sign at) (sym e) })
    ]

-- a text that doesn't begin with white space
pub trimmed-first : (text : Bytes) (b : ℕ) (more : Bytes) → without_first_spaces text ≡ b ∷ more → is_space b ≡ false
trimmed-first [] b more e = absurd (let f : [] ≡ b ∷ more = e in cc)
trimmed-first (c ∷ text) b more e =
    elim (cases_Bool (is_space c)) [
      | inl h ↦ trimmed-first text b more (sym (trimmed-space c text h) ∙ e)
      | inr h ↦ (let f : c ∷ text ≡ b ∷ more = sym (trimmed-other c text h) ∙ e in let g : c ≡ b = cc in ap is_space (sym g) ∙ h)
    ]

word-first : (sign at : ℕ) (text front : Bytes) (parts : List Part) → (front ≡ [] → ⊥) → filled (part sign at front ∷ parts) ≡ part sign at front ∷ filled parts
word-first sign at text [] parts h = absurd (h refl)
word-first sign at text (b ∷ front) parts h = refl

starts-with-space : (b : Option Behind) (c : ℕ) (more : Bytes) → IfSome b (λ behind. is_space behind.sign ≡ true) → c ∷ more ≡ bytes_behind b → is_space c ≡ true
starts-with-space None c more h e = absurd (let f : c ∷ more ≡ [] = e in cc)
starts-with-space (Some behind) c more h e = (let f : c ∷ more ≡ behind.sign ∷ behind.text.now = e in let g : c ≡ behind.sign = cc in ap is_space g ∙ h)

pub filled-front : (text : Bytes) (c : ℕ) (more : Bytes) (first : First) → text ≡ c ∷ more → is_space c ≡ false → IsFirst Space text first → first.text.now ≡ [] → ⊥
filled-front text c more first cons other f e =
    false≢true (sym other ∙ starts-with-space first.behind c more f.passes (sym cons ∙ f.whole ∙ ap (λ (v : Bytes). v ++ bytes_behind first.behind) e))

-- the first word of a text that doesn't begin with white space
pub first-word : (sign at c : ℕ) (text more : Bytes) (first : First) → text ≡ c ∷ more → is_space c ≡ false → IsFirst Space text first
    → words sign at text ≡ part sign at first.text.now ∷ words_behind (at + length first.text.now) first.behind
first-word sign at c text more first cons other f =
    ap filled (f.parts sign at) ∙ word-first sign at text first.text.now (parts_behind is_space (at + length first.text.now) first.behind) (filled-front text c more first cons other f)

longer-some : (sign at b : ℕ) (ps : List Part) → is_empty (longer sign at b ps) ≡ false
longer-some sign at b [] = refl
longer-some sign at b (p ∷ ps) = refl

-- ---- chains

module _ (inner : Inner) (setting : Setting) where
  abbrev nested : Bool
  nested = setting.nested

  abbrev several : Bool
  several = setting.several

  -- from a word on
  abbrev pub words_read : List Part → Result Reading Finding
  words_read [] = Ok nothing
  words_read (p ∷ ps) = items_read inner setting (compound p.at p.text ∷ behind_space ps)

  pub no-compound : (at : ℕ) (text : Bytes) → without_first_spaces text ≡ [] → compounds_read inner setting at text ≡ bad cause.EmptyPart (at + length text)
  no-compound at text e =
      let t = trimmed-words 0 at text in
      let w : words 0 at text ≡ [] = t.same ∙ ap (words t.behind t.place) e in
      ap (λ (ps : List Part). items_read inner setting (compounds (at + length text) ps)) w

  some-words : (end : ℕ) (p : Part) (ps whole : List Part) → whole ≡ p ∷ ps → items_read inner setting (compounds end whole) ≡ words_read whole
  some-words end p ps whole e = ap (λ (v : List Part). items_read inner setting (compounds end v)) e ∙ ap words_read (sym e)

  -- the setting of a compound behind which there are words or none
  abbrev pub word_setting : List Part → Setting
  word_setting ps = record { nested = setting.nested; several = setting.several; last = is_empty (behind_space ps) && setting.last }

  pub words-first : (sign at c : ℕ) (text more : Bytes) (first : First) → text ≡ c ∷ more → is_space c ≡ false → IsFirst Space text first
      → words_read (words sign at text)
      ≡ then_read (pieces inner (word_setting (words_behind (at + length first.text.now) first.behind)) true at zero first.text.now)
      (items_read inner setting (behind_space (words_behind (at + length first.text.now) first.behind)))
  words-first sign at c text more first cons other f = ap words_read (first-word sign at c text more first cons other f)

  pub words-end : (at : ℕ) (behind : Option Behind) → words_behind at behind ≡ [] → items_read inner setting (behind_space (words_behind at behind)) ≡ Ok nothing
  words-end at behind e = ap (λ (ps : List Part). items_read inner setting (behind_space ps)) e

  -- ---- signs

  parts-some : (s : Scan) (sign at : ℕ) (text : Bytes) → is_empty (parts_from is_sign s sign at text) ≡ false
  parts-some s sign at [] = refl
  parts-some s sign at (b ∷ text) =
      elim (cases_Bool (is_bare s && is_sign b)) [
        | inl h ↦ rw h refl
        | inr h ↦ rw h (longer-some sign at b (parts_from is_sign (scan.step s b text) sign (at + 1) text))
      ]
