-- One turn of each loop of the reader.
use Rattle.std.specs.Prelude.{is_some, is_none, MatchResult}
use Rattle.std.proofs.Common.{◌≡◌, ℕ, zero, ◌+◌, ◌<◌, ◌≤◌, Bool, true, false, not, eqb, ◌&&◌, List, [], ◌∷◌, ◌++◌, length, Option, Some, None, Result, Ok, Err, refl, sym, ap, subst, ◌∙◌, arith, inl, inr}
use Rattle.std.proofs.lemmas.List.{length-drop, nil_from_length}
use Rattle.std.proofs.lemmas.Bool.{cases_Bool, false≢true, and_parts, eqb-true, ne_eqb}
use Rattle.cos_source.specs.Spaces.{is_space, without_first_spaces}
use Rattle.selector_tree.specs.declared.selector.Place.TheVariants.{Descendant}
use Rattle.selector_tree.specs.declared.selector.Step.{Step}
use Rattle.selector_tree.specs.declared.selector.Step.TheVariants as step
use Rattle.selector_spelling.specs.declared.finding.Cause.TheVariants as cause
use Rattle.selector_spelling.specs.declared.finding.Finding.{Finding}
use Rattle.selector_spelling.specs.declared.reading.Notes.{Notes}
use Rattle.selector_spelling.specs.declared.reading.Reading.{Reading}
use Rattle.selector_spelling.specs.declared.reading.Chains.{Chains}
use Rattle.selector_spelling.specs.declared.reading.Setting.{Setting}
use Rattle.selector_spelling.specs.Bytes.{Bytes, is_empty, is_blank}
use Rattle.selector_spelling.specs.Scan.{bare}
use Rattle.selector_spelling.specs.Cuts.{Part, longer, parts_from, is_comma, filled, behind_space, compounds}
use Rattle.selector_spelling.specs.Scan as scan
use Rattle.selector_spelling.specs.Pieces.{◌>>=◌, bad, no_notes, one, Piece, pieces}
use Rattle.selector_spelling.specs.Texts.{place_of, chains_then, chains, selector}
use Rattle.selector_lexer.specs.declared.stop.Stop.{Stop}
use Rattle.selector_lexer.specs.declared.cuts.Behind.{Behind}
use Rattle.selector_lexer.specs.declared.cuts.First.{First}
use Rattle.selector_lexer.specs.declared.cuts.Cut.TheVariants.{Comma, Sign, Space}
use Rattle.selector_lexer.specs.Splits.{parts_behind, text_after, length_behind, IsFirst}
use Rattle.selector_lexer.specs.Stops.{Fails}
use Rattle.spelling_reader.specs.Readings.{Inner, Reads, ReadsChains, ReadsPiece, piece_at}
use Rattle.spelling_reader.specs.Chains.{items_read, compounds_read, signed_read, chain_read, lead}
use Rattle.spelling_reader.proofs.ReadsLaws.{reads_one, notes-nothing}
use Rattle.spelling_reader.proofs.SoFar.{then_read, SoFar, so_far_start, so_far_more, so_far_fails, so_far_last, so_far_last_fails, so_far_end}
use Rattle.spelling_reader.proofs.SelectorLaws.{ChainsSoFar, chains_start, chains_more, chains_last, first-chain, several-chains, front_read, signed-first, chain-signed, chain-plain, chain-led}
use Rattle.spelling_reader.proofs.ChainLaws.{piece-next, words, words_behind, words_read, trimmed-words, trimmed-first, no-compound, words-first, words-end}

-- ---- selectors

-- what is left of a selector from a part on
abbrev pub chains_left : Inner → Setting → Bool → ℕ → First → Result Chains Finding
chains_left inner setting in_has at first =
    chain_read inner setting in_has at first.text.now
    >>= λ r. chains inner setting.nested setting.several in_has (parts_behind is_comma (at + length first.text.now) first.behind) >>= λ l. Ok (chains_then r l)

module _ (inner : Inner) (setting : Setting) (in_has : Bool) where
  pub chains_first : (at : ℕ) (text : Bytes) (first : First) (notes : Notes) → setting.several ≡ is_some first.behind → IsFirst Comma text first
      → ChainsSoFar [] notes notes (chains_left inner setting in_has at first) (selector inner setting.nested in_has at text)
  chains_first at text first notes several f =
      let e : selector inner setting.nested in_has at text ≡ chains_left inner setting in_has at first =
      ap (λ (b : Bool). chains inner setting.nested b in_has (parts_from is_comma bare 0 at text)) (several-chains at text first f ∙ sym several)
      ∙ first-chain inner setting.nested setting.several in_has setting.last 0 at text first f
      in
      subst (λ (v : Result Chains Finding). ChainsSoFar [] notes notes (chains_left inner setting in_has at first) v) (sym e) (chains_start notes (chains_left inner setting in_has at first))

  chains-behind : (at at' : ℕ) (first first' : First) (b : Behind) → first.behind ≡ Some b → IsFirst Comma b.text.now first' → at' ≡ at + length first.text.now + 1
      → chains inner setting.nested setting.several in_has (parts_behind is_comma (at + length first.text.now) first.behind) ≡ chains_left inner setting in_has at' first'
  chains-behind at at' first first' b e f place =
      ap (λ (v : Option Behind). chains inner setting.nested setting.several in_has (parts_behind is_comma (at + length first.text.now) v)) e
      ∙ first-chain inner setting.nested setting.several in_has setting.last b.sign (at + length first.text.now + 1) b.text.now first' f
      ∙ ap (λ (k : ℕ). chains_left inner setting in_has k first') (sym place)

  pub chains_next : (at at' : ℕ) (first first' : First) (b : Behind) (cs cs' : List (List Step)) (steps : List Step) (n0 n n' : Notes) (whole : Result Chains Finding)
      → ChainsSoFar cs n0 n (chains_left inner setting in_has at first) whole → Reads [] steps n n' (chain_read inner setting in_has at first.text.now) → cs' ≡ cs ++ steps ∷ []
      → first.behind ≡ Some b → IsFirst Comma b.text.now first' → at' ≡ at + length first.text.now + 1 → ChainsSoFar cs' n0 n' (chains_left inner setting in_has at' first') whole
  chains_next at at' first first' b cs cs' steps n0 n n' whole f r cs-are e first-is place =
      chains_more cs cs' steps n0 n n' (chain_read inner setting in_has at first.text.now) (chains_left inner setting in_has at first) (chains_left inner setting in_has at' first') whole f r
      (ap (λ (v : Result Chains Finding). chain_read inner setting in_has at first.text.now >>= λ a. v >>= λ l. Ok (chains_then a l)) (chains-behind at at' first first' b e first-is place)) cs-are

  pub chains_done : (at : ℕ) (first : First) (cs cs' : List (List Step)) (steps : List Step) (n0 n n' : Notes) (whole : Result Chains Finding)
      → ChainsSoFar cs n0 n (chains_left inner setting in_has at first) whole → Reads [] steps n n' (chain_read inner setting in_has at first.text.now) → cs' ≡ cs ++ steps ∷ []
      → first.behind ≡ None → ReadsChains cs' n0 n' whole
  chains_done at first cs cs' steps n0 n n' whole f r cs-are e =
      chains_last cs cs' steps n0 n n' (chain_read inner setting in_has at first.text.now) (chains_left inner setting in_has at first) whole f r
      (ap (λ (v : Option Behind). chain_read inner setting in_has at first.text.now >>= λ a. chains inner setting.nested setting.several in_has (parts_behind is_comma (at + length first.text.now) v) >>= λ l. Ok (chains_then a l)) e) cs-are

-- ---- results

pub last_result : (s0 s s' : List Step) (n0 n n' : Notes) (r : Result (Unit {0}) Stop) (rest whole : Result Reading Finding) → SoFar s0 s n0 n rest whole
    → MatchResult r (λ _. Reads s s' n n' rest) (λ e. Fails e rest) → MatchResult r (λ _. Reads s0 s' n0 n' whole) (λ e. Fails e whole)
last_result s0 s s' n0 n n' (Ok u) rest whole f m = so_far_last s0 s s' n0 n n' rest whole f m
last_result s0 s s' n0 n n' (Err e) rest whole f m = so_far_last_fails s0 s n0 n rest whole e f m

-- ---- signs

module _ (inner : Inner) (setting : Setting) where
  abbrev with_last : Bool → Setting
  with_last last = record { nested = setting.nested; several = setting.several; last = last }

  module _ (at : ℕ) (b : Behind) (first : First) (s0 s s1 : List Step) (n0 n : Notes) (whole : Result Reading Finding)
      (f : SoFar s0 s n0 n (signed_read inner setting at (Some b)) whole) (s1-is : s1 ≡ s ++ step.Move (place_of b.sign) ∷ []) (first-is : IsFirst Sign b.text.now first) where
    moved : SoFar s0 s1 n0 n (front_read inner setting (at + 1) first) whole
    moved =
        so_far_more s0 s s1 n0 n n (Ok (one (step.Move (place_of b.sign)))) (signed_read inner setting at (Some b)) (front_read inner setting (at + 1) first) whole f
        (reads_one s s1 n n (step.Move (place_of b.sign)) (Ok (one (step.Move (place_of b.sign)))) refl s1-is refl) (signed-first inner setting at b first first-is)

    pub signs_next : (at' : ℕ) (s' : List Step) (n' : Notes) → Reads s1 s' n n' (compounds_read inner (with_last (is_none first.behind)) (at + 1) first.text.now) → at' ≡ at + 1 + length first.text.now
        → SoFar s0 s' n0 n' (signed_read inner setting at' first.behind) whole
    signs_next at' s' n' r place =
        so_far_more s0 s1 s' n0 n n' (compounds_read inner (with_last (is_none first.behind)) (at + 1) first.text.now) (front_read inner setting (at + 1) first) (signed_read inner setting at' first.behind) whole moved r
        (ap (λ (k : ℕ). then_read (compounds_read inner (with_last (is_none first.behind)) (at + 1) first.text.now) (signed_read inner setting k first.behind)) (sym place))

    pub signs_stop : (e : Stop) → Fails e (compounds_read inner (with_last (is_none first.behind)) (at + 1) first.text.now) → Fails e whole
    signs_stop e h =
        so_far_fails s0 s1 n0 n (compounds_read inner (with_last (is_none first.behind)) (at + 1) first.text.now) (front_read inner setting (at + 1) first)
        (signed_read inner setting (at + 1 + length first.text.now) first.behind) whole e moved refl h

  -- ---- chains

  chain-front : (in_has : Bool) (at : ℕ) (text : Bytes) (first : First) → IsFirst Sign text first → (in_has && (is_blank first.text.now && is_some first.behind)) ≡ false
      → chain_read inner setting in_has at text ≡ then_read (Ok (record { steps = lead in_has; notes = no_notes })) (front_read inner setting at first)
  chain-front false at text first f h = chain-plain inner setting at text first f
  chain-front true at text first f h = chain-led inner setting at text first f h

  chain-begun : (in_has : Bool) (at : ℕ) (text : Bytes) (first : First) → IsFirst Sign text first → (in_has && (is_blank first.text.now && is_some first.behind)) ≡ true
      → chain_read inner setting in_has at text ≡ signed_read inner setting (at + length first.text.now) first.behind
  chain-begun false at text first f h = absurd (false≢true h)
  chain-begun true at text first f h = (let q = and_parts (is_blank first.text.now) (is_some first.behind) h in chain-signed inner setting at text first f q.0 q.1)

  -- a chain that begins with a sign
  pub chain_by_sign : (in_has : Bool) (at place : ℕ) (text : Bytes) (first : First) (r : Result (Unit {0}) Stop) (s s' : List Step) (n n' : Notes) → IsFirst Sign text first
      → (in_has && (is_blank first.text.now && is_some first.behind)) ≡ true → place ≡ at + length first.text.now
      → (let given = signed_read inner setting place first.behind in MatchResult r (λ _. Reads s s' n n' given) (λ e. Fails e given))
      → (let given = chain_read inner setting in_has at text in MatchResult r (λ _. Reads s s' n n' given) (λ e. Fails e given))
  chain_by_sign in_has at place text first r s s' n n' f h place-is m =
      let e : signed_read inner setting place first.behind ≡ chain_read inner setting in_has at text =
      ap (λ (k : ℕ). signed_read inner setting k first.behind) place-is ∙ sym (chain-begun in_has at text first f h) in
      subst (λ (given : Result Reading Finding). MatchResult r (λ _. Reads s s' n n' given) (λ x. Fails x given)) e m

  module _ (in_has : Bool) (at : ℕ) (text : Bytes) (first : First) (s s1 : List Step) (n : Notes) (first-is : IsFirst Sign text first)
      (other : (in_has && (is_blank first.text.now && is_some first.behind)) ≡ false) (s1-is : s1 ≡ s ++ lead in_has) where
    led : SoFar s s1 n n (front_read inner setting at first) (chain_read inner setting in_has at text)
    led =
        so_far_more s s s1 n n n (Ok (record { steps = lead in_has; notes = no_notes })) (chain_read inner setting in_has at text) (front_read inner setting at first) (chain_read inner setting in_has at text)
        (so_far_start s n (chain_read inner setting in_has at text)) (record { reading = record { steps = lead in_has; notes = no_notes }; is = refl; steps_are = s1-is; notes_are = sym (notes-nothing n) })
        (chain-front in_has at text first first-is other)

    pub chain_stop : (e : Stop) → Fails e (compounds_read inner (with_last (is_none first.behind)) at first.text.now) → Fails e (chain_read inner setting in_has at text)
    chain_stop e h =
        so_far_fails s s1 n n (compounds_read inner (with_last (is_none first.behind)) at first.text.now) (front_read inner setting at first)
        (signed_read inner setting (at + length first.text.now) first.behind) (chain_read inner setting in_has at text) e led refl h

    pub chain_rest : (place : ℕ) (r : Result (Unit {0}) Stop) (s2 s3 : List Step) (n2 n3 : Notes) → Reads s1 s2 n n2 (compounds_read inner (with_last (is_none first.behind)) at first.text.now)
        → place ≡ at + length first.text.now
        → (let given = signed_read inner setting place first.behind in MatchResult r (λ _. Reads s2 s3 n2 n3 given) (λ e. Fails e given))
        → (let given = chain_read inner setting in_has at text in MatchResult r (λ _. Reads s s3 n n3 given) (λ e. Fails e given))
    chain_rest place r s2 s3 n2 n3 reads place-is m =
        let so_far = so_far_more s s1 s2 n n n2 (compounds_read inner (with_last (is_none first.behind)) at first.text.now) (front_read inner setting at first)
        (signed_read inner setting place first.behind) (chain_read inner setting in_has at text) led reads
        (ap (λ (k : ℕ). then_read (compounds_read inner (with_last (is_none first.behind)) at first.text.now) (signed_read inner setting k first.behind)) (sym place-is))
        in
        last_result s s2 s3 n n2 n3 r (signed_read inner setting place first.behind) (chain_read inner setting in_has at text) so_far m

-- ---- words

-- a text that doesn't begin with white space
pub record Starts (text : Bytes) : Type 0 where
  pub byte : ℕ
  pub more : Bytes
  pub cons : text ≡ byte ∷ more
  pub other : is_space byte ≡ false

pub trimmed_starts : (text rest : Bytes) → rest ≡ without_first_spaces text → eqb (length rest) 0 ≡ false → Starts rest
trimmed_starts text [] e h = absurd (false≢true (sym h))
trimmed_starts text (b ∷ more) e h = record { byte = b; more = more; cons = refl; other = trimmed-first text b more (sym e) }

-- some parts
abbrev IsSome : List Part → Type 0
IsSome ps = (p : Part) × (others : List Part) × (ps ≡ p ∷ others)

uncut : (sign at b : ℕ) (text : Bytes) → is_space b ≡ false → parts_from is_space bare sign at (b ∷ text) ≡ longer sign at b (parts_from is_space (scan.step bare b text) sign (at + 1) text)
uncut sign at b text h = rw h refl

filled-longer : (sign at b : ℕ) (ps : List Part) → IsSome (filled (longer sign at b ps))
filled-longer sign at b [] = (record { sign = sign; at = at; text = b ∷ [] }, [], refl)
filled-longer sign at b (p ∷ ps) = (record { sign = sign; at = at; text = b ∷ p.text }, filled ps, refl)

some-words : (sign at : ℕ) (text : Bytes) → Starts text → IsSome (words sign at text)
some-words sign at text s =
    let e : words sign at text ≡ filled (longer sign at s.byte (parts_from is_space (scan.step bare s.byte s.more) sign (at + 1) s.more)) = ap (words sign at) s.cons ∙ ap filled (uncut sign at s.byte s.more s.other) in
    let l = filled-longer sign at s.byte (parts_from is_space (scan.step bare s.byte s.more) sign (at + 1) s.more) in
    (l.0, l.1, e ∙ l.2)

module _ (inner : Inner) (setting : Setting) where
  first-words : (end : ℕ) (ps : List Part) → IsSome ps → items_read inner setting (compounds end ps) ≡ words_read inner setting ps
  first-words end ps s = ap (λ (v : List Part). items_read inner setting (compounds end v)) s.2 ∙ ap (words_read inner setting) (sym s.2)

  -- the words of a text, from its first on
  pub record WordsLeft (s0 s : List Step) (n0 n : Notes) (place : ℕ) (rest : Bytes) (whole : Result Reading Finding) : Type 0 where
    pub starts : Starts rest
    pub sign : ℕ
    pub so_far : SoFar s0 s n0 n (words_read inner setting (words sign place rest)) whole

  pub words_start : (at place : ℕ) (text rest : Bytes) (s : List Step) (n : Notes) → rest ≡ without_first_spaces text → eqb (length rest) 0 ≡ false → place + length rest ≡ at + length text
      → WordsLeft s s n n place rest (compounds_read inner setting at text)
  words_start at place text rest s n e h places =
      let starts = trimmed_starts text rest e h in
      let t = trimmed-words 0 at text in
      let p : t.place ≡ place = omega (arith, t.place_is, places, ap length e) in
      let same : words 0 at text ≡ words t.behind place rest = t.same ∙ ap (λ (k : ℕ). words t.behind k (without_first_spaces text)) p ∙ ap (words t.behind place) (sym e) in
      let given : compounds_read inner setting at text ≡ words_read inner setting (words t.behind place rest) =
      ap (λ (v : List Part). items_read inner setting (compounds (at + length text) v)) same ∙ first-words (at + length text) (words t.behind place rest) (some-words t.behind place rest starts)
      in
      record {
        starts = starts;
        sign = t.behind;
        so_far = subst (λ (v : Result Reading Finding). SoFar s s n n (words_read inner setting (words t.behind place rest)) v) (sym given) (so_far_start s n (words_read inner setting (words t.behind place rest)));
      }

  pub words_missing : (at : ℕ) (text rest : Bytes) → rest ≡ without_first_spaces text → eqb (length rest) 0 ≡ true → compounds_read inner setting at text ≡ bad cause.EmptyPart (at + length text)
  words_missing at text rest e h = no-compound inner setting at text (sym e ∙ nil_from_length rest (eqb-true (length rest) 0 h))

  blank-words : (at : ℕ) (behind : Option Behind) → without_first_spaces (text_after behind) ≡ [] → words_behind at behind ≡ []
  blank-words at None e = refl
  blank-words at (Some b) e = let t = trimmed-words b.sign (at + 1) b.text.now in t.same ∙ ap (words t.behind t.place) e

  -- the words behind a first one
  record Onwards (at : ℕ) (behind : Option Behind) (rest : Bytes) : Type 0 where
    sign : ℕ
    place : ℕ
    place_is : place + length rest ≡ at + length_behind behind
    same : words_behind at behind ≡ words sign place rest

  onwards : (at : ℕ) (behind : Option Behind) (rest : Bytes) → rest ≡ without_first_spaces (text_after behind) → Starts rest → Onwards at behind rest
  onwards at None rest e s = absurd (let f : [] ≡ s.byte ∷ s.more = sym e ∙ s.cons in cc)
  onwards at (Some b) rest e s =
      let t = trimmed-words b.sign (at + 1) b.text.now in
      record { sign = t.behind; place = t.place; place_is = omega (arith, t.place_is, ap length e); same = t.same ∙ ap (words t.behind t.place) (sym e) }

  space-empty : (ps : List Part) → is_empty (behind_space ps) ≡ is_empty ps
  space-empty [] = refl
  space-empty (p ∷ ps) = refl

  -- whether no words stand behind a first one
  last-word : (at : ℕ) (behind : Option Behind) (rest : Bytes) → rest ≡ without_first_spaces (text_after behind) → is_empty (behind_space (words_behind at behind)) ≡ eqb (length rest) 0
  last-word at behind rest e =
      elim (cases_Bool (eqb (length rest) 0)) [
        | inl h ↦ (let f : rest ≡ [] = nil_from_length rest (eqb-true (length rest) 0 h) in ap (λ (v : List Part). is_empty (behind_space v)) (blank-words at behind (sym e ∙ f)) ∙ sym h)
        | inr h ↦ (
            let s = trimmed_starts (text_after behind) rest e h in
            let o = onwards at behind rest e s in
            let l = some-words o.sign o.place rest s in
            space-empty (words_behind at behind) ∙ ap is_empty (o.same ∙ l.2) ∙ sym h)
      ]

  module _ (s0 s : List Step) (n0 n : Notes) (place : ℕ) (rest behind : Bytes) (first : First) (whole : Result Reading Finding) (w : WordsLeft s0 s n0 n place rest whole)
      (first-is : IsFirst Space rest first) (behind-is : behind ≡ without_first_spaces (text_after first.behind)) where
    abbrev at' : ℕ
    at' = place + length first.text.now

    abbrev compound_given : Result Reading Finding
    compound_given = pieces inner (record { nested = setting.nested; several = setting.several; last = eqb (length behind) 0 && setting.last }) true place zero first.text.now

    abbrev others_given : Result Reading Finding
    others_given = items_read inner setting (behind_space (words_behind at' first.behind))

    word-given : words_read inner setting (words w.sign place rest) ≡ then_read compound_given others_given
    word-given =
        words-first inner setting w.sign place w.starts.byte rest w.starts.more first w.starts.cons w.starts.other first-is
        ∙ ap (λ (b : Bool). then_read (pieces inner (record { nested = setting.nested; several = setting.several; last = b && setting.last }) true place zero first.text.now) others_given) (last-word at' first.behind behind behind-is)

    pub word_stop : (e : Stop) → Fails e compound_given → Fails e whole
    word_stop e h = so_far_fails s0 s n0 n compound_given (words_read inner setting (words w.sign place rest)) others_given whole e w.so_far word-given h

    word-more : (s1 : List Step) (n1 : Notes) → Reads s s1 n n1 compound_given → SoFar s0 s1 n0 n1 others_given whole
    word-more s1 n1 r = so_far_more s0 s s1 n0 n n1 compound_given (words_read inner setting (words w.sign place rest)) others_given whole w.so_far r word-given

    pub word_done : (s1 : List Step) (n1 : Notes) → Reads s s1 n n1 compound_given → eqb (length behind) 0 ≡ true → Reads s0 s1 n0 n1 whole
    word_done s1 n1 r h =
        so_far_end s0 s1 n0 n1 others_given whole (word-more s1 n1 r)
        (words-end inner setting at' first.behind (blank-words at' first.behind (sym behind-is ∙ nil_from_length behind (eqb-true (length behind) 0 h))))

    pub word_next : (s1 s2 : List Step) (n1 : Notes) (place' : ℕ) → Reads s s1 n n1 compound_given → eqb (length behind) 0 ≡ false → s2 ≡ s1 ++ step.Move Descendant ∷ [] → place' + length behind ≡ place + length rest
        → WordsLeft s0 s2 n0 n1 place' behind whole
    word_next s1 s2 n1 place' r h s2-is places =
        let starts = trimmed_starts (text_after first.behind) behind behind-is h in
        let o = onwards at' first.behind behind behind-is starts in
        let p : o.place ≡ place' = omega (arith, o.place_is, places, first-is.lengths) in
        let same : words_behind at' first.behind ≡ words o.sign place' behind = o.same ∙ ap (λ (k : ℕ). words o.sign k behind) p in
        let l = some-words o.sign place' behind starts in
        let given : others_given ≡ then_read (Ok (one (step.Move Descendant))) (words_read inner setting (words o.sign place' behind)) =
        ap (λ (v : List Part). items_read inner setting (behind_space v)) (same ∙ l.2) ∙ ap (λ (v : List Part). then_read (Ok (one (step.Move Descendant))) (words_read inner setting v)) (sym l.2)
        in
        record {
          starts = starts;
          sign = o.sign;
          so_far = so_far_more s0 s1 s2 n0 n1 n1 (Ok (one (step.Move Descendant))) others_given (words_read inner setting (words o.sign place' behind)) whole (word-more s1 n1 r)
              (reads_one s1 s2 n1 n1 (step.Move Descendant) (Ok (one (step.Move Descendant))) refl s2-is refl) given;
        }

  -- ---- pieces

  pub piece_turn : (first : Bool) (at at' : ℕ) (rest rest' : Bytes) (s0 s s' : List Step) (n0 n n' : Notes) (whole : Result Reading Finding) → SoFar s0 s n0 n (pieces inner setting first at zero rest) whole
      → 0 < length rest → at' + length rest' ≡ at + length rest → ReadsPiece s s' n n' rest rest' (piece_at inner setting first at rest) → SoFar s0 s' n0 n' (pieces inner setting false at' zero rest') whole
  piece_turn first at at' rest rest' s0 s s' n0 n n' whole f some places r =
      so_far_more s0 s s' n0 n n' (Ok r.read.reading) (pieces inner setting first at zero rest) (pieces inner setting false at' zero rest') whole f
      (record { reading = r.read.reading; is = refl; steps_are = r.steps_are; notes_are = r.notes_are }) (piece-next inner setting first at at' rest rest' s s' n n' some places r)

pub piece_shorter : (s s' : List Step) (n n' : Notes) (text rest : Bytes) (given : Result Piece Finding) → 0 < length text → ReadsPiece s s' n n' text rest given → length rest < length text
piece_shorter s s' n n' text rest given some r = (let k = r.some in omega (arith, k, ap length r.rest_is, length-drop r.read.length text))

-- ---- lengths and starts

pub trimmed_shorter : (text : Bytes) → length (without_first_spaces text) ≤ length text
trimmed_shorter [] = omega arith
trimmed_shorter (b ∷ text) =
    elim (cases_Bool (is_space b)) [
      | inl h ↦ (let e : without_first_spaces (b ∷ text) ≡ without_first_spaces text = rw h refl in let k = trimmed_shorter text in omega (arith, ap length e, k))
      | inr h ↦ (let e : without_first_spaces (b ∷ text) ≡ b ∷ text = rw h refl in omega (arith, ap length e))
    ]

after-shorter : (behind : Option Behind) (n : ℕ) → 0 < n → length_behind behind ≤ n → length (text_after behind) < n
after-shorter None n some h = some
after-shorter (Some b) n some h = omega (arith, h)

pub word_shorter : (rest behind : Bytes) (first : First) → 0 < length rest → IsFirst Space rest first → behind ≡ without_first_spaces (text_after first.behind) → length behind < length rest
word_shorter rest behind first some f e =
    let a = after-shorter first.behind (length rest) some (omega (arith, f.lengths)) in
    let t = trimmed_shorter (text_after first.behind) in
    omega (arith, a, t, ap length e)

pub starts_some : (rest : Bytes) → Starts rest → 0 < length rest
starts_some rest s = omega (arith, ap length s.cons)

pub pieces_begin : (inner : Inner) (setting : Setting) (at start : ℕ) (text : Bytes) (s : List Step) (n : Notes) → start ≡ at
    → SoFar s s n n (pieces inner setting true start zero text) (pieces inner setting true at zero text)
pieces_begin inner setting at start text s n e =
    subst (λ (k : ℕ). SoFar s s n n (pieces inner setting true k zero text) (pieces inner setting true at zero text)) (sym e) (so_far_start s n (pieces inner setting true at zero text))

pub reads_setting : (inner : Inner) (x y : Setting) (at : ℕ) (text : Bytes) (s s' : List Step) (n n' : Notes) → x ≡ y → Reads s s' n n' (compounds_read inner x at text) → Reads s s' n n' (compounds_read inner y at text)
reads_setting inner x y at text s s' n n' e r = subst (λ (z : Setting). Reads s s' n n' (compounds_read inner z at text)) e r

pub fails_setting : (inner : Inner) (x y : Setting) (at : ℕ) (text : Bytes) (stop : Stop) → x ≡ y → Fails stop (compounds_read inner x at text) → Fails stop (compounds_read inner y at text)
fails_setting inner x y at text stop e r = subst (λ (z : Setting). Fails stop (compounds_read inner z at text)) e r

pub reads_pieces : (inner : Inner) (x y : Setting) (at : ℕ) (text : Bytes) (s s' : List Step) (n n' : Notes) → x ≡ y → Reads s s' n n' (pieces inner x true at zero text) → Reads s s' n n' (pieces inner y true at zero text)
reads_pieces inner x y at text s s' n n' e r = subst (λ (z : Setting). Reads s s' n n' (pieces inner z true at zero text)) e r

pub fails_pieces : (inner : Inner) (x y : Setting) (at : ℕ) (text : Bytes) (stop : Stop) → x ≡ y → Fails stop (pieces inner x true at zero text) → Fails stop (pieces inner y true at zero text)
fails_pieces inner x y at text stop e r = subst (λ (z : Setting). Fails stop (pieces inner z true at zero text)) e r

pub none_from : (behind : Option Behind) (r : Bool) → is_some behind ≡ not r → r ≡ is_none behind
none_from None true e = refl
none_from None false e = absurd (false≢true e)
none_from (Some b) true e = absurd (false≢true (sym e))
none_from (Some b) false e = refl

pub empty-length : (text : Bytes) → eqb (length text) 0 ≡ is_empty text
empty-length [] = refl
empty-length (b ∷ text) = ne_eqb (length (b ∷ text)) 0 (λ e. omega (arith, e))
