-- Chains at their signs, and selectors at their commas.
use Rattle.std.specs.Prelude.{is_some, is_none}
use Rattle.std.proofs.Common.{◌≡◌, ℕ, ◌+◌, Bool, true, false, not, ◌&&◌, List, [], ◌∷◌, ◌++◌, length, Option, Some, None, Result, Ok, Err, refl, sym, ap, ◌∙◌, inl, inr}
use Rattle.std.proofs.lemmas.Bool.{cases_Bool, false≢true}
use Rattle.std.proofs.lemmas.List.{append-nil, append_assoc}
use Rattle.selector_tree.specs.declared.selector.Step.{Step}
use Rattle.selector_tree.specs.declared.selector.Step.TheVariants as step
use Rattle.selector_spelling.specs.declared.finding.Finding.{Finding}
use Rattle.selector_spelling.specs.declared.reading.Notes.{Notes}
use Rattle.selector_spelling.specs.declared.reading.Reading.{Reading}
use Rattle.selector_spelling.specs.declared.reading.Chains.{Chains}
use Rattle.selector_spelling.specs.declared.reading.Setting.{Setting}
use Rattle.selector_spelling.specs.Bytes.{Bytes, is_empty, is_blank}
use Rattle.selector_spelling.specs.Scan.{Scan, bare, is_bare}
use Rattle.selector_spelling.specs.Scan as scan
use Rattle.selector_spelling.specs.Cuts.{Part, longer, parts_from, combinator, space, compounds_of, behind_signs, is_sign, is_comma, items, items_of_has}
use Rattle.selector_spelling.specs.Pieces.{◌>>=◌, no_notes, notes_joined, one}
use Rattle.selector_spelling.specs.Texts.{place_of, chain, chains_then, chains, are_several}
use Rattle.selector_lexer.specs.declared.stop.Stop.{Stop}
use Rattle.selector_lexer.specs.declared.stop.Stop.TheVariants as stop
use Rattle.selector_lexer.specs.declared.cuts.Behind.{Behind}
use Rattle.selector_lexer.specs.declared.cuts.First.{First}
use Rattle.selector_lexer.specs.declared.cuts.Cut.TheVariants.{Comma, Sign}
use Rattle.selector_lexer.specs.Splits.{parts_behind, IsFirst}
use Rattle.selector_lexer.specs.Stops.{Fails}
use Rattle.spelling_reader.specs.Readings.{Inner, Reads, ReadsChains}
use Rattle.spelling_reader.specs.Chains.{compounds_read, signed_read, chain_read, lead}
use Rattle.spelling_reader.proofs.ReadsLaws.{notes-nothing, notes-assoc}
use Rattle.spelling_reader.proofs.SoFar.{then_read, then-nothing, chain-append}

longer-some : (sign at b : ℕ) (ps : List Part) → is_empty (longer sign at b ps) ≡ false
longer-some sign at b [] = refl
longer-some sign at b (p ∷ ps) = refl

parts-some : (p : ℕ → Bool) (s : Scan) (sign at : ℕ) (text : Bytes) → is_empty (parts_from p s sign at text) ≡ false
parts-some p s sign at [] = refl
parts-some p s sign at (b ∷ text) =
    elim (cases_Bool (is_bare s && p b)) [
      | inl h ↦ rw h refl
      | inr h ↦ rw h (longer-some sign at b (parts_from p (scan.step s b text) sign (at + 1) text))
    ]

behind-empty : (p : ℕ → Bool) (at : ℕ) (behind : Option Behind) → is_empty (parts_behind p at behind) ≡ is_none behind
behind-empty p at None = refl
behind-empty p at (Some b) = parts-some p bare b.sign (at + 1) b.text.now

signs-empty : (ps : List Part) → is_empty (behind_signs ps) ≡ is_empty ps
signs-empty [] = refl
signs-empty (p ∷ ps) = refl

not-none : (behind : Option Behind) → is_some behind ≡ true → is_none behind ≡ false
not-none None e = absurd (false≢true e)
not-none (Some b) e = refl

some-not : (behind : Option Behind) → not (is_none behind) ≡ is_some behind
some-not None = refl
some-not (Some b) = refl

abbrev part : ℕ → ℕ → Bytes → Part
part sign at text = record { sign = sign; at = at; text = text }

module _ (inner : Inner) (setting : Setting) where
  abbrev with_last : Bool → Setting
  with_last last = record { nested = setting.nested; several = setting.several; last = last }

  -- the compounds before a sign, and what stands behind
  abbrev pub front_read : ℕ → First → Result Reading Finding
  front_read at first = then_read (compounds_read inner (with_last (is_none first.behind)) at first.text.now) (signed_read inner setting (at + length first.text.now) first.behind)

  parts-front : (sign at : ℕ) (first : First)
      → chain inner setting.nested setting.several (compounds_of (part sign at first.text.now) ++ behind_signs (parts_behind is_sign (at + length first.text.now) first.behind)) ≡ front_read at first
  parts-front sign at first =
      let ps = parts_behind is_sign (at + length first.text.now) first.behind in
      let e : is_empty (behind_signs ps) ≡ is_none first.behind = signs-empty ps ∙ behind-empty is_sign (at + length first.text.now) first.behind in
      chain-append inner setting.nested setting.several (compounds_of (part sign at first.text.now)) (behind_signs ps)
      ∙ ap (λ (b : Bool). then_read (compounds_read inner (with_last b) at first.text.now) (signed_read inner setting (at + length first.text.now) first.behind)) e

  pub signed-first : (at : ℕ) (b : Behind) (first : First) → IsFirst Sign b.text.now first
      → signed_read inner setting at (Some b) ≡ then_read (Ok (one (step.Move (place_of b.sign)))) (front_read (at + 1) first)
  signed-first at b first f =
      ap (λ (ps : List Part). chain inner setting.nested setting.several (behind_signs ps)) (f.parts b.sign (at + 1))
      ∙ ap (then_read (Ok (one (step.Move (place_of b.sign))))) (parts-front b.sign (at + 1) first)

  -- a chain that begins with a sign
  pub chain-signed : (at : ℕ) (text : Bytes) (first : First) → IsFirst Sign text first → is_blank first.text.now ≡ true → is_some first.behind ≡ true
      → chain_read inner setting true at text ≡ signed_read inner setting (at + length first.text.now) first.behind
  chain-signed at text first f blank some =
      let ps = parts_behind is_sign (at + length first.text.now) first.behind in
      let e : is_empty ps ≡ false = behind-empty is_sign (at + length first.text.now) first.behind ∙ not-none first.behind some in
      let one : items_of_has (part 0 at first.text.now ∷ ps) ≡ behind_signs ps = rw (blank, e) refl in
      ap (λ (v : List Part). chain inner setting.nested setting.several (items_of_has v)) (f.parts 0 at) ∙ ap (chain inner setting.nested setting.several) one

  -- any other chain
  pub chain-plain : (at : ℕ) (text : Bytes) (first : First) → IsFirst Sign text first → chain_read inner setting false at text ≡ then_read (Ok (record { steps = lead false; notes = no_notes })) (front_read at first)
  chain-plain at text first f =
      ap (λ (v : List Part). chain inner setting.nested setting.several (items v)) (f.parts 0 at) ∙ parts-front 0 at first ∙ sym (then-nothing (front_read at first))

  pub chain-led : (at : ℕ) (text : Bytes) (first : First) → IsFirst Sign text first → (is_blank first.text.now && is_some first.behind) ≡ false
      → chain_read inner setting true at text ≡ then_read (Ok (record { steps = lead true; notes = no_notes })) (front_read at first)
  chain-led at text first f other =
      let ps = parts_behind is_sign (at + length first.text.now) first.behind in
      let p = part 0 at first.text.now in
      let e : not (is_empty ps) ≡ is_some first.behind = ap not (behind-empty is_sign (at + length first.text.now) first.behind) ∙ some-not first.behind in
      let g : (is_blank first.text.now && not (is_empty ps)) ≡ false = ap (λ (b : Bool). is_blank first.text.now && b) e ∙ other in
      let led : items_of_has (p ∷ ps) ≡ combinator space ∷ items (p ∷ ps) = rw g refl in
      ap (λ (v : List Part). chain inner setting.nested setting.several (items_of_has v)) (f.parts 0 at) ∙ ap (chain inner setting.nested setting.several) led
      ∙ ap (then_read (Ok (record { steps = lead true; notes = no_notes }))) (parts-front 0 at first)

-- ---- selectors

-- chains before others, with notes before theirs
abbrev pub chains_before : List (List Step) → Notes → Chains → Chains
chains_before cs notes l = record { chains = cs ++ l.chains; notes = notes_joined notes l.notes }

abbrev pub then_chains : List (List Step) → Notes → Result Chains Finding → Result Chains Finding
then_chains cs notes rest = rest >>= λ l. Ok (chains_before cs notes l)

-- the chains that were read, and what is still to be read of the whole
pub record ChainsSoFar (cs : List (List Step)) (notes notes' : Notes) (rest whole : Result Chains Finding) : Type 0 where
  pub added : Notes
  pub notes_are : notes' ≡ notes_joined notes added
  pub whole_is : whole ≡ then_chains cs added rest

same : (whole : Result Chains Finding) → whole ≡ then_chains [] no_notes whole
same (Ok l) = refl
same (Err f) = refl

joined-more : (cs : List (List Step)) (added : Notes) (r : Reading) (rest : Result Chains Finding)
    → then_chains cs added (rest >>= λ l. Ok (chains_then r l)) ≡ then_chains (cs ++ r.steps ∷ []) (notes_joined added r.notes) rest
joined-more cs added r (Err f) = refl
joined-more cs added r (Ok l) =
    ap (λ (v : List (List Step)). Ok (record { chains = v; notes = notes_joined added (notes_joined r.notes l.notes) })) (sym (append_assoc cs (r.steps ∷ []) l.chains))
    ∙ ap (λ (v : Notes). Ok (record { chains = (cs ++ r.steps ∷ []) ++ l.chains; notes = v })) (sym (notes-assoc added r.notes l.notes))

pub chains_start : (notes : Notes) (whole : Result Chains Finding) → ChainsSoFar [] notes notes whole whole
chains_start notes whole = record { added = no_notes; notes_are = sym (notes-nothing notes); whole_is = same whole }

pub chains_more : (cs cs' : List (List Step)) (steps : List Step) (n0 n n' : Notes) (part : Result Reading Finding) (rest rest' whole : Result Chains Finding) → ChainsSoFar cs n0 n rest whole → Reads [] steps n n' part
    → rest ≡ (part >>= λ r. rest' >>= λ l. Ok (chains_then r l)) → cs' ≡ cs ++ steps ∷ [] → ChainsSoFar cs' n0 n' rest' whole
chains_more cs cs' steps n0 n n' part rest rest' whole f r e cs-are =
    record {
      added = notes_joined f.added r.reading.notes;
      notes_are = r.notes_are ∙ ap (λ (v : Notes). notes_joined v r.reading.notes) f.notes_are ∙ notes-assoc n0 f.added r.reading.notes;
      whole_is = f.whole_is ∙ ap (then_chains cs f.added) (e ∙ ap (λ (v : Result Reading Finding). v >>= λ a. rest' >>= λ l. Ok (chains_then a l)) r.is)
          ∙ joined-more cs f.added r.reading rest'
          ∙ ap (λ (v : List (List Step)). then_chains v (notes_joined f.added r.reading.notes) rest') (ap (λ (s : List Step). cs ++ s ∷ []) (sym r.steps_are) ∙ sym cs-are);
    }

pub chains_last : (cs cs' : List (List Step)) (steps : List Step) (n0 n n' : Notes) (part : Result Reading Finding) (rest whole : Result Chains Finding) → ChainsSoFar cs n0 n rest whole → Reads [] steps n n' part
    → rest ≡ (part >>= λ r. Ok (record { chains = []; notes = no_notes }) >>= λ l. Ok (chains_then r l)) → cs' ≡ cs ++ steps ∷ [] → ReadsChains cs' n0 n' whole
chains_last cs cs' steps n0 n n' part rest whole f r e cs-are =
    let g = chains_more cs cs' steps n0 n n' part rest (Ok (record { chains = []; notes = no_notes })) whole f r e cs-are in
    record { read = chains_before cs' g.added (record { chains = []; notes = no_notes }); is = g.whole_is; chains_are = sym (append-nil cs'); notes_are = g.notes_are ∙ ap (notes_joined n0) (sym (notes-nothing g.added)) }

pub chains_fail : (cs : List (List Step)) (n0 n : Notes) (part : Result Reading Finding) (rest rest' whole : Result Chains Finding) (s : Stop) → ChainsSoFar cs n0 n rest whole
    → rest ≡ (part >>= λ r. rest' >>= λ l. Ok (chains_then r l)) → Fails s part → Fails s whole
chains_fail cs n0 n part rest rest' whole stop.NoMemory f e h = tt
chains_fail cs n0 n part rest rest' whole (stop.Found x) f e h = f.whole_is ∙ ap (then_chains cs f.added) (e ∙ ap (λ (v : Result Reading Finding). v >>= λ a. rest' >>= λ l. Ok (chains_then a l)) h)

pub first-chain : (inner : Inner) (nested several in_has : Bool) (last : Bool) (sign at : ℕ) (text : Bytes) (first : First) → IsFirst Comma text first
    → chains inner nested several in_has (parts_from is_comma bare sign at text)
    ≡ (chain_read inner (record { nested = nested; several = several; last = last }) in_has at first.text.now >>= λ r. chains inner nested several in_has (parts_behind is_comma (at + length first.text.now) first.behind) >>= λ l. Ok (chains_then r l))
first-chain inner nested several in_has last sign at text first f = ap (chains inner nested several in_has) (f.parts sign at)

pub several-chains : (at : ℕ) (text : Bytes) (first : First) → IsFirst Comma text first → are_several (parts_from is_comma bare 0 at text) ≡ is_some first.behind
several-chains at text first f = ap are_several (f.parts 0 at) ∙ ap not (behind-empty is_comma (at + length first.text.now) first.behind) ∙ some-not first.behind
