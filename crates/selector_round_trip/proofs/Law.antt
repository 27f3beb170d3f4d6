-- Where a text is read, its canonical text is read as the same.
use Rattle.std.proofs.Common.{◌≡◌, ℕ, Bool, true, false, List, [], ◌∷◌, ◌++◌, Option, Some, None, Result, Ok, Err, refl, sym, ap, subst, ◌∙◌}
use Rattle.selector_tree.specs.declared.selector.Step.{Step}
use Rattle.selector_tree.specs.Canonical.{action_text, canonical_text}
use Rattle.selector_tree.proofs.Unnumbered.{unnumbered_text}
use Rattle.selector_spelling.specs.declared.finding.Finding.{Finding}
use Rattle.selector_spelling.specs.declared.finding.Finding.TheVariants.{Malformed}
use Rattle.selector_spelling.specs.declared.finding.Cause.{Cause}
use Rattle.selector_spelling.specs.declared.finding.Cause.TheVariants as cause
use Rattle.selector_spelling.specs.declared.reading.Ask.{Ask}
use Rattle.selector_spelling.specs.declared.reading.Chains.{Chains}
use Rattle.selector_spelling.specs.Bytes.{Bytes}
use Rattle.selector_spelling.specs.Scan.{bare, is_bare, unbalanced, too_nested}
use Rattle.selector_spelling.specs.Pieces.{◌>>=◌}
use Rattle.selector_spelling.specs.Texts.{Answer, found, bad_pattern, pattern_too_large, by_answer, unless, malformed_at, action_of, first_refused, argument, selector_of, read_text}
use Rattle.selector_round_trip.specs.Balanced.{are_balanced}
use Rattle.selector_round_trip.specs.RoundTrip.{Asked, IsReadAs, IsReadBack, AreTold, canonical_of}
use Rattle.selector_round_trip.proofs.Scanned.{balanced, not_too_nested}
use Rattle.selector_round_trip.proofs.Seen.{asked, SeenChains, removes_text}
use Rattle.selector_round_trip.proofs.Pieces.{chains_text}
use Rattle.selector_round_trip.proofs.Chains.{bound, ok_same}
use Rattle.selector_round_trip.proofs.Selectors.{IsWhole, whole_good, argument_good}

-- ---- patterns

module _ (answer : Bytes → ℕ → Answer) where
  abbrev AreFound : List Asked → Type 0
  AreFound [] = Unit {0}
  AreFound (a ∷ asks) = (answer a.body a.flags ≡ found) × AreFound asks

  found_answer : (a : Answer) (place : ℕ) (others : Option Finding) → by_answer a place others ≡ None → (a ≡ found) × (others ≡ None)
  found_answer found place others h = (refl, h)
  found_answer bad_pattern place others h = absurd (let w : Some (Malformed cause.BadPattern place) ≡ None = h in cc)
  found_answer pattern_too_large place others h = absurd (let w : Some (Malformed cause.PatternTooLarge place) ≡ None = h in cc)

  all_found : (asks : List Ask) → first_refused answer asks ≡ None → AreFound (asked asks)
  all_found [] h = tt
  all_found (a ∷ asks) h = (let f = found_answer (answer a.body a.flags) a.at (first_refused answer asks) h in (f.0, all_found asks f.1))

  none_refused : (asks : List Ask) → AreFound (asked asks) → first_refused answer asks ≡ None
  none_refused [] h = refl
  none_refused (a ∷ asks) h = ap (λ (x : Answer). by_answer x a.at (first_refused answer asks)) h.0 ∙ none_refused asks h.1

  -- ---- stages

  record Passed (A : Type 0) (c : Cause) (o : Option ℕ) (read : Result A Finding) (x : A) : Type 0 where
    passes : o ≡ None
    reads : read ≡ Ok x

  passed : {A : Type 0} (c : Cause) (o : Option ℕ) (read : Result A Finding) (x : A) → malformed_at c o read ≡ Ok x → Passed A c o read x
  passed c None read x h = record { passes = refl; reads = h }
  passed c (Some place) read x h = absurd (let w : Err (Malformed c place) ≡ Ok x = h in cc)

  unrefused : (o : Option Finding) (l m : Chains) → unless o (Ok l) ≡ Ok m → (o ≡ None) × (l ≡ m)
  unrefused None l m h = (refl, ok_same l m h)
  unrefused (Some f) l m h = absurd (let w : Err f ≡ Ok m = h in cc)

  action_removes : (removes : Bool) → action_text (action_of removes) ≡ removes_text removes
  action_removes true = refl
  action_removes false = refl

  stages : (text : Bytes) (l : Chains) → unbalanced bare 0 0 text ≡ None → too_nested bare 0 text ≡ None → selector_of text ≡ Ok l → first_refused answer l.notes.asks ≡ None → read_text answer text ≡ Ok l
  stages text l balance depth reads patterns =
      ap (λ (o : Option ℕ). malformed_at cause.Unbalanced o (malformed_at cause.TooNested (too_nested bare 0 text) (selector_of text >>= λ m. unless (first_refused answer m.notes.asks) (Ok m)))) balance
      ∙ ap (λ (o : Option ℕ). malformed_at cause.TooNested o (selector_of text >>= λ m. unless (first_refused answer m.notes.asks) (Ok m))) depth
      ∙ ap (λ (r : Result Chains Finding). r >>= λ m. unless (first_refused answer m.notes.asks) (Ok m)) reads
      ∙ ap (λ (o : Option Finding). unless o (Ok l)) patterns

  read_as : (l : Chains) → are_balanced l.chains ≡ true → first_refused answer l.notes.asks ≡ None → IsWhole (argument 16) 0 (argument_good 16 1 refl) false false l → IsReadAs answer (canonical_of l) l
  read_as l balance patterns w =
      let e : canonical_of l ≡ chains_text false l.chains ++ removes_text l.notes.removes = ap (λ (t : Bytes). chains_text false l.chains ++ t) (action_removes l.notes.removes) in
      let text = chains_text false l.chains ++ removes_text l.notes.removes in
      let x = w.again 0 in
      let s = w.sound [] refl in
      let asks : asked x.read.notes.asks ≡ asked l.notes.asks = ap (λ (c : SeenChains). c.told.asks) x.same in
      let refused : first_refused answer x.read.notes.asks ≡ None = none_refused x.read.notes.asks (subst AreFound (sym asks) (all_found l.notes.asks patterns)) in
      record {
        read = x.read;
        is = ap (read_text answer) e ∙ stages text x.read (balanced 0 bare text 0 0 s.sound (ap is_bare s.ends)) (not_too_nested bare text 0 s.sound) x.is refused;
        chains = ap (λ (c : SeenChains). c.chains) x.same;
        removes = ap (λ (c : SeenChains). c.told.removes) x.same;
        operates = ap (λ (c : SeenChains). c.told.operates) x.same;
        asks = asks;
      }

  pub again : (text : Bytes) (l : Chains) → read_text answer text ≡ Ok l → are_balanced l.chains ≡ true → IsReadAs answer (canonical_of l) l
  again text l h balance =
      let a = passed cause.Unbalanced (unbalanced bare 0 0 text) (malformed_at cause.TooNested (too_nested bare 0 text) (selector_of text >>= λ m. unless (first_refused answer m.notes.asks) (Ok m))) l h in
      let b = passed cause.TooNested (too_nested bare 0 text) (selector_of text >>= λ m. unless (first_refused answer m.notes.asks) (Ok m)) l a.reads in
      let c = bound (selector_of text) (λ m. unless (first_refused answer m.notes.asks) (Ok m)) l b.reads in
      let d = unrefused (first_refused answer c.value.notes.asks) c.value l c.gives in
      let read : selector_of text ≡ Ok l = c.is ∙ ap (λ (m : Chains). Ok m) d.1 in
      let patterns : first_refused answer l.notes.asks ≡ None = ap (λ (m : Chains). first_refused answer m.notes.asks) (sym d.1) ∙ d.0 in
      read_as l balance patterns (whole_good (argument 16) 0 (argument_good 16 1 refl) false false 0 text l read balance)

-- where the text is read, its canonical text is read as the same
pub read_back : (text : Bytes) → IsReadBack text
read_back text answer l h balance selector same =
    let action = action_of l.notes.removes in
    let e : canonical_text selector action ≡ canonical_of l = sym (unnumbered_text selector action) ∙ ap (λ (s : List (List Step)). canonical_text s action) same in
    subst (λ (t : Bytes). IsReadAs answer t l) (sym e) (again answer text l h balance)

-- canonical texts tell apart what texts are read as
pub told_apart : (first second : Bytes) → AreTold first second
told_apart first second answer l m h g fine_l fine_m e =
    let x = again answer first l h fine_l in
    let y = again answer second m g fine_m in
    let same : x.read ≡ y.read = ok_same x.read y.read (sym x.is ∙ ap (read_text answer) e ∙ y.is) in
    (sym x.chains ∙ ap (λ (c : Chains). c.chains) same ∙ y.chains, sym x.removes ∙ ap (λ (c : Chains). c.notes.removes) same ∙ y.removes)
