-- What a text is read as, by its pieces and by what is said of its patterns.
use Rattle.std.proofs.Common.{◌≡◌, ℕ, List, Option, Some, None, Result, Ok, Err, arith, refl, ap, sym, ◌∙◌}
use Rattle.cos_patterns.specs.declared.written.Asked.{Asked}
use Rattle.cos_patterns.specs.declared.written.Written.{Written}
use Rattle.selector_spelling.specs.declared.finding.Cause.{Cause}
use Rattle.selector_spelling.specs.declared.finding.Cause.TheVariants as cause
use Rattle.selector_spelling.specs.declared.finding.Finding.{Finding}
use Rattle.selector_spelling.specs.declared.finding.Finding.TheVariants.{SetAside, Malformed}
use Rattle.selector_spelling.specs.declared.reading.Chains.{Chains}
use Rattle.selector_spelling.specs.Bytes.{Bytes}
use Rattle.selector_spelling.specs.Pieces.{◌>>=◌}
use Rattle.selector_spelling.specs.Scan.{bare, unbalanced, too_nested}
use Rattle.selector_spelling.specs.Texts.{Answer, malformed_at, unless, first_refused, read_text, selector_of, action_of}
use Rattle.spelling_reader.specs.Spelled.{spelled}
use Rattle.selector_tree.specs.Unnumbered.{unnumbered}
use Rattle.selector_parser.specs.declared.read.Read.TheVariants.{Filter}
use Rattle.selector_parser.specs.Answers.{answer_by}
use Rattle.selector_parser.specs.Numbered.{numbered}
use Rattle.selector_parser.specs.Readings.{reading, read_by, unnumbered_read, numbered_read, IsProperRead}
use Rattle.selector_parser.proofs.Readings.{read_unnumbered}

then_inside : {A B : Type 0} (c : Cause) (at : Option ℕ) (read : Result A Finding) (next : A → Result B Finding) →
    malformed_at c at (read >>= next) ≡ (malformed_at c at read >>= next)
then_inside c None read next = refl
then_inside c (Some at) read next = refl

-- the patterns come last
pub patterns_last : (answer : Bytes → ℕ → Answer) (text : Bytes) →
    read_text answer text ≡ (spelled text >>= λ l. unless (first_refused answer l.notes.asks) (Ok l))
patterns_last answer text =
    let last = λ (l : Chains). unless (first_refused answer l.notes.asks) (Ok l) in
    ap (malformed_at cause.Unbalanced (unbalanced bare 0 0 text)) (then_inside cause.TooNested (too_nested bare 0 text) (selector_of text) last)
    ∙ then_inside cause.Unbalanced (unbalanced bare 0 0 text) (malformed_at cause.TooNested (too_nested bare 0 text) (selector_of text)) last

read_past : {A : Type 0} (c : Cause) (at : Option ℕ) (read : Result A Finding) (l : A) → malformed_at c at read ≡ Ok l → read ≡ Ok l
read_past c None read l is = is
read_past c (Some at) read l is = absurd (grind arith)

-- the pieces of a text that has no finding before its patterns
pub pieces_read : (text : Bytes) (l : Chains) → spelled text ≡ Ok l → selector_of text ≡ Ok l
pieces_read text l is =
    read_past cause.TooNested (too_nested bare 0 text) (selector_of text) l
    (read_past cause.Unbalanced (unbalanced bare 0 0 text) (malformed_at cause.TooNested (too_nested bare 0 text) (selector_of text)) l is)

-- a finding has no numbers
pub bare_finding : (finding : Finding) → unnumbered_read (reading (Err finding)) ≡ reading (Err finding)
bare_finding (SetAside kind) = refl
bare_finding (Malformed cause at) = refl

module _ (patterns : List Written) where
  pub numbered_finding : (finding : Finding) → reading (Err finding) ≡ numbered_read patterns (reading (Err finding))
  numbered_finding (SetAside kind) = refl
  numbered_finding (Malformed cause at) = refl

  pub proper_finding : (finding : Finding) → IsProperRead patterns (reading (Err finding))
  proper_finding (SetAside kind) = tt
  proper_finding (Malformed cause at) = tt

-- what a text is read as, by its pieces
module _ (large : List Asked) (unread : List Written) (text : Bytes) where
  pub by_pieces : (finding : Finding) → spelled text ≡ Err finding → unnumbered_read (reading (Err finding)) ≡ read_by large unread text
  by_pieces finding is =
      let read : read_text (answer_by large unread) text ≡ Err finding = patterns_last (answer_by large unread) text ∙ rw is refl in
      bare_finding finding ∙ sym (ap reading read)

  -- and by its patterns
  module _ (l : Chains) (is : spelled text ≡ Ok l) where
    pub by_patterns : (refusal : Option Finding) → refusal ≡ first_refused (answer_by large unread) l.notes.asks →
        read_by large unread text ≡ reading (unless refusal (Ok l))
    by_patterns refusal refused =
        let read : read_text (answer_by large unread) text ≡ unless refusal (Ok l) = patterns_last (answer_by large unread) text ∙ rw (is, refused) refl in
        ap reading read

    pub by_refusal : (finding : Finding) → Some finding ≡ first_refused (answer_by large unread) l.notes.asks →
        unnumbered_read (reading (Err finding)) ≡ read_by large unread text
    by_refusal finding refused = bare_finding finding ∙ sym (by_patterns (Some finding) refused)

    -- all of which are found
    pub by_filter : (patterns : List Written) → None ≡ first_refused (answer_by large unread) l.notes.asks →
        Filter (unnumbered (numbered patterns l.chains)) (action_of l.notes.removes) ≡ read_by large unread text
    by_filter patterns found =
        ap (λ selector. Filter selector (action_of l.notes.removes)) (read_unnumbered patterns text l (pieces_read text l is)) ∙ sym (by_patterns None found)
