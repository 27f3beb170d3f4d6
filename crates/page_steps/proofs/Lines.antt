-- The steps after the lines of a script, one line after another.
use Rattle.std.proofs.Common.{◌≡◌, ℕ, Bool, List, [], ◌∷◌, Ok, Err, sym, subst}
use Rattle.cos_outside.specs.Writes.{WritesText, WritesTexts}
use Rattle.mutation_script.specs.Lines.{script_line}
use Rattle.mutation_script.specs.Changes.{answer}
use Rattle.engine_meaning.specs.States.{State}
use Rattle.hide_report.specs.declared.writing.ReportError.{ReportError}
use Rattle.hide_report.specs.declared.writing.ReportError.TheVariants.{WriteFault, NoMemory}
use Rattle.command_meaning.specs.Report.{after_line, lines_texts, text_of_step}
use Rattle.page_steps.proofs.Written.{HasTextsLeft, all_written, fails_within, one_more}

-- the step after a line
abbrev pub line_text : Bool → State → ℕ × List ℕ → List ℕ
line_text brief s line = text_of_step brief line.0 (answer (script_line line.1) s.page) (after_line (script_line line.1) s)

-- the first of the texts of a report were written, and these are left
abbrev pub HasLeft : {S : Type 0} → (S → Bool) → (S → List ℕ) → (S → ℕ) → S → S → List (List ℕ) → List (List ℕ) → Type 0
HasLeft tells written faults old new texts left = HasTextsLeft tells written faults WriteFault NoMemory old new texts left

module _ {S : Type 0} {tells : S → Bool} {written : S → List ℕ} {faults : S → ℕ} {old mid : S} {texts : List (List ℕ)} (brief : Bool) (was : State)
    (line : ℕ × List ℕ) (lines rest : List (ℕ × List ℕ)) (first : lines ≡ line ∷ rest) (so_far : HasLeft tells written faults old mid texts (lines_texts brief was lines)) where
  before : HasLeft tells written faults old mid texts (line_text brief was line ∷ lines_texts brief (after_line (script_line line.1) was).state rest)
  before = subst (λ (ls : List (ℕ × List ℕ)). HasLeft tells written faults old mid texts (lines_texts brief was ls)) first so_far

  -- a step was written
  pub line_goes_on : {T : Type 0} {new : S} {x : T} (is : State) → is ≡ (after_line (script_line line.1) was).state
      → WritesText tells written faults WriteFault NoMemory mid new (line_text brief was line) (Ok x) → HasLeft tells written faults old new texts (lines_texts brief is rest)
  line_goes_on {new = new} is e h =
      subst (λ (s : State). HasLeft tells written faults old new texts (lines_texts brief s rest)) (sym e) (one_more _ _ before h)

  -- a step was not written
  pub line_fails : {T U : Type 0} {new : S} {error : ReportError} → WritesText {T = T} tells written faults WriteFault NoMemory mid new (line_text brief was line) (Err error)
      → WritesTexts {T = U} tells written faults WriteFault NoMemory old new texts (Err error)
  line_fails h = fails_within _ _ before h

-- no line is left
pub lines_end : {S U : Type 0} {tells : S → Bool} {written : S → List ℕ} {faults : S → ℕ} {old new : S} {texts : List (List ℕ)} (brief : Bool) (s : State)
    (lines : List (ℕ × List ℕ)) (y : U) → lines ≡ [] → HasLeft tells written faults old new texts (lines_texts brief s lines)
    → WritesTexts tells written faults WriteFault NoMemory old new texts (Ok y)
lines_end {tells = tells} {written = written} {faults = faults} {old = old} {new = new} {texts = texts} brief s lines y none so_far =
    all_written y (subst (λ (ls : List (ℕ × List ℕ)). HasLeft tells written faults old new texts (lines_texts brief s ls)) none so_far)
