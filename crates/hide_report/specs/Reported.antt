-- What a call that writes a text of a report promises of its sink.
use Rattle.std.specs.Prelude.{ℕ, ◌≡◌, Bool, List, Result}
use Rattle.cos_outside.specs.Writes.{WritesText, WritesTexts}
use Rattle.dom_arena.specs.declared.refusals.DomError.TheVariants as errors
use Rattle.mutation_script.specs.declared.answer.Answer.{Answer}
use Rattle.mutation_script.specs.declared.answer.Answer.TheVariants as answers
use Rattle.hide_report.specs.declared.writing.ReportError.{ReportError}
use Rattle.hide_report.specs.declared.writing.ReportError.TheVariants.{WriteFault, NoMemory}

-- one text is written, in one piece
abbrev pub Reports : {S T : Type 0} → (S → Bool) → (S → List ℕ) → (S → ℕ) → S → S → List ℕ → Result T ReportError → Type 0
Reports tells written faults old new text result = WritesText tells written faults WriteFault NoMemory old new text result

-- texts are written one after the other, each in one piece
abbrev pub ReportsAll : {S T : Type 0} → (S → Bool) → (S → List ℕ) → (S → ℕ) → S → S → List (List ℕ) → Result T ReportError → Type 0
ReportsAll tells written faults old new texts result = WritesTexts tells written faults WriteFault NoMemory old new texts result

-- the answer of a step: want of memory is no refusal of a line
abbrev pub IsAnswer : Answer → Type 0
IsAnswer given = given ≡ answers.Refused errors.NoMemory → ⊥
