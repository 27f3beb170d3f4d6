-- The parts of a report, written one after the other.
use Rattle.std.proofs.Common.{◌≡◌, ◌∙◌, ℕ, Bool, List, ◌≤◌, Result, Ok, Err, IfOk, length, arith, ap, subst, sym}
use Rattle.std.proofs.lemmas.List.{length-drop}
use Rattle.cos_source.specs.Mark.{mark_length, without_mark}
use Rattle.cos_outside.specs.Writes.{WritesTexts}
use Rattle.hide_report.specs.declared.writing.ReportError.TheVariants.{WriteFault, NoMemory}

-- an error that goes on as it is
pub writes_exit : {S T E : Type 0} {tells : S → Bool} {written : S → List ℕ} {faults : S → ℕ} {fault memory : E} {old new : S}
    {texts : List (List ℕ)} {result : Result T E} {error : E} → (y : E) × (result ≡ Err y) × (y ≡ error) →
    WritesTexts {T = T} tells written faults fault memory old new texts (Err error) → WritesTexts tells written faults fault memory old new texts result
writes_exit {T = T} {E = E} {tells = tells} {written = written} {faults = faults} {fault = fault} {memory = memory} {old = old} {new = new} {texts = texts} e h =
    subst (λ (r : Result T E). WritesTexts tells written faults fault memory old new texts r) (sym (e.1 ∙ ap Err e.2)) h

pub no_fault : NoMemory ≡ WriteFault → ⊥
no_fault e = cc

pub unmarked_length : (bytes : List ℕ) → length (without_mark bytes) ≤ length bytes
unmarked_length bytes = omega (arith, length-drop (mark_length bytes) bytes)

-- what holds of an answer gives what follows from it
pub if_ok_then : {T E : Type 0} {P Q : T → Type 0} (result : Result T E) → ((x : T) → P x → Q x) → IfOk result P → IfOk result Q
if_ok_then (Ok x) then h = then x h
if_ok_then (Err error) then h = tt
