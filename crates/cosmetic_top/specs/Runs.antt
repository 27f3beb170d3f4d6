-- What a command promises of its shelf and its sink. The shelf is seen by four functions: whether it tells its files, the files by
-- name, the names begun, and its count of faults; the sink by three: whether it tells what was written, the bytes written, and its
-- count of faults.
use Rattle.std.specs.Prelude.{ℕ, ◌≡◌, ◌≤◌, Bool, true, false, List, [], ◌++◌, None, length, take, IsTrue, Result, OnOk, IfErr, IsErrOf}
use Rattle.std.specs.List.{concat}
use Rattle.cos_outside.specs.Causes.{Rose}
use Rattle.cos_outside.specs.Runs.{AppendsPrefix}
use Rattle.cos_patterns.specs.declared.written.Asked.{Asked}
use Rattle.cos_patterns.specs.declared.written.Written.{Written}
use Rattle.command_inputs.specs.declared.status.Status.{Status}
use Rattle.command_inputs.specs.declared.status.Status.TheVariants.{Done, ReadFault, WriteFault, NoMemory}
use Rattle.command_inputs.specs.Due.{Due, Files}
use Rattle.command_inputs.specs.Reads.{is_failure}
use Rattle.command_meaning.specs.Output.{Texts, status_by, texts_by}
use Rattle.cosmetic_top.specs.Statuses.{IsFailed, is_refusal}

-- new is old, and then some of the first texts, each whole
pub record AppendsWhole (old new : List ℕ) (texts : List (List ℕ)) : Type 0 where
  pub count : ℕ
  pub within : count ≤ length texts
  pub front : new ≡ old ++ concat (take count texts)

-- The texts that are due come of the files, under what the maker refused. An answer that is no failure is the one that is due, and
-- what was written is a front of the texts: nothing where the command is refused, all of them at Done, whole ones at want of memory.
pub record RunsAs {S O T : Type 0} (tells : S → Bool) (files : S → Files) (begun : S → List (List ℕ)) (read_faults : S → ℕ) (old new : S)
    (shows : O → Bool) (written : O → List ℕ) (write_faults : O → ℕ) (before after : O)
    (large : List Asked) (unread : List Written) (due : Files → Due Texts) (result : Result T Status) : Type 0 where
  pub kinds : IfErr result IsFailed
  pub is_due : IsTrue (tells old) → IfErr result (λ status. is_failure status ≡ false → status_by (due (files old)).answer ≡ status)
  pub done : IsTrue (tells old) → OnOk result (status_by (due (files old)).answer ≡ Done)
  pub accepted : IsTrue (tells old) → IsErrOf result WriteFault → status_by (due (files old)).answer ≡ Done
  pub names : IsTrue (tells old) → AppendsPrefix (begun old) (begun new) (due (files old)).begun
  pub read_fault : IsErrOf result ReadFault → Rose (read_faults old) (read_faults new)
  pub write_fault : IsErrOf result WriteFault → Rose (write_faults before) (write_faults after)
  pub output : IsTrue (tells old) → IsTrue (shows before) →
      OnOk result (written after ≡ written before ++ concat (texts_by (due (files old)).answer large unread))
  pub front : IsTrue (tells old) → IsTrue (shows before) →
      AppendsPrefix (written before) (written after) (concat (texts_by (due (files old)).answer large unread))
  pub whole : IsTrue (tells old) → IsTrue (shows before) → IsErrOf result NoMemory →
      AppendsWhole (written before) (written after) (texts_by (due (files old)).answer large unread)
  pub silent : IfErr result (λ status. IsTrue (is_refusal status) → written after ≡ written before)

-- the same of a command that reads no files
abbrev pub RunsAlone : {O T : Type 0} → (O → Bool) → (O → List ℕ) → (O → ℕ) → O → O → List Asked → List Written → (Files → Due Texts) → Result T Status → Type 0
RunsAlone {O} {T} shows written faults before after large unread due result =
    RunsAs {S = Bool} (λ s. true) (λ s name. None) (λ s. []) (λ s. 0) true true shows written faults before after large unread due result
