-- How an answer is tied to the one that is due, and what a call that reads promises of its shelf.
use Rattle.std.specs.Prelude.{ℕ, ◌≡◌, ◌≤◌, Bool, true, false, List, ◌++◌, Option, Result, Ok, Err, IsTrue, OnOk, IsErrOf}
use Rattle.cos_outside.specs.Causes.{Rose}
use Rattle.cos_outside.specs.Runs.{AppendsPrefix}
use Rattle.command_inputs.specs.declared.status.Status.{Status}
use Rattle.command_inputs.specs.declared.status.Status.TheVariants.{Done, Usage, ReadFault, WriteFault, Refused, NoMemory}
use Rattle.command_inputs.specs.declared.status.InputRefusal.{InputRefusal}
use Rattle.command_inputs.specs.declared.status.InputRefusal.TheVariants.{AddressTooLarge}
use Rattle.command_inputs.specs.Due.{Due, Files}

-- whether the address was refused for size, which no text tells
abbrev pub is_too_large : InputRefusal → Bool
is_too_large AddressTooLarge = true
is_too_large _ = false

-- an answer that isn't tied to the words and the files: it comes from a fault, from want of memory or from an address that the
-- maker refuses for size
abbrev pub is_failure : Status → Bool
is_failure ReadFault = true
is_failure WriteFault = true
is_failure NoMemory = true
is_failure (Refused refusal) = is_too_large refusal
is_failure _ = false

-- the answer is the one that is due, unless it is a failure
abbrev pub IsDue : {T : Type 0} → Result T Status → Result T Status → Type 0
IsDue (Ok x) due = due ≡ Ok x
IsDue (Err status) due = is_failure status ≡ false → due ≡ Err status

-- an error that files may give: none of them is refused as an address is
abbrev pub IsFileError : Status → Type 0
IsFileError Done = ⊥
IsFileError Usage = ⊥
IsFileError ReadFault = Unit {0}
IsFileError WriteFault = ⊥
IsFileError (Refused refusal) = is_too_large refusal ≡ false
IsFileError NoMemory = Unit {0}

-- an error that a page may give: it comes from no fault
abbrev pub IsPageError : Status → Type 0
IsPageError Done = ⊥
IsPageError Usage = ⊥
IsPageError ReadFault = ⊥
IsPageError WriteFault = ⊥
IsPageError (Refused refusal) = is_too_large refusal ≡ false
IsPageError NoMemory = Unit {0}

-- an error that an address may give
abbrev pub IsAddressError : Status → Type 0
IsAddressError Done = ⊥
IsAddressError Usage = ⊥
IsAddressError ReadFault = ⊥
IsAddressError WriteFault = ⊥
IsAddressError (Refused refusal) = Unit {0}
IsAddressError NoMemory = Unit {0}

-- an error that reading may give
abbrev pub IsInputError : Status → Type 0
IsInputError Done = ⊥
IsInputError Usage = ⊥
IsInputError ReadFault = Unit {0}
IsInputError WriteFault = ⊥
IsInputError (Refused refusal) = Unit {0}
IsInputError NoMemory = Unit {0}

-- The shelf is seen by four functions: whether it tells its files, the files by name, the names begun, and its count of faults.
-- Where it tells, the answer is the one that is due, and the names begun are those that are begun for it, up to the first fault.
pub record ReadsAs {S A : Type 0} (tells : S → Bool) (files : S → Files) (begun : S → List (List ℕ)) (faults : S → ℕ)
    (old new : S) (due : Files → Due A) (result : Result A Status) : Type 0 where
  pub told : tells new ≡ tells old
  pub same_files : files new ≡ files old
  pub is_due : IsTrue (tells old) → IsDue result (due (files old)).answer
  pub names : IsTrue (tells old) → AppendsPrefix (begun old) (begun new) (due (files old)).begun
  pub all_names : IsTrue (tells old) → OnOk result (begun new ≡ begun old ++ (due (files old)).begun)
  pub later : faults old ≤ faults new
  pub cause : IsErrOf result ReadFault → Rose (faults old) (faults new)
