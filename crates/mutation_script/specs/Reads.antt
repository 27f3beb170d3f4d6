-- What a function gives, against what reading a line gives.
use Rattle.std.specs.Prelude.{◌≡◌, Result, Ok, Err}
use Rattle.mutation_script.specs.declared.mutation.BadLine.{BadLine}
use Rattle.mutation_script.specs.declared.lines.LineError.{LineError}
use Rattle.mutation_script.specs.declared.lines.LineError.TheVariants as errors

-- what a function gives, seen by view, is what reading gives
abbrev pub Reads : {A B : Type 0} → (A → B) → Result A BadLine → Result B BadLine → Type 0
Reads view (Ok value) read = read ≡ Ok (view value)
Reads view (Err cause) read = read ≡ Err cause

-- the same of a function that takes memory: where it got none, it owes nothing
abbrev pub FailsAs : {B : Type 0} → LineError → Result B BadLine → Type 0
FailsAs (errors.Bad cause) read = read ≡ Err cause
FailsAs errors.NoMemory read = Unit {0}

abbrev pub Gives : {A : Type 0} → Result A LineError → Result A BadLine → Type 0
Gives (Ok value) read = read ≡ Ok value
Gives (Err error) read = FailsAs error read
