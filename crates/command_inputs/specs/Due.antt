-- What a command reads comes to, where nothing fails: an answer, and the names of the files that are begun for it. Files are read
-- one after the other; behind the first that is missing or refused none is begun.
use Rattle.std.specs.Prelude.{ℕ, List, [], ◌∷◌, ◌++◌, Option, Some, None, Result, Ok, Err, if◌then◌else◌, nat_lt, length}
use Rattle.command_inputs.specs.declared.status.File.{File}
use Rattle.command_inputs.specs.declared.status.Status.{Status}
use Rattle.command_inputs.specs.declared.status.Status.TheVariants.{ReadFault, Refused}
use Rattle.command_inputs.specs.declared.status.InputRefusal.TheVariants.{TooLong}

pub record Due (A : Type 0) : Type 0 where
  pub begun : List (List ℕ)
  pub answer : Result A Status

-- the bytes of files by their names, where they are there
abbrev pub Files : Type 0
Files = List ℕ → Option (List ℕ)

-- no file is begun for it
abbrev pub at_once : {A : Type 0} → Result A Status → Due A
at_once answer = record { begun = []; answer = answer }

abbrev pub behind : {A B : Type 0} → List (List ℕ) → Result A Status → (A → Due B) → Due B
behind begun (Ok x) next = record { begun = begun ++ (next x).begun; answer = (next x).answer }
behind begun (Err status) next = record { begun = begun; answer = Err status }

-- one after the other, up to the first that is missing or refused
infixl 10 ◌>>=◌
abbrev pub ◌>>=◌ : {A B : Type 0} → Due A → (A → Due B) → Due B
first >>= next = behind first.begun first.answer next

-- the bytes of a file, where it is there and within the limit
abbrev pub bytes_by : File → ℕ → Option (List ℕ) → Result (List ℕ) Status
bytes_by file limit None = Err ReadFault
bytes_by file limit (Some bytes) = if nat_lt limit (length bytes) then Err (Refused (TooLong file)) else Ok bytes

abbrev pub file_due : File → ℕ → List ℕ → Files → Due (List ℕ)
file_due file limit name files = record { begun = name ∷ []; answer = bytes_by file limit (files name) }
