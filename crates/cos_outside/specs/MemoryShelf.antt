-- What a shelf in memory shows.
use Rattle.std.specs.Prelude.{ℕ, Bool, List, [], Option, Some, None, is_some, drop}
use Rattle.cos_outside.specs.declared.planned.PlannedFaults.{PlannedFaults}
use Rattle.cos_outside.specs.declared.memory_shelf.Hand.{Hand}
use Rattle.cos_outside.specs.declared.memory_shelf.MemoryShelf.{MemoryShelf}
use Rattle.cos_outside.specs.Files.{file_of, bytes_at}

-- the files by name
abbrev pub files_of : MemoryShelf → List ℕ → Option (List ℕ)
files_of shelf = file_of shelf.files

-- what is left of the file in hand
abbrev pub rest_in : List (List ℕ × List ℕ) → Option Hand → List ℕ
rest_in files None = []
rest_in files (Some hand) = drop hand.at (bytes_at files hand.file)

-- what is left of the shelf's file in hand
abbrev pub rest_of : MemoryShelf → List ℕ
rest_of shelf = rest_in shelf.files shelf.hand

-- the names begun
abbrev pub names_begun : MemoryShelf → List (List ℕ)
names_begun shelf = shelf.begun

-- whether a file is in hand
abbrev pub has_file : MemoryShelf → Bool
has_file shelf = is_some shelf.hand

-- how many calls failed
abbrev pub fault_count : MemoryShelf → ℕ
fault_count shelf = shelf.faults.count

-- which calls are to fail
abbrev pub plan_of : MemoryShelf → PlannedFaults
plan_of shelf = shelf.plan

-- how many bytes are given at once at most
abbrev pub piece_of : MemoryShelf → ℕ
piece_of shelf = shelf.piece
