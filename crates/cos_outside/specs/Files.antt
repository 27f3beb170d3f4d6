-- Files by name, as a list of pairs of a name and the file's bytes.
use Rattle.std.specs.Prelude.{ℕ, List, [], ◌∷◌, Option, Some, None, if◌then◌else◌, slice_get, unwrap_or, option_map}
use Rattle.std.specs.Str.{bytes_eq}

-- the bytes of the first file of this name
abbrev pub file_of : List (List ℕ × List ℕ) → List ℕ → Option (List ℕ)
file_of [] name = None
file_of (file ∷ files) name = if bytes_eq file.0 name then Some file.1 else file_of files name

-- the bytes of the file at a place, or none past the last one
abbrev pub bytes_at : List (List ℕ × List ℕ) → ℕ → List ℕ
bytes_at files place = unwrap_or (option_map (λ file. file.1) (slice_get files place)) []
