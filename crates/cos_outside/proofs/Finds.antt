-- A search from the front, by what is left.
use Rattle.std.proofs.Common.{◌≡◌, ◌<◌, ℕ, zero, suc, List, [], ◌∷◌, length, drop, get_or, true, false, Some, arith, refl}
use Rattle.std.specs.Str.{bytes_eq}
use Rattle.cos_outside.specs.Files.{file_of, bytes_at}

-- the next file has the name
pub found : (files : List (List ℕ × List ℕ)) (i : ℕ) (name : List ℕ) (file : List ℕ × List ℕ) →
    i < length files → file ≡ get_or files i file → bytes_eq file.0 name ≡ true →
    file_of (drop i files) name ≡ Some (bytes_at files i)
found [] i name file within is same = absurd (omega arith)
found (x ∷ xs) zero name file within is same = let of_x : bytes_eq x.0 name ≡ true = cc in rw of_x refl
found (x ∷ xs) (suc i) name file within is same = found xs i name file (omega arith) is same

-- the next file has another name
pub passed : (files : List (List ℕ × List ℕ)) (i : ℕ) (name : List ℕ) (file : List ℕ × List ℕ) →
    i < length files → file ≡ get_or files i file → bytes_eq file.0 name ≡ false →
    file_of (drop i files) name ≡ file_of (drop (suc i) files) name
passed [] i name file within is other = absurd (omega arith)
passed (x ∷ xs) zero name file within is other = let of_x : bytes_eq x.0 name ≡ false = cc in rw of_x refl
passed (x ∷ xs) (suc i) name file within is other = passed xs i name file (omega arith) is other
