-- What reading a file takes of it.
use Rattle.std.specs.Prelude.{ℕ, ◌≡◌, ◌+◌, ◌≤◌, ◌↔◌, List, ◌++◌, length, Option, Some, Result, IsErrOf}
use Rattle.cos_outside.specs.declared.errors.ReadError.{ReadError}
use Rattle.cos_outside.specs.declared.errors.ReadError.TheVariants.{TooLong}

-- some bytes of the file were taken, and the rest is left; one byte past the limit was taken exactly at TooLong
pub record TakesFrom {T : Type 0} (file : Option (List ℕ)) (rest : List ℕ) (limit : ℕ) (result : Result T ReadError) : Type 0 where
  pub taken : List ℕ
  pub split : file ≡ Some (taken ++ rest)
  pub most : length taken ≤ limit + 1
  pub past : IsErrOf result TooLong ↔ (length taken ≡ limit + 1)
