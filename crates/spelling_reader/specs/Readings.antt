-- What readers give: what the definition gives. Where they stop instead, the lexer says what they owe.
use Rattle.std.specs.Prelude.{◌≡◌, ℕ, ◌≤◌, Bool, List, [], ◌∷◌, ◌++◌, drop, Result, Ok}
use Rattle.selector_tree.specs.declared.selector.Step.{Step}
use Rattle.selector_tree.specs.declared.selector.Step.TheVariants as step
use Rattle.selector_tree.specs.declared.selector.Test.{Test}
use Rattle.selector_spelling.specs.declared.finding.Cause.TheVariants.{EmptyPart}
use Rattle.selector_spelling.specs.declared.finding.Finding.{Finding}
use Rattle.selector_spelling.specs.declared.reading.Notes.{Notes}
use Rattle.selector_spelling.specs.declared.reading.Reading.{Reading}
use Rattle.selector_spelling.specs.declared.reading.Chains.{Chains}
use Rattle.selector_spelling.specs.declared.reading.Setting.{Setting}
use Rattle.selector_spelling.specs.Bytes.{Bytes}
use Rattle.selector_spelling.specs.Pieces.{bad, notes_joined, keep, Piece, piece}

-- a reader of arguments
abbrev pub Inner : Type 0
Inner = Bool → ℕ → Bytes → Result Chains Finding

-- steps and notes grew by what pieces are read as
pub record Reads (steps steps' : List Step) (notes notes' : Notes) (given : Result Reading Finding) : Type 0 where
  pub reading : Reading
  pub is : given ≡ Ok reading
  pub steps_are : steps' ≡ steps ++ reading.steps
  pub notes_are : notes' ≡ notes_joined notes reading.notes

-- a selector was read, and the notes grew by those of it
pub record ReadsChains (chains : List (List Step)) (notes notes' : Notes) (given : Result Chains Finding) : Type 0 where
  pub read : Chains
  pub is : given ≡ Ok read
  pub chains_are : chains ≡ read.chains
  pub notes_are : notes' ≡ notes_joined notes read.notes

-- a piece was read at the front of a text, and the rest is behind it
pub record ReadsPiece (steps steps' : List Step) (notes notes' : Notes) (text rest : Bytes) (given : Result Piece Finding) : Type 0 where
  pub read : Piece
  pub is : given ≡ Ok read
  pub some : 1 ≤ read.length
  pub rest_is : rest ≡ drop read.length text
  pub steps_are : steps' ≡ steps ++ read.reading.steps
  pub notes_are : notes' ≡ notes_joined notes read.reading.notes

-- the piece is a test of a name or an attribute
pub record ReadsTest (steps steps' : List Step) (text rest : Bytes) (given : Result Piece Finding) : Type 0 where
  pub test : Test
  pub length : ℕ
  pub is : given ≡ Ok (record { length = length; reading = keep test })
  pub some : 1 ≤ length
  pub rest_is : rest ≡ drop length text
  pub steps_are : steps' ≡ steps ++ step.Keep test ∷ []

-- the piece at the front of a text that isn't empty
abbrev pub piece_at : Inner → Setting → Bool → ℕ → Bytes → Result Piece Finding
piece_at inner setting first at [] = bad EmptyPart at
piece_at inner setting first at (b ∷ text) = piece inner setting first at b text
