-- What several calls appended one after another, to a list of bytes or of names.
use Rattle.std.specs.Prelude.{ℕ, ◌≡◌, ◌≤◌, List, ◌++◌, length, take}

-- new is old, and then a prefix of items
pub record AppendsPrefix {A : Type 0} (old new items : List A) : Type 0 where
  pub count : ℕ
  pub within : count ≤ length items
  pub front : new ≡ old ++ take count items

-- new is old and the front of a text, of which this is left
pub record HasLeft {A : Type 0} (old new text left : List A) : Type 0 where
  pub done : List A
  pub appended : new ≡ old ++ done
  pub whole : text ≡ done ++ left
