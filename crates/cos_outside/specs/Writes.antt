-- What a call that writes to a sink promises of it. The sink is seen by three functions: whether it tells what was written, the
-- bytes written, and its count of faults. An error says either a fault of the sink or want of memory.
use Rattle.std.specs.Prelude.{ℕ, ◌≡◌, ◌≤◌, ◌<◌, Bool, List, ◌++◌, length, take, IsTrue, Result, OnOk, IsErrOf}
use Rattle.std.specs.List.{concat}
use Rattle.cos_outside.specs.Causes.{Rose}
use Rattle.cos_outside.specs.Runs.{AppendsPrefix}

-- new is old, and then the first of some texts, whole; at least one of them is left out
pub record AppendsFirst (old new : List ℕ) (texts : List (List ℕ)) : Type 0 where
  pub count : ℕ
  pub fewer : count < length texts
  pub front : new ≡ old ++ concat (take count texts)

-- one text is written, which was made first: all of it, unless there is an error; at a fault a front of it, and without memory
-- nothing
pub record WritesText {S T E : Type 0} (tells : S → Bool) (written : S → List ℕ) (faults : S → ℕ) (fault memory : E)
    (old new : S) (text : List ℕ) (result : Result T E) : Type 0 where
  pub told : tells new ≡ tells old
  pub whole : IsTrue (tells old) → OnOk result (written new ≡ written old ++ text)
  pub front : IsTrue (tells old) → AppendsPrefix (written old) (written new) text
  pub nothing : IsErrOf result memory → written new ≡ written old
  pub later : faults old ≤ faults new
  pub cause : IsErrOf result fault → Rose (faults old) (faults new)

-- texts are written one after the other: all of them, unless there is an error; at a fault a front of what they make together,
-- and without memory the first of them, each whole
pub record WritesTexts {S T E : Type 0} (tells : S → Bool) (written : S → List ℕ) (faults : S → ℕ) (fault memory : E)
    (old new : S) (texts : List (List ℕ)) (result : Result T E) : Type 0 where
  pub told : tells new ≡ tells old
  pub whole : IsTrue (tells old) → OnOk result (written new ≡ written old ++ concat texts)
  pub front : IsTrue (tells old) → AppendsPrefix (written old) (written new) (concat texts)
  pub first : IsTrue (tells old) → IsErrOf result memory → AppendsFirst (written old) (written new) texts
  pub later : faults old ≤ faults new
  pub cause : IsErrOf result fault → Rose (faults old) (faults new)
