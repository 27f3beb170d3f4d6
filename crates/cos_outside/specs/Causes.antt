-- Counts of faults, and the errors that come only where they rose.
use Rattle.std.specs.Prelude.{ℕ, ◌+◌, ◌-◌, ◌^◌, ◌≤◌, min, Result, OnErr, IsErrOf}
use Rattle.cos_outside.specs.declared.errors.ReadError.{ReadError}
use Rattle.cos_outside.specs.declared.errors.ReadError.TheVariants.{Fault}

-- a counter after one more, which stands still at its last value
abbrev pub raised : ℕ → ℕ
raised count = min (count + 1) (2 ^ 64 - 1)

-- the count rose, or stands at its last value
abbrev pub Rose : ℕ → ℕ → Type 0
Rose before now = raised before ≤ now

-- the count doesn't fall, and an error comes only where it rose
pub record HasCause {T E : Type 0} (before now : ℕ) (result : Result T E) : Type 0 where
  pub later : before ≤ now
  pub failed : OnErr result (Rose before now)

-- the count doesn't fall, and `Fault` comes only where it rose
pub record FaultHasCause {T : Type 0} (before now : ℕ) (result : Result T ReadError) : Type 0 where
  pub later : before ≤ now
  pub failed : IsErrOf result Fault → Rose before now
