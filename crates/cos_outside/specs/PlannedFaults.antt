-- Which calls of a fake are to fail.
use Rattle.std.specs.Prelude.{ℕ, ◌≡◌, List, Contains}
use Rattle.cos_outside.specs.declared.planned.PlannedFaults.{PlannedFaults}
use Rattle.cos_outside.specs.Causes.{raised}

-- no call was counted yet, and these are to fail
pub record IsNewPlan (plan : PlannedFaults) (given : List ℕ) : Type 0 where
  pub calls : plan.calls ≡ 0
  pub fails : plan.fails ≡ given

-- the number of the next call, from 1, is one of those that are to fail
abbrev pub FailsNext : PlannedFaults → Type 0
FailsNext plan = Contains plan.fails (raised plan.calls)

-- one more call was counted, and the calls that are to fail stay
pub record CountsCall (old new : PlannedFaults) : Type 0 where
  pub calls : new.calls ≡ raised old.calls
  pub fails : new.fails ≡ old.fails
