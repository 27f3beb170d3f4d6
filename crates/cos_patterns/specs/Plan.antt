-- Which calls of a maker for tests are answered `TooLarge`.
use Rattle.std.specs.Prelude.{ℕ, ◌≡◌, List, Contains}
use Rattle.cos_outside.specs.Causes.{raised}
use Rattle.cos_patterns.specs.declared.listed_maker.Plan.{Plan}

-- no call was counted yet, and these are listed
pub record IsNewPlan (plan : Plan) (given : List ℕ) : Type 0 where
  pub calls : plan.calls ≡ 0
  pub listed : plan.listed ≡ given

-- the number of the next call, from 1, is listed
abbrev pub IsListedNext : Plan → Type 0
IsListedNext plan = Contains plan.listed (raised plan.calls)

-- one more call was counted, and the listed calls stay
pub record CountsCall (old new : Plan) : Type 0 where
  pub calls : new.calls ≡ raised old.calls
  pub listed : new.listed ≡ old.listed
