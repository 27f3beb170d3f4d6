use Rattle.std.proofs.Common.{◌≡◌, false, take}
use Rattle.std.specs.List.{list_any}
use Rattle.hide_engine.specs.Chosen.{acts_at}
use Rattle.hide_engine.proofs.rows.some_acts.Given as goal

-- none so far has the action
abbrev pub invariant-loop-f : goal.invariant-loop-f
invariant-loop-f l = list_any (acts_at l.active l.action) (take l.f-index l.places) ≡ false
