use Rattle.std.proofs.Common.{◌≡◌, take}
use Rattle.hide_engine.specs.Chosen.{chosen}
use Rattle.hide_engine.proofs.rows.chosen.Given as goal

-- those among the places so far
abbrev pub invariant-loop-f : goal.invariant-loop-f
invariant-loop-f l = l.found ≡ chosen l.active l.action (take l.f-index l.places)
