use Rattle.std.proofs.Common.{◌≤◌, length}
use Rattle.hide_engine.specs.Groups.{AreNumbered}
use Rattle.hide_engine.proofs.Grouping.{AreGroupedBefore}
use Rattle.hide_engine.proofs.groups.Groups.of.Given as goal

-- the filters so far are in groups
abbrev pub invariant-loop-place : goal.invariant-loop-place
invariant-loop-place l =
    record {
      grouped : AreGroupedBefore l.place l.active l.sets.items l.numbers;
      numbered : AreNumbered l.places l.sets.items;
      few : length l.sets.items ≤ l.place;
    }
