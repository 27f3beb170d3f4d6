use Rattle.std.proofs.Common.{◌≤◌, length}
use Rattle.cos_patterns.specs.CrateMaker.{large_of, unread_of}
use Rattle.cos_patterns.specs.Tables.{Agrees}
use Rattle.cos_patterns.proofs.tests.many_patterns_are_put.Given as goal

abbrev pub invariant-loop-turn : goal.invariant-loop-turn
invariant-loop-turn g l = record {
  agrees : Agrees l.table (large_of l.maker) (unread_of l.maker);
  few : length l.table.patterns ≤ l.turn-counter;
}
