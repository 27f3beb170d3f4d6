use Rattle.cos_patterns.specs.ListedMaker.{large_of, unread_of}
use Rattle.cos_patterns.specs.Tables.{Agrees}
use Rattle.selector_tests.proofs.selectors.patterns_are_asked_for_once.Given as goal

abbrev pub invariant-loop-text : goal.invariant-loop-text
invariant-loop-text g l = Agrees l.table (large_of l.maker) (unread_of l.maker)
