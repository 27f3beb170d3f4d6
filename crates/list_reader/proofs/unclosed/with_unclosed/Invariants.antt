use Rattle.std.proofs.Common.{◌≡◌, ◌++◌, [], length, reverse}
use Rattle.list_reader.specs.Unclosed.{woven, AreNoticed}
use Rattle.list_reader.proofs.unclosed.with_unclosed.Given as goal

abbrev pub invariant-parts : goal.invariant-parts
invariant-parts l = record {
  noticed : AreNoticed (length l.notices) l.ifs;
  all : woven 0 l.notices l.ifs [] ++ reverse l.back ≡ woven 0 l.fn.notices l.fn.ifs [];
}

abbrev pub decreases-parts : goal.decreases-parts
decreases-parts l = length l.ifs
