use Rattle.std.proofs.Common.{length}
use Rattle.cos_patterns.specs.Tables.{Agrees, Extends}
use Rattle.cos_source.specs.Lines.{lines_of, numbered}
use Rattle.list_reader.proofs.ListSteps.{SoFar}
use Rattle.list_reader.proofs.list.read_list.Given as goal

abbrev pub invariant-lines : goal.invariant-lines
invariant-lines g l = record {
  agrees : Agrees l.table (g.M.Maker.large l.maker) (g.M.Maker.unread l.maker);
  extends : Extends l.fn.table l.table;
  so_far : SoFar l.env l.number (numbered 1 (lines_of l.bytes)) (length l.bytes) l.table l.entries l.notices l.ifs l.lines;
}

abbrev pub decreases-lines : goal.decreases-lines
decreases-lines g l = length l.lines
