use Rattle.std.proofs.Common.{drop}
use Rattle.cos_patterns.specs.Tables.{Agrees}
use Rattle.list_files.proofs.ListsLeft.{ListsLeft}
use Rattle.list_files.proofs.reading.read_lists.Given as goal

abbrev pub invariant-files : goal.invariant-files
invariant-files g l = record {
  agrees : Agrees l.table (g.M.Maker.large l.maker) (g.M.Maker.unread l.maker);
  so_far : ListsLeft l.env l.files l.table l.lists l.number (drop l.file-index l.files);
}
