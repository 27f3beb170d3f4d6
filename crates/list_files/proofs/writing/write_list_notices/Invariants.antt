use Rattle.std.proofs.Common.{◌≡◌, ◌+◌, drop}
use Rattle.command_meaning.specs.Report.{lists_texts}
use Rattle.hide_report.specs.declared.writing.ReportError.TheVariants.{WriteFault, NoMemory}
use Rattle.list_files.proofs.TextsLeft.{TextsLeft}
use Rattle.list_files.proofs.writing.write_list_notices.Given as goal

abbrev pub invariant-lists : goal.invariant-lists
invariant-lists g l = record {
  number : l.number ≡ l.list-index + 1;
  texts : TextsLeft (Unit {0}) g.O.Sink.tells g.O.Sink.written g.O.Sink.faults WriteFault NoMemory l.fn.out l.out (lists_texts 1 l.lists) (lists_texts l.number (drop l.list-index l.lists));
}
