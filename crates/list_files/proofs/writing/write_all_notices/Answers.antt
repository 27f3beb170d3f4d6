use Rattle.std.proofs.Common.{List, subst}
use Rattle.cos_outside.proofs.Writing.{and_more, text_alone}
use Rattle.command_meaning.specs.Report.{lists_texts}
use Rattle.hide_report.specs.Reported.{ReportsAll}
use Rattle.list_entries.specs.declared.entry.ListRead.{ListRead}
use Rattle.list_files.proofs.writing.write_all_notices.Goals as goal

pub returns : goal.returns
returns g c =
    let s = g.O.Sink in
    and_more (text_alone c.in_ok-write_notices.ensures)
    (subst (λ (lists : List ListRead). ReportsAll s.tells s.written s.faults c.write_notices.new.out c.write_list_notices.new.out (lists_texts 1 lists) c.write_list_notices.result)
    c.as_slice.ensures c.write_list_notices.ensures)
