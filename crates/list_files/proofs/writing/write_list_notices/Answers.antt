use Rattle.std.proofs.Common.{List, refl, arith, drop_of_length-le, subst}
use Rattle.std.proofs.lemmas.Result.{err_from_is_err_and}
use Rattle.command_meaning.specs.Report.{lists_texts}
use Rattle.hide_report.specs.declared.writing.ReportError.TheVariants.{WriteFault, NoMemory}
use Rattle.list_entries.specs.declared.entry.ListRead.{ListRead}
use Rattle.list_files.proofs.Items.{next_of}
use Rattle.list_files.proofs.TextsLeft.{TextsLeft, all_left, all_written, one_failed, one_more}
use Rattle.list_files.proofs.writing.write_list_notices.Goals as goal

pub lists-init : goal.lists-init
lists-init g c = record { number = refl; texts = all_left c.args.out.now (lists_texts 1 c.args.lists.now) tt }

pub returns-in_err-write_notices : goal.returns-in_err-write_notices
returns-in_err-write_notices g c =
    let s = g.O.Sink in
    let e = err_from_is_err_and c.from_residual.result c.from_residual.ensures.1 in
    let left = subst (λ (lists : List ListRead). TextsLeft (Unit {0}) s.tells s.written s.faults WriteFault NoMemory c.args.out.now c.lists.out (lists_texts 1 c.args.lists.now) (lists_texts c.lists.number lists))
    (next_of c.args.lists.now c.lists.list-index c.list-item.result c.lists-test.true c.list-item.is) c.lists.invariant.texts in
    rw (e.1, e.2) (one_failed left c.in_err-write_notices.ensures)

pub lists-preserved : goal.lists-preserved
lists-preserved g c =
    let s = g.O.Sink in
    let left = subst (λ (lists : List ListRead). TextsLeft (Unit {0}) s.tells s.written s.faults WriteFault NoMemory c.args.out.now c.lists.out (lists_texts 1 c.args.lists.now) (lists_texts c.lists.number lists))
    (next_of c.args.lists.now c.lists.list-index c.list-item.result c.lists-test.true c.list-item.is) c.lists.invariant.texts in
    record { number = omega arith; texts = one_more left c.in_ok-write_notices.ensures }

pub returns : goal.returns
returns g c =
    let s = g.O.Sink in
    all_written tt
    (subst (λ (lists : List ListRead). TextsLeft (Unit {0}) s.tells s.written s.faults WriteFault NoMemory c.args.out.now c.lists.out (lists_texts 1 c.args.lists.now) (lists_texts c.lists.number lists))
    (drop_of_length-le c.args.lists.now c.lists-test.false) c.lists.invariant.texts)
