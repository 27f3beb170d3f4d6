use Rattle.std.proofs.Common.{[], ◌∷◌}
use Rattle.std.proofs.lemmas.Result.{err_from_is_err_and}
use Rattle.cos_outside.proofs.Writing.{and_more, error_before, text_alone}
use Rattle.hide_report.specs.Texts.{counts_text}
use Rattle.list_files.proofs.writing.write_lists_report.Goals as goal

pub returns-in_err-write_all_notices : goal.returns-in_err-write_all_notices
returns-in_err-write_all_notices g c =
    let e = err_from_is_err_and c.from_residual.result c.from_residual.ensures.1 in
    rw (e.1, e.2) (error_before (counts_text c.args.read.now.lists ∷ []) c.in_err-write_all_notices.ensures)

pub returns : goal.returns
returns g c = and_more c.in_ok-write_all_notices.ensures (text_alone c.write_counts.ensures)
