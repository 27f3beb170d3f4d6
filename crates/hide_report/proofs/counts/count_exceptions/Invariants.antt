use Rattle.std.proofs.Common.{◌≡◌, ◌≤◌, take, count_by}
use Rattle.hide_report.specs.Texts.{is_exception}
use Rattle.hide_report.proofs.counts.count_exceptions.Given as goal

abbrev pub invariant-loop-entry : goal.invariant-loop-entry
invariant-loop-entry l =
    record { same : l.count ≡ count_by is_exception (take l.entry-index l.entries); most : l.count ≤ l.entry-index }
