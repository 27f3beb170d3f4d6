use Rattle.std.proofs.Common.{◌≡◌, ◌≤◌, take, count_by}
use Rattle.hide_report.specs.Texts.{is_page_option}
use Rattle.hide_report.proofs.counts.count_options.Given as goal

abbrev pub invariant-loop-entry : goal.invariant-loop-entry
invariant-loop-entry l =
    record { same : l.count ≡ count_by is_page_option (take l.entry-index l.entries); most : l.count ≤ l.entry-index }
