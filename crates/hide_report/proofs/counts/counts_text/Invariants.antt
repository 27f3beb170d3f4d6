use Rattle.std.proofs.Common.{◌≡◌, take}
use Rattle.hide_report.specs.Texts.{count_of, is_filter, is_exception, is_page_option}
use Rattle.hide_report.proofs.counts.counts_text.Given as goal

-- the entries of the lists so far
abbrev pub invariant-lists : goal.invariant-lists
invariant-lists l =
    record {
      filters : l.filters ≡ count_of is_filter (take l.list-index l.lists);
      exceptions : l.exceptions ≡ count_of is_exception (take l.list-index l.lists);
      options : l.options ≡ count_of is_page_option (take l.list-index l.lists);
    }
