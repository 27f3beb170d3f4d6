use Rattle.std.proofs.Common.{◌≡◌, ◌++◌, take, string_bytes}
use Rattle.std.specs.List.{flat_map}
use Rattle.hide_report.specs.Texts.{filter_text}
use Rattle.hide_report.proofs.texts.push_filters.Given as goal

abbrev pub invariant-loop-filter : goal.invariant-loop-filter
invariant-loop-filter l = string_bytes l.text ≡ string_bytes l.fn.text ++ flat_map filter_text (take l.filter-index l.active)
