use Rattle.std.proofs.Common.{◌≡◌, ◌++◌, take, map, string_bytes}
use Rattle.std.specs.List.{flat_map}
use Rattle.engine_meaning.specs.Hidden.{pair_of}
use Rattle.hide_report.specs.Texts.{row_text}
use Rattle.hide_report.proofs.texts.push_rows.Given as goal

abbrev pub invariant-loop-row : goal.invariant-loop-row
invariant-loop-row l = string_bytes l.text ≡ string_bytes l.fn.text ++ flat_map (row_text l.dom l.active) (map pair_of (take l.row-index l.rows))
