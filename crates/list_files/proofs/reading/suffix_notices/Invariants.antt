use Rattle.std.proofs.Common.{◌≡◌, map, take}
use Rattle.command_meaning.specs.Report.{bad_suffix}
use Rattle.list_files.proofs.reading.suffix_notices.Given as goal

abbrev pub invariant-loop-line : goal.invariant-loop-line
invariant-loop-line l = l.notices ≡ map bad_suffix (take l.line-index l.lines)
