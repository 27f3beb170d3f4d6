use Rattle.std.proofs.Common.{◌≡◌, ◌++◌, length}
use Rattle.cos_source.specs.Lines.{lines_of, numbered}
use Rattle.host_names.specs.SuffixLines.{bad_lines, rules_of}
use Rattle.host_names.proofs.Walks.{AreAlike}
use Rattle.host_names.proofs.suffixes.Suffixes.read.Given as goal

abbrev pub invariant-lines : goal.invariant-lines
invariant-lines l = record {
  rules : AreAlike (l.rules ++ rules_of l.lines) (rules_of (numbered 1 (lines_of l.bytes)));
  bad : l.bad ++ bad_lines l.lines ≡ bad_lines (numbered 1 (lines_of l.bytes));
}

abbrev pub decreases-lines : goal.decreases-lines
decreases-lines l = length l.lines
