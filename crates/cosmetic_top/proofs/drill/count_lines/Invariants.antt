use Rattle.std.proofs.Common.{◌≡◌, ◌+◌, length}
use Rattle.cos_source.specs.Lines.{lines_of, numbered}
use Rattle.cosmetic_top.proofs.drill.count_lines.Given as goal

-- the lines counted, with those that are left, are all
abbrev pub invariant-lines : goal.invariant-lines
invariant-lines l = l.count + length l.lines ≡ length (numbered 1 (lines_of l.source))

abbrev pub decreases-lines : goal.decreases-lines
decreases-lines l = length l.lines
