use Rattle.std.proofs.Common.{length}
use Rattle.html_tree.proofs.Grown.{Grown}
use Rattle.html_tree.proofs.reader.read_page.Given as goal

abbrev pub invariant-loop-token : goal.invariant-loop-token
invariant-loop-token l = Grown l.chain l.numbers.items l.tokens l.dom l.source

abbrev pub decreases-loop-token : goal.decreases-loop-token
decreases-loop-token l = length l.tokens
