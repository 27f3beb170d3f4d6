use Rattle.page_tree.specs.Forest.{size}
use Rattle.dom_arena.specs.Parts.{part_from}
use Rattle.dom_arena.proofs.Parting.{AreClearedTo}
use Rattle.dom_arena.proofs.parts.+clear_all.Given as goal

abbrev pub decreases-clear_all : goal.decreases-clear_all
decreases-clear_all l = size (part_from l.table.now.0 l.first)

abbrev pub invariant-loop-at : goal.invariant-loop-at
invariant-loop-at l = AreClearedTo (part_from l.fn.table.0 l.fn.first) l.fn.table.0 l.table.0 l.at l.count

abbrev pub decreases-loop-at : goal.decreases-loop-at
decreases-loop-at l = size (part_from l.table.0 l.at)
