use Rattle.std.proofs.Common.{◌≡◌, ◌≤◌, max}
use Rattle.page_tree.specs.Forest.{size, height}
use Rattle.dom_arena.specs.Parts.{part_from, HoldPart}
use Rattle.dom_arena.proofs.parts.+height_from.Given as goal

abbrev pub decreases-height_from : goal.decreases-height_from
decreases-height_from l = size (part_from l.table.now.0 l.first)

abbrev pub invariant-loop-at : goal.invariant-loop-at
invariant-loop-at l = record {
  rest : HoldPart l.table.0 (part_from l.table.0 l.at) l.at;
  high : max l.height (height (part_from l.table.0 l.at)) ≡ height (part_from l.fn.table.0 l.fn.first);
  smaller : size (part_from l.table.0 l.at) ≤ size (part_from l.fn.table.0 l.fn.first);
}

abbrev pub decreases-loop-at : goal.decreases-loop-at
decreases-loop-at l = size (part_from l.table.0 l.at)
