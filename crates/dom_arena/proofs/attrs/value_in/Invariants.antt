use Rattle.std.proofs.Common.{◌≡◌, drop}
use Rattle.page_tree.specs.Forest.{value_at}
use Rattle.dom_arena.proofs.attrs.value_in.Given as goal

abbrev pub invariant-loop-attr : goal.invariant-loop-attr
invariant-loop-attr l = value_at l.name (drop l.attr-index l.attrs) ≡ value_at l.name l.attrs
