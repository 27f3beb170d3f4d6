use Rattle.std.proofs.Common.{ℕ, ◌∙◌, ap, arith}
use Rattle.page_tree.specs.Forest.{Tree, size}
use Rattle.page_tree.specs.Edits.{without, detached}
use Rattle.dom_arena.specs.Linked.{tree_of}
use Rattle.dom_arena.proofs.Added.{Stands-viewed, tree_of-stands}
use Rattle.dom_arena.proofs.dom.Dom.detach.Goals as goal

pub invariant_of-self : goal.invariant_of-self
invariant_of-self c = record {
  stands = Stands-viewed c.take_out.new.table.0 _ c.take_out.ensures.stands;
  counted = omega (arith, c.self.invariant.counted, c.take_out.ensures.count, ap (λ (t : Tree). size t.nodes) (tree_of-stands c.take_out.new.table.0 _ c.take_out.ensures.stands));
}

pub returns-clause-tree : goal.returns-clause-tree
returns-clause-tree c =
    tree_of-stands c.take_out.new.table.0 _ c.take_out.ensures.stands
    ∙ ap (λ (k : ℕ). let t : Tree = record { nodes = without c.args.n (tree_of c.self.inside.table.0).nodes; next = k } in t) c.take_out.ensures.long
    ∙ ap (detached c.args.n) c.self.view_is
