use Rattle.std.proofs.Common.{◌∙◌, ap}
use Rattle.page_tree.specs.Forest.{Tree, size}
use Rattle.cosmetic_top.proofs.Drilled.{counts_are}
use Rattle.cosmetic_top.proofs.drill.told.Goals as goal

pub returns : goal.returns
returns c =
    counts_are c.args.number c.count.result c.args.steps c.hidden_count.result c.args.taken c.args.behind.now
    (c.count.ensures ∙ ap (λ (t : Tree). size t.nodes) c.dom.ensures)
    c.requires.steps
    c.hidden_count.ensures
