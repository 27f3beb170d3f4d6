use Rattle.std.proofs.Common.{subst}
use Rattle.hide_engine.specs.declared.planned.Planned.{Planned}
use Rattle.hide_engine.specs.Ready.{IsPlanned}
use Rattle.hide_engine.proofs.Mutations.{came_is}
use Rattle.hide_engine.proofs.planned.Planned.made.Goals as goal

pub returns-in_ok-children_at-in-Comes : goal.returns-in_ok-children_at-in-Comes
returns-in_ok-children_at-in-Comes c mutation page tree planned made at =
    came_is page tree mutation c.in-Comes.parent c.in-Comes.place c.in-Comes.children c.args.dom.now c.in_ok-children_at-in-Comes.field-0
    (subst (λ (p : Planned). IsPlanned p mutation page.tree) c.in-Comes.is planned) made at c.in_ok-children_at-in-Comes.ensures
