use Rattle.std.proofs.Common.{sym, ◌∙◌}
use Rattle.hide_engine.proofs.NotedGroups.{quiet}
use Rattle.hide_engine.proofs.noting.note_group.Goals as goal

pub returns-then-not-is_observed : goal.returns-then-not-is_observed
returns-then-not-is_observed c =
    quiet c.args.change.now c.args.dom.now c.args.set.now c.args.pending.now c.args.group (sym c.is_observed.ensures ∙ c.if-not-is_observed.true)
