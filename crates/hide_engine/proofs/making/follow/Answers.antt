use Rattle.std.proofs.Common.{List, subst}
use Rattle.sensor_meaning.specs.Sensors.{Sensors}
use Rattle.hide_engine.specs.Groups.{Notes}
use Rattle.hide_engine.proofs.Following.{on_ok, right, given}
use Rattle.hide_engine.proofs.making.follow.Goals as goal

pub returns-clause-right : goal.returns-clause-right
returns-clause-right c =
    on_ok c.note.result c.note.ensures
    (λ notes old step before.
    right c.args.filters.now c.requires.ready old c.args.page.now c.args.change.now c.args.gone.now step c.args.marks.now c.drop_all.new.marks c.args.pending.now c.note.new.pending c.drop_all.ensures
    (subst (λ (sets : List Sensors). Notes c.args.change.now c.args.page.now.tree sets c.args.pending.now c.note.new.pending) c.as_slice.ensures.value notes) before)

pub returns-clause-given : goal.returns-clause-given
returns-clause-given c =
    on_ok c.note.result c.note.ensures
    (λ notes pairs before.
    given c.args.filters.now c.requires.ready c.args.page.now c.args.change.now c.args.pending.now c.note.new.pending pairs
    (subst (λ (sets : List Sensors). Notes c.args.change.now c.args.page.now.tree sets c.args.pending.now c.note.new.pending) c.as_slice.ensures.value notes) before)
