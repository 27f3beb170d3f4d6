use Rattle.std.proofs.Common.{List, ℕ, ap, subst, ◌∙◌, arith}
use Rattle.page_tree.specs.Directions.{is_in}
use Rattle.hide_engine.proofs.NotedGroups.{NotesBefore, notes_all, notes_with}
use Rattle.hide_engine.proofs.noting.note.Goals as goal

pub returns : goal.returns
returns c =
    let change = c.args.change.now in
    let u = c.args.dom.now in
    let sets = c.args.sets.now in
    notes_with change u sets c.args.pending.now c.note_for_all.new.pending c.loop-group.pending c.as_slice.result.now
    (λ x. ap (λ (l : List ℕ). is_in l x) c.as_slice.ensures.value ∙ c.in_ok-came.ensures x) c.in_ok-note_for_all.ensures
    (notes_all change u sets c.note_for_all.new.pending c.loop-group.pending
    (subst (λ n. NotesBefore change u n sets c.note_for_all.new.pending c.loop-group.pending) (omega arith) c.loop-group.invariant))
