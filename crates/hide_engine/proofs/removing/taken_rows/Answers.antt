use Rattle.std.proofs.Common.{sym, ◌∙◌}
use Rattle.hide_engine.specs.Ready.{state_of}
use Rattle.hide_engine.proofs.Taking.{none_taken, none_removes}
use Rattle.hide_engine.proofs.removing.taken_rows.Goals as goal

pub returns-then-not-filters : goal.returns-then-not-filters
returns-then-not-filters c =
    c.new.ensures ∙ sym (none_removes (state_of c.args.page.now c.args.filters.now) (sym c.requires.ready.removing ∙ c.if-not-filters.true))

pub returns-then-acting_rows-eq0 : goal.returns-then-acting_rows-eq0
returns-then-acting_rows-eq0 c =
    c.new-then-acting_rows-eq0.ensures
    ∙ sym (none_taken (state_of c.args.page.now c.args.filters.now) c.args.marks.now c.is_tree.ensures c.requires.exact c.acting_rows.ensures.once (sym c.acting_rows.ensures.count ∙ c.if-acting_rows-eq0.true))
