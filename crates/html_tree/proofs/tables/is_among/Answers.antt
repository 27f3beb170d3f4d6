use Rattle.std.proofs.Common.{refl, sym, ◌∙◌}
use Rattle.std.proofs.lemmas.Bool.{false≢true}
use Rattle.std.specs.Str.{str_to_ascii_lowercase}
use Rattle.html_tree.proofs.Among.{among_found, among_other, among_none}
use Rattle.html_tree.proofs.tables.is_among.Goals as goal

pub loop-entry-preserved : goal.loop-entry-preserved
loop-entry-preserved c =
    among_other (str_to_ascii_lowercase c.args.name.now) c.args.table.now c.loop-entry.entry-index _ c.loop-entry-test.true (λ e. false≢true (c.if-eq_ignore_ascii_case.ensures.test.1 e))
    ∙ c.loop-entry.invariant

pub returns-then-eq_ignore_ascii_case : goal.returns-then-eq_ignore_ascii_case
returns-then-eq_ignore_ascii_case c =
    sym (sym c.loop-entry.invariant ∙ among_found (str_to_ascii_lowercase c.args.name.now) c.args.table.now c.loop-entry.entry-index _ c.loop-entry-test.true (c.if-eq_ignore_ascii_case.ensures.test.0 refl))

pub returns : goal.returns
returns c = sym (sym c.loop-entry.invariant ∙ among_none (str_to_ascii_lowercase c.args.name.now) c.args.table.now c.loop-entry.entry-index c.loop-entry-test.false)
