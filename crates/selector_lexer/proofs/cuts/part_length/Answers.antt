use Rattle.std.proofs.Common.{sym, ◌∙◌}
use Rattle.selector_lexer.proofs.Firsts.{is-uncut}
use Rattle.selector_lexer.proofs.cuts.part_length.Goals as goal

pub returns-then-not-may_cut : goal.returns-then-not-may_cut
returns-then-not-may_cut c = is-uncut c.args.cut c.args.text.now (sym c.may_cut.ensures ∙ c.if-not-may_cut.true)
