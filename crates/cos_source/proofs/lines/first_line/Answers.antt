use Rattle.cos_source.proofs.LineEnds.{first_line_found, one_line_left}
use Rattle.cos_source.proofs.lines.first_line.Goals as goal

pub returns-in-Some-clause-lines : goal.returns-in-Some-clause-lines
returns-in-Some-clause-lines c =
    first_line_found c.args.source.now c.drop_cr.result.now c.in-Some.end c.in-Some.ensures.0.high c.in-Some.ensures.1 c.in-Some.ensures.0.before c.drop_cr.ensures

pub returns-in-None-clause-lines : goal.returns-in-None-clause-lines
returns-in-None-clause-lines c = one_line_left c.args.source.now c.requires c.in-None.ensures
