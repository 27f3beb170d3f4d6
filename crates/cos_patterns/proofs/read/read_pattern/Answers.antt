use Rattle.cos_patterns.proofs.Readings.{unreadable_is}
use Rattle.cos_patterns.proofs.read.read_pattern.Goals as goal

pub returns-in-Syntax-clause-unreadable : goal.returns-in-Syntax-clause-unreadable
returns-in-Syntax-clause-unreadable c =
    let refused = rw (c.dot_matches_new_line.ensures, c.multi_line.ensures, c.case_insensitive.ensures, c.new.ensures.config, c.new.ensures.source)
    at (c.in-Err.ensures.by_grammar c.in-Syntax.field-0 c.in-Syntax.is) in
    let kind = rw c.in-Syntax.is at c.in-Err.ensures.kind in
    λ _. unreadable_is c.args.text.now c.args.flags c.in-Syntax.field-0.kind refused kind
