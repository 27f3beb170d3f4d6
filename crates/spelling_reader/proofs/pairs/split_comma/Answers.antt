use Rattle.std.proofs.Common.{sym, length}
use Rattle.std.proofs.lemmas.Bool.{eqb-true}
use Rattle.spelling_reader.proofs.Watched.{last_part, first_part, some_left}
use Rattle.spelling_reader.proofs.pairs.split_comma.Goals as goal

pub returns-then-is_empty-clause-parts : goal.returns-then-is_empty-clause-parts
returns-then-is_empty-clause-parts c =
    let s = c.split_before in
    last_part c.args.text.now s.result.0.now s.result.1.now s.ensures.front s.ensures.back (eqb-true (length s.result.1.now) 0 (sym c.if-is_empty.ensures))

pub returns-clause-parts : goal.returns-clause-parts
returns-clause-parts c =
    let s = c.split_before in
    first_part c.args.text.now s.result.0.now s.result.1.now c.split_behind.result.1.now s.ensures.front s.ensures.back (some_left (length s.result.1.now) (sym c.if-is_empty.ensures)) c.split_behind.ensures.back
