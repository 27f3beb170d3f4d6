use Rattle.std.proofs.Common.{arith}
use Rattle.std.proofs.lemmas.Str.Pattern.{strip_suffix_char}
use Rattle.address_patterns.proofs.LastByte.{no_end, whole}
use Rattle.address_patterns.proofs.pattern.split_end.Goals as goal

pub returns-in-None-clause-end : goal.returns-in-None-clause-end
returns-in-None-clause-end c =
    no_end c.args.text.now (rw c.in-None.is at (strip_suffix_char 124 c.args.text.now c.strip_suffix.result c.strip_suffix.ensures.cases (omega arith)))

pub returns-in-None-clause-before : goal.returns-in-None-clause-before
returns-in-None-clause-before c =
    whole c.args.text.now (rw c.in-None.is at (strip_suffix_char 124 c.args.text.now c.strip_suffix.result c.strip_suffix.ensures.cases (omega arith)))
