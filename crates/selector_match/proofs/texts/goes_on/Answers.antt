use Rattle.std.proofs.Common.{refl, arith, length, get_or, ◌∙◌}
use Rattle.std.proofs.lemmas.Bool.{ne_eqb}
use Rattle.selector_match.proofs.Values.{goes_on_dash, goes_on_other}
use Rattle.selector_match.proofs.texts.goes_on.Goals as goal

pub returns-then-value-wanted-eq45 : goal.returns-then-value-wanted-eq45
returns-then-value-wanted-eq45 c =
    goes_on_dash c.args.ignore_case c.args.value.now c.args.wanted.now (get_or c.args.value.now (length c.args.wanted.now) 0) (omega arith) refl
    c.if-value-wanted-eq45.true c.begins.result c.begins.ensures

pub returns-else-value-wanted-eq45 : goal.returns-else-value-wanted-eq45
returns-else-value-wanted-eq45 c =
    ne_eqb (get_or c.args.value.now (length c.args.wanted.now) 0) 45 c.if-value-wanted-eq45.false
    ∙ goes_on_other c.args.ignore_case c.args.value.now c.args.wanted.now (get_or c.args.value.now (length c.args.wanted.now) 0) (omega arith) refl
    c.if-value-wanted-eq45.false
