use Rattle.std.proofs.Common.{arith, ◌-◌, ◌≡◌, get_or, subst, true}
use Rattle.selector_spelling.specs.Bytes.{Bytes}
use Rattle.selector_lexer.specs.Fronts.{passes}
use Rattle.selector_lexer.proofs.Classes.{class-low}
use Rattle.selector_lexer.proofs.fronts.split_front.Goals as goal

pub split_behind-requires-clause-last : goal.split_behind-requires-clause-last
split_behind-requires-clause-last c = λ some.
    let n = c.front_length.result in
    class-low c.args.class (get_or c.args.text.now (n - 1) 0)
    (subst (λ (v : Bytes). passes c.args.class (get_or v (n - 1) 0) ≡ true) c.as_bytes.ensures.value (c.front_length.ensures.passing (n - 1) (omega arith)))
