use Rattle.selector_match.proofs.Border.{found_is}
use Rattle.selector_match.proofs.literals.stands_in.Goals as goal

pub returns : goal.returns
returns c = found_is c.args.bytes.now c.args.finder.now c.find.result c.is_some.result c.find.ensures c.is_some.ensures
