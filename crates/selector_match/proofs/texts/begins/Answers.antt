use Rattle.selector_match.proofs.Values.{begins_by}
use Rattle.selector_match.proofs.texts.begins.Goals as goal

pub returns : goal.returns
returns c = begins_by c.args.ignore_case c.args.value.now c.args.wanted.now c.is_same.result c.is_same.ensures
