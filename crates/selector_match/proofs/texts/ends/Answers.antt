use Rattle.selector_match.proofs.Values.{ends_by}
use Rattle.selector_match.proofs.texts.ends.Goals as goal

pub returns : goal.returns
returns c = ends_by c.args.ignore_case c.args.value.now c.args.wanted.now c.is_same.result c.is_same.ensures
