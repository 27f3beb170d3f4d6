use Rattle.selector_round_trip.proofs.Law.{told_apart}
use Rattle.selector_round_trip.proofs.same_text_law.Goals as goal

pub returns : goal.returns
returns c = told_apart c.args.first.now c.args.second.now
