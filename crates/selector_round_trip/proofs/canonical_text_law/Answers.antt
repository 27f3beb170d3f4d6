use Rattle.selector_round_trip.proofs.Law.{read_back}
use Rattle.selector_round_trip.proofs.canonical_text_law.Goals as goal

pub returns : goal.returns
returns c = read_back c.args.text.now
