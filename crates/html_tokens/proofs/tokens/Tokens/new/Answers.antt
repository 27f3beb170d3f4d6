use Rattle.html_meaning.proofs.Covers.{covers}
use Rattle.html_tokens.proofs.tokens.Tokens.new.Goals as goal

pub returns-clause-cover : goal.returns-clause-cover
returns-clause-cover c = covers c.args.source.now
