use Rattle.cos_source.proofs.LinesMake.{lines_made}
use Rattle.cos_source.proofs.lines.Lines.new.Goals as goal

pub returns-clause-whole : goal.returns-clause-whole
returns-clause-whole c = lines_made c.args.source.now
