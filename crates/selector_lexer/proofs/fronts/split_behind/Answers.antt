use Rattle.selector_lexer.proofs.Boundaries.{behind_ascii}
use Rattle.selector_lexer.proofs.fronts.split_behind.Goals as goal

pub split_at-requires : goal.split_at-requires
split_at-requires c = behind_ascii c.args.text.now c.args.n c.utf8.text c.requires.most c.requires.last
