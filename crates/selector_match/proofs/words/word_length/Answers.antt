use Rattle.selector_match.proofs.WordLaws.{no_space}
use Rattle.selector_match.proofs.words.word_length.Goals as goal

pub returns-in-None-clause-length : goal.returns-in-None-clause-length
returns-in-None-clause-length c = no_space c.args.text.now c.in-None.ensures
