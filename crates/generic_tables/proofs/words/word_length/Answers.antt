use Rattle.std.proofs.Common.{◌∙◌, ap}
use Rattle.std.specs.List.{position}
use Rattle.std.specs.Char.{is_ascii_whitespace}
use Rattle.selector_match.proofs.WordLaws.{no_space}
use Rattle.generic_tables.proofs.words.word_length.Goals as goal

pub returns-in-None : goal.returns-in-None
returns-in-None c = no_space c.args.text.now (c.in-None.ensures ∙ ap (position is_ascii_whitespace) c.as_bytes.ensures.value)
