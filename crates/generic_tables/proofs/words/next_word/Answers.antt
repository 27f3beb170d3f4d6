use Rattle.generic_tables.proofs.WordCuts.{no_words, cut, shorter, boundary}
use Rattle.generic_tables.proofs.words.next_word.Goals as goal

pub returns-then-is_empty-clause-words : goal.returns-then-is_empty-clause-words
returns-then-is_empty-clause-words c =
    no_words c.args.text.now c.trim_ascii_start-text.result.now c.trim_ascii_start-text.ensures.value c.if-is_empty.ensures

pub returns-then-is_empty-clause-shorter : goal.returns-then-is_empty-clause-shorter
returns-then-is_empty-clause-shorter c =
    no_words c.args.text.now c.trim_ascii_start-text.result.now c.trim_ascii_start-text.ensures.value c.if-is_empty.ensures

pub split_at-requires : goal.split_at-requires
split_at-requires c = boundary c.trim_ascii_start-text.result.now c.word_length.result c.word_length.ensures

pub returns-clause-words : goal.returns-clause-words
returns-clause-words c =
    cut c.args.text.now c.trim_ascii_start-text.result.now c.split_at.result.0.now c.split_at.result.1.now c.word_length.result
    c.trim_ascii_start-text.ensures.value c.if-is_empty.ensures c.word_length.ensures c.split_at.ensures.front c.split_at.ensures.back

pub returns-clause-shorter : goal.returns-clause-shorter
returns-clause-shorter c =
    shorter c.args.text.now c.trim_ascii_start-text.result.now c.split_at.result.1.now c.word_length.result
    c.trim_ascii_start-text.ensures.value c.if-is_empty.ensures c.word_length.ensures c.split_at.ensures.back_len
