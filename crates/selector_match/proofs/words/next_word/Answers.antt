use Rattle.std.proofs.Common.{◌≡◌, ◌∙◌, sym, true, false, length}
use Rattle.std.proofs.lemmas.Bool.{eq-eqb}
use Rattle.selector_match.proofs.WordLaws.{first_word_cut}
use Rattle.selector_match.proofs.words.next_word.Goals as goal

pub returns-clause-words : goal.returns-clause-words
returns-clause-words c =
    first_word_cut c.args.text.now c.skip_spaces-text.result.now c.word_length-end.result c.skip_spaces-text.ensures.words c.skip_spaces-text.ensures.word (λ e. let empty : true ≡ false = sym (eq-eqb (length c.skip_spaces-text.result.now) 0 e) ∙ sym c.is_empty.ensures ∙ c.if-is_empty.false in cc) c.word_length-end.ensures.length
