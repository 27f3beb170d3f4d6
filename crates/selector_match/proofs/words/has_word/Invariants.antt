use Rattle.std.proofs.Common.{◌≡◌, length}
use Rattle.std.specs.List.{list_any}
use Rattle.std.specs.Str.{bytes_eq}
use Rattle.page_tree.specs.Words.{words}
use Rattle.selector_meaning.specs.Texts.{spelled}
use Rattle.selector_match.proofs.words.has_word.Given as goal

abbrev pub invariant-words : goal.invariant-words
invariant-words l =
    list_any (λ piece. bytes_eq (spelled l.ignore_case piece) (spelled l.ignore_case l.word)) (words l.rest)
    ≡ list_any (λ piece. bytes_eq (spelled l.ignore_case piece) (spelled l.ignore_case l.word)) (words l.value)

abbrev pub decreases-words : goal.decreases-words
decreases-words l = length l.rest
