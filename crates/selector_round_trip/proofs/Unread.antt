-- Texts that are read, and whose canonical text isn't: the brackets of a pattern and of a literal in one `:matches-attr` are
-- each other's partners, and in the canonical text those of the literal count no more.
use Rattle.std.specs.Prelude.{◌≡◌, List, [], ◌∷◌, codes, Some, Result, Ok, Err, refl}
use Rattle.selector_tree.specs.declared.selector.Arg.TheVariants.{Literal, Pattern}
use Rattle.selector_tree.specs.declared.selector.Test.TheVariants as test
use Rattle.selector_tree.specs.declared.selector.Step.{Step}
use Rattle.selector_tree.specs.declared.selector.Step.TheVariants as step
use Rattle.selector_tree.specs.declared.filter.Action.{Action}
use Rattle.selector_tree.specs.declared.filter.Action.TheVariants.{Hide}
use Rattle.selector_tree.specs.Canonical.{canonical_text}
use Rattle.selector_tree.proofs.TextLaws.{text_of_step-Keep, text_of_test-MatchesAttr}
use Rattle.selector_spelling.specs.declared.finding.Cause.TheVariants as cause
use Rattle.selector_spelling.specs.declared.finding.Finding.{Finding}
use Rattle.selector_spelling.specs.declared.finding.Finding.TheVariants.{Malformed}
use Rattle.selector_spelling.specs.declared.reading.Chains.{Chains}
use Rattle.selector_spelling.specs.Bytes.{Bytes}
use Rattle.selector_spelling.specs.Texts.{found, action_of, read_text}

abbrev Filter : Type 0
Filter = Result (List (List Step) × Action) Finding

abbrev filter : Result Chains Finding → Filter
filter (Ok l) = Ok (l.chains, action_of l.notes.removes)
filter (Err f) = Err f

abbrev reads : Bytes → Filter
reads text = filter (read_text (λ body flags. found) text)

one : reads (codes ":matches-attr(a(=/[)]/)") ≡ Ok ((step.Keep (test.MatchesAttr (Literal (codes "a(")) (Some (Pattern (codes "[)]") 0 0))) ∷ []) ∷ [], Hide)
one = refl

one_canonical : canonical_text ((step.Keep (test.MatchesAttr (Literal (codes "a(")) (Some (Pattern (codes "[)]") 0 0))) ∷ []) ∷ []) Hide ≡ codes ":matches-attr(\"a\\(\"=/[)]/)"
one_canonical = rw (text_of_step-Keep, text_of_test-MatchesAttr)

one_again : reads (codes ":matches-attr(\"a\\(\"=/[)]/)") ≡ Err (Malformed cause.Unbalanced 23)
one_again = refl

two : reads (codes ":matches-attr(/[(]/=b))") ≡ Ok ((step.Keep (test.MatchesAttr (Pattern (codes "[(]") 0 0) (Some (Literal (codes "b)")))) ∷ []) ∷ [], Hide)
two = refl

two_canonical : canonical_text ((step.Keep (test.MatchesAttr (Pattern (codes "[(]") 0 0) (Some (Literal (codes "b)")))) ∷ []) ∷ []) Hide ≡ codes ":matches-attr(/[(]/=\"b\\)\")"
two_canonical = rw (text_of_step-Keep, text_of_test-MatchesAttr)

two_again : reads (codes ":matches-attr(/[(]/=\"b\\)\")") ≡ Err (Malformed cause.Unbalanced 13)
two_again = refl
