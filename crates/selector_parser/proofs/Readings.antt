-- What a text that is read gives: its patterns with flags below 8, and a selector that is proper once it has its numbers.
use Rattle.std.proofs.Common.{◌≡◌, ℕ, ◌<◌, true, false, ◌&&◌, List, [], ◌∷◌, map, All, length, Result, Ok, arith, sym, subst, ap₂, refl, ◌∙◌}
use Rattle.std.specs.List.{list_all}
use Rattle.std.proofs.lemmas.List.Elements.{All-nil, All-cons, All-head, All-tail}
use Rattle.std.proofs.lemmas.List.Folds.{list_all-map}
use Rattle.cos_patterns.specs.declared.written.Written.{Written}
use Rattle.cos_patterns.specs.Written.{written, is_in}
use Rattle.selector_tree.specs.declared.selector.Step.{Step}
use Rattle.selector_tree.specs.Unnumbered.{unnumbered}
use Rattle.proper_filters.specs.Proper.{is_own, are_own, is_proper}
use Rattle.proper_filters.specs.Degrees.{have_degrees}
use Rattle.selector_spelling.specs.declared.finding.Finding.{Finding}
use Rattle.selector_spelling.specs.declared.reading.Ask.{Ask}
use Rattle.selector_spelling.specs.declared.reading.Chains.{Chains}
use Rattle.selector_spelling.specs.Bytes.{Bytes}
use Rattle.selector_spelling.specs.Texts.{selector_of}
use Rattle.selector_parser.specs.Numbered.{numbered}
use Rattle.selector_parser.proofs.Args.{AreLow, AreIn}
use Rattle.selector_parser.proofs.Walk.{By, IsChains, pieces_of}

read_chains : (patterns : List Written) (text : Bytes) (l : Chains) → selector_of text ≡ Ok l → IsChains patterns (length text) false l
read_chains patterns text l is =
    subst (λ (r : Result Chains Finding). By patterns (length text) (IsChains patterns (length text) false) r) is (pieces_of patterns (length text) text (omega arith))

all_low : (limit : ℕ) (asks : List Ask) → AreLow limit asks → All (λ ask. ask.flags < 8) asks
all_low limit [] h = All-nil (λ (ask : Ask). ask.flags < 8)
all_low limit (a ∷ asks) h = All-cons (λ (ask : Ask). ask.flags < 8) a asks h.0 (all_low limit asks h.2)

all_in : (patterns : List Written) (asks : List Ask) → All (λ ask. is_in (written ask.body ask.flags) patterns ≡ true) asks → AreIn patterns asks
all_in patterns [] h = tt
all_in patterns (a ∷ asks) h =
    let P = λ (ask : Ask). is_in (written ask.body ask.flags) patterns ≡ true in
    (All-head P a asks h, all_in patterns asks (All-tail P a asks h))

proper_from : (patterns : List Written) (l : List (List Step)) → list_all (list_all (λ b. b)) (map (map (is_own patterns)) l) ≡ is_proper patterns l
unfolding is_proper are_own
proper_from patterns [] = refl
proper_from patterns (steps ∷ l) = ap₂ ◌&&◌ (list_all-map (λ b. b) (is_own patterns) steps) (proper_from patterns l)

-- the flags of a pattern are a sum of 1, 2 and 4
pub read_flags : (text : Bytes) (l : Chains) → selector_of text ≡ Ok l → All (λ ask. ask.flags < 8) l.notes.asks
read_flags text l is = all_low (length text) l.notes.asks (read_chains [] text l is).low

-- without its numbers the selector is what was read
pub read_unnumbered : (patterns : List Written) (text : Bytes) (l : Chains) → selector_of text ≡ Ok l → unnumbered (numbered patterns l.chains) ≡ l.chains
read_unnumbered patterns text l is = (read_chains patterns text l is).bare

-- where each pattern that is asked stands in the table, the selector may be asked
pub read_proper : (patterns : List Written) (text : Bytes) (l : Chains) → selector_of text ≡ Ok l
    → All (λ ask. is_in (written ask.body ask.flags) patterns ≡ true) l.notes.asks → is_proper patterns (numbered patterns l.chains) ≡ true
read_proper patterns text l is asked =
    sym (proper_from patterns (numbered patterns l.chains)) ∙ (read_chains patterns text l is).held (all_in patterns l.notes.asks asked)

-- where no pattern is asked for, numbers change nothing
pub read_unasked : (patterns : List Written) (text : Bytes) (l : Chains) → selector_of text ≡ Ok l → l.notes.asks ≡ [] → numbered patterns l.chains ≡ l.chains
read_unasked patterns text l is none = (read_chains patterns text l is).unasked none

-- each `:upward(n)` leads at least one element up
pub read_degrees : (patterns : List Written) (text : Bytes) (l : Chains) → selector_of text ≡ Ok l → have_degrees (numbered patterns l.chains) ≡ true
unfolding have_degrees
read_degrees patterns text l is = (read_chains patterns text l is).degrees

-- numbers are given once
pub numbered_again : (patterns : List Written) (text : Bytes) (l : Chains) → selector_of text ≡ Ok l → numbered patterns (numbered patterns l.chains) ≡ numbered patterns l.chains
numbered_again patterns text l is = (read_chains patterns text l is).again
