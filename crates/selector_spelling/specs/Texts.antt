-- What a text is read as: the first finding by the stages, or a selector with its action.
use Rattle.std.specs.Prelude.{ℕ, zero, suc, Bool, true, false, not, ◌==◌, List, [], ◌∷◌, Option, Some, None, Result, Ok, Err, if◌then◌else◌}
use Rattle.selector_tree.specs.declared.selector.Place.TheVariants.{Child, Descendant, Next, After}
use Rattle.selector_tree.specs.declared.selector.Place as tree
use Rattle.selector_tree.specs.declared.selector.Step.TheVariants as step
use Rattle.selector_tree.specs.declared.filter.Action.{Action}
use Rattle.selector_tree.specs.declared.filter.Action.TheVariants.{Hide, Remove}
use Rattle.selector_spelling.specs.declared.finding.Cause.{Cause}
use Rattle.selector_spelling.specs.declared.finding.Cause.TheVariants as cause
use Rattle.selector_spelling.specs.declared.finding.Finding.{Finding}
use Rattle.selector_spelling.specs.declared.finding.Finding.TheVariants.{Malformed}
use Rattle.selector_spelling.specs.declared.reading.Ask.{Ask}
use Rattle.selector_spelling.specs.declared.reading.Reading.{Reading}
use Rattle.selector_spelling.specs.declared.reading.Chains.{Chains}
use Rattle.selector_spelling.specs.Bytes.{Bytes, is_empty, plus, greater, tilde}
use Rattle.selector_spelling.specs.Scan.{bare, unbalanced, too_nested}
use Rattle.selector_spelling.specs.Cuts.{Part, parts, is_comma, Item, combinator, compound, missing, items_of}
use Rattle.selector_spelling.specs.Pieces.{◌>>=◌, no_notes, notes_joined, nothing, one, both, bad, pieces}

abbrev pub place_of : ℕ → tree.Place
place_of b = if b == greater then Child else if b == plus then Next else if b == tilde then After else Descendant

-- ---- pieces in text order

module _ (inner : Bool → ℕ → Bytes → Result Chains Finding) (nested several : Bool) where
  -- `last` says that nothing follows in the chain
  abbrev pub item : Bool → Item → Result Reading Finding
  item last (combinator b) = Ok (one (step.Move (place_of b)))
  item last (missing at) = bad cause.EmptyPart at
  item last (compound at text) = pieces inner (record { nested = nested; several = several; last = last }) true at 0 text

  abbrev pub chain : List Item → Result Reading Finding
  chain [] = Ok nothing
  chain (i ∷ items) = item (is_empty items) i >>= λ r. chain items >>= λ others. Ok (both r others)

abbrev pub chains_then : Reading → Chains → Chains
chains_then r others = record { chains = r.steps ∷ others.chains; notes = notes_joined r.notes others.notes }

module _ (inner : Bool → ℕ → Bytes → Result Chains Finding) (nested several in_has : Bool) where
  abbrev pub chains : List Part → Result Chains Finding
  chains [] = Ok (record { chains = []; notes = no_notes })
  chains (part ∷ others) = chain inner nested several (items_of in_has part) >>= λ r. chains others >>= λ l. Ok (chains_then r l)

abbrev pub are_several : List Part → Bool
are_several [] = false
are_several (part ∷ others) = not (is_empty others)

-- a text or an argument that is cut at its bare commas, with `inner` for the arguments in it
abbrev pub selector : (Bool → ℕ → Bytes → Result Chains Finding) → Bool → Bool → ℕ → Bytes → Result Chains Finding
selector inner nested in_has at text =
    let cut = parts is_comma at text in
    chains inner nested (are_several cut) in_has cut

-- The argument at a level with so many levels left, itself included. None is left only behind the finding of depth.
abbrev pub argument : ℕ → Bool → ℕ → Bytes → Result Chains Finding
argument zero in_has at text = bad cause.TooNested at
argument (suc levels) in_has at text = selector (argument levels) true in_has at text

abbrev pub selector_of : Bytes → Result Chains Finding
selector_of text = selector (argument 16) false false 0 text

-- ---- all stages

-- what is said of a pattern: it is found in the table of patterns, it isn't read, or it is refused for its size
pub data Answer : Type 0 where
  found : Answer
  bad_pattern : Answer
  pattern_too_large : Answer

abbrev pub by_answer : Answer → ℕ → Option Finding → Option Finding
by_answer found at others = others
by_answer bad_pattern at others = Some (Malformed cause.BadPattern at)
by_answer pattern_too_large at others = Some (Malformed cause.PatternTooLarge at)

abbrev pub unless : {A : Type 0} → Option Finding → Result A Finding → Result A Finding
unless None read = read
unless (Some f) read = Err f

abbrev pub malformed_at : {A : Type 0} → Cause → Option ℕ → Result A Finding → Result A Finding
malformed_at c None read = read
malformed_at c (Some at) read = Err (Malformed c at)

abbrev pub action_of : Bool → Action
action_of removes = if removes then Remove else Hide

-- what is said of each pattern, by its body and its flags
module _ (answer : Bytes → ℕ → Answer) where
  -- the first pattern that isn't found
  abbrev pub first_refused : List Ask → Option Finding
  first_refused [] = None
  first_refused (ask ∷ asks) = by_answer (answer ask.body ask.flags) ask.at (first_refused asks)

  -- what the text is read as
  abbrev pub read_text : Bytes → Result Chains Finding
  read_text text =
      malformed_at cause.Unbalanced (unbalanced bare 0 0 text)
      (malformed_at cause.TooNested (too_nested bare 0 text)
      (selector_of text >>= λ l. unless (first_refused l.notes.asks) (Ok l)))
