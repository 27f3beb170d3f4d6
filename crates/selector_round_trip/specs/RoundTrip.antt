-- The law of the canonical text: where a text is read as a selector and an action, its canonical text is read as the same.
use Rattle.std.specs.Prelude.{◌≡◌, ℕ, true, List, map, Ok}
use Rattle.selector_tree.specs.declared.selector.Step.{Step}
use Rattle.selector_tree.specs.Canonical.{canonical_text}
use Rattle.selector_tree.specs.Unnumbered.{unnumbered}
use Rattle.selector_spelling.specs.declared.reading.Ask.{Ask}
use Rattle.selector_spelling.specs.declared.reading.Chains.{Chains}
use Rattle.selector_spelling.specs.Bytes.{Bytes}
use Rattle.selector_spelling.specs.Texts.{Answer, action_of, read_text}
use Rattle.selector_round_trip.specs.Balanced.{are_balanced}

-- a pattern that is asked for, wherever its piece stands
pub record Asked : Type 0 where
  pub body : Bytes
  pub flags : ℕ

abbrev pub asked : List Ask → List Asked
asked asks = map (λ ask. record { body = ask.body; flags = ask.flags }) asks

-- the text is read as the same selector with the same action, and the same patterns are asked for in the same order
pub record IsReadAs (answer : Bytes → ℕ → Answer) (text : Bytes) (l : Chains) : Type 0 where
  pub read : Chains
  pub is : read_text answer text ≡ Ok read
  pub chains : read.chains ≡ l.chains
  pub removes : read.notes.removes ≡ l.notes.removes
  pub operates : read.notes.operates ≡ l.notes.operates
  pub asks : asked read.notes.asks ≡ asked l.notes.asks

-- the canonical text of what a text is read as
abbrev pub canonical_of : Chains → Bytes
canonical_of l = canonical_text l.chains (action_of l.notes.removes)

-- Where the text is read, its canonical text is read as the same. What a text is read as has 0 for the number of each pattern;
-- the numbers that a table gives have no part in the canonical text.
abbrev pub IsReadBack : Bytes → Type 0
IsReadBack text =
    (answer : Bytes → ℕ → Answer) (l : Chains) → read_text answer text ≡ Ok l → are_balanced l.chains ≡ true → (selector : List (List Step)) → unnumbered selector ≡ l.chains
    → IsReadAs answer (canonical_text selector (action_of l.notes.removes)) l

-- two texts are read as the same selector with the same action where what they are read as has the same canonical text
abbrev pub AreTold : Bytes → Bytes → Type 0
AreTold first second =
    (answer : Bytes → ℕ → Answer) (l m : Chains) → read_text answer first ≡ Ok l → read_text answer second ≡ Ok m → are_balanced l.chains ≡ true → are_balanced m.chains ≡ true
    → canonical_of l ≡ canonical_of m → (l.chains ≡ m.chains) × (l.notes.removes ≡ m.notes.removes)
