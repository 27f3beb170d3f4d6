-- Readings of one step.
use Rattle.std.proofs.Common.{◌≡◌, Bool, true, false, ◌||◌, List, [], ◌∷◌, ◌++◌, Result, Ok, refl, sym, ap, ◌∙◌}
use Rattle.std.proofs.lemmas.List.{append-nil, append_assoc}
use Rattle.selector_tree.specs.declared.selector.Step.{Step}
use Rattle.selector_spelling.specs.declared.finding.Finding.{Finding}
use Rattle.selector_spelling.specs.declared.reading.Ask.{Ask}
use Rattle.selector_spelling.specs.declared.reading.Notes.{Notes}
use Rattle.selector_spelling.specs.declared.reading.Reading.{Reading}
use Rattle.selector_spelling.specs.Pieces.{no_notes, notes_joined, one}
use Rattle.spelling_reader.specs.Readings.{Reads}

or-false : (b : Bool) → (b || false) ≡ b
or-false true = refl
or-false false = refl

or-assoc : (a b c : Bool) → ((a || b) || c) ≡ (a || (b || c))
or-assoc true b c = refl
or-assoc false b c = refl

abbrev notes_of : List Ask → Bool → Bool → Notes
notes_of asks removes operates = record { asks = asks; removes = removes; operates = operates }

-- notes with other fields are equal where these are
pub notes-same : (a a' : List Ask) (r r' o o' : Bool) → a ≡ a' → r ≡ r' → o ≡ o' → notes_of a r o ≡ notes_of a' r' o'
notes-same a a' r r' o o' e f g = ap (λ (x : List Ask). notes_of x r o) e ∙ ap (λ (x : Bool). notes_of a' x o) f ∙ ap (λ (x : Bool). notes_of a' r' x) g

pub notes-nothing : (n : Notes) → notes_joined n no_notes ≡ n
notes-nothing n = notes-same (n.asks ++ []) n.asks (n.removes || false) n.removes (n.operates || false) n.operates (append-nil n.asks) (or-false n.removes) (or-false n.operates)

pub notes-assoc : (a b c : Notes) → notes_joined (notes_joined a b) c ≡ notes_joined a (notes_joined b c)
notes-assoc a b c =
    notes-same ((a.asks ++ b.asks) ++ c.asks) (a.asks ++ (b.asks ++ c.asks)) ((a.removes || b.removes) || c.removes) (a.removes || (b.removes || c.removes))
    ((a.operates || b.operates) || c.operates) (a.operates || (b.operates || c.operates)) (append_assoc a.asks b.asks c.asks) (or-assoc a.removes b.removes c.removes) (or-assoc a.operates b.operates c.operates)

-- a step that says nothing else
pub reads_one : (steps steps' : List Step) (notes notes' : Notes) (s : Step) (given : Result Reading Finding) → given ≡ Ok (one s) → steps' ≡ steps ++ s ∷ [] → notes' ≡ notes → Reads steps steps' notes notes' given
reads_one steps steps' notes notes' s given e f g = record { reading = one s; is = e; steps_are = f; notes_are = g ∙ sym (notes-nothing notes) }
