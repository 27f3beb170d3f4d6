-- Readings one after the other.
use Rattle.std.proofs.Common.{◌≡◌, Bool, ◌&&◌, List, [], ◌∷◌, ◌++◌, Result, Ok, Err, refl, sym, ap, ◌∙◌}
use Rattle.std.proofs.lemmas.List.{append-nil, append_assoc}
use Rattle.selector_tree.specs.declared.selector.Step.{Step}
use Rattle.selector_spelling.specs.declared.finding.Finding.{Finding}
use Rattle.selector_spelling.specs.declared.reading.Notes.{Notes}
use Rattle.selector_spelling.specs.declared.reading.Reading.{Reading}
use Rattle.selector_spelling.specs.declared.reading.Setting.{Setting}
use Rattle.selector_spelling.specs.Bytes.{is_empty}
use Rattle.selector_spelling.specs.Cuts.{Item}
use Rattle.selector_spelling.specs.Pieces.{◌>>=◌, notes_joined, nothing, both}
use Rattle.selector_spelling.specs.Texts.{item, chain}
use Rattle.selector_lexer.specs.declared.stop.Stop.{Stop}
use Rattle.selector_lexer.specs.declared.stop.Stop.TheVariants as stop
use Rattle.selector_lexer.specs.Stops.{Fails}
use Rattle.spelling_reader.specs.Readings.{Inner, Reads}
use Rattle.spelling_reader.specs.Chains.{items_read}
use Rattle.spelling_reader.proofs.ReadsLaws.{notes-nothing, notes-assoc}

abbrev pub reading_of : List Step → Notes → Reading
reading_of steps notes = record { steps = steps; notes = notes }

pub both-assoc : (a b c : Reading) → both (both a b) c ≡ both a (both b c)
both-assoc a b c =
    ap (λ (s : List Step). reading_of s (notes_joined (notes_joined a.notes b.notes) c.notes)) (append_assoc a.steps b.steps c.steps)
    ∙ ap (reading_of (a.steps ++ (b.steps ++ c.steps))) (notes-assoc a.notes b.notes c.notes)

-- one reading behind another
abbrev pub then_read : Result Reading Finding → Result Reading Finding → Result Reading Finding
then_read a b = a >>= λ r. b >>= λ others. Ok (both r others)

pub then-nothing : (a : Result Reading Finding) → then_read (Ok nothing) a ≡ a
then-nothing (Ok r) = refl
then-nothing (Err f) = refl

pub then-assoc : (a b c : Result Reading Finding) → then_read (then_read a b) c ≡ then_read a (then_read b c)
then-assoc (Err f) b c = refl
then-assoc (Ok r) (Err f) c = refl
then-assoc (Ok r) (Ok s) (Err f) = refl
then-assoc (Ok r) (Ok s) (Ok t) = ap (λ (x : Reading). Ok x) (both-assoc r s t)

-- what was read, and what is still to be read of the whole
pub record SoFar (steps steps' : List Step) (notes notes' : Notes) (rest whole : Result Reading Finding) : Type 0 where
  pub reading : Reading
  pub steps_are : steps' ≡ steps ++ reading.steps
  pub notes_are : notes' ≡ notes_joined notes reading.notes
  pub whole_is : whole ≡ then_read (Ok reading) rest

pub so_far_start : (steps : List Step) (notes : Notes) (whole : Result Reading Finding) → SoFar steps steps notes notes whole whole
so_far_start steps notes whole = record { reading = nothing; steps_are = sym (append-nil steps); notes_are = sym (notes-nothing notes); whole_is = sym (then-nothing whole) }

pub so_far_more : (s0 s s' : List Step) (n0 n n' : Notes) (part rest rest' whole : Result Reading Finding) → SoFar s0 s n0 n rest whole → Reads s s' n n' part → rest ≡ then_read part rest' → SoFar s0 s' n0 n' rest' whole
so_far_more s0 s s' n0 n n' part rest rest' whole f r e =
    record {
      reading = both f.reading r.reading;
      steps_are = r.steps_are ∙ ap (λ (v : List Step). v ++ r.reading.steps) f.steps_are ∙ append_assoc s0 f.reading.steps r.reading.steps;
      notes_are = r.notes_are ∙ ap (λ (v : Notes). notes_joined v r.reading.notes) f.notes_are ∙ notes-assoc n0 f.reading.notes r.reading.notes;
      whole_is = f.whole_is ∙ ap (then_read (Ok f.reading)) (e ∙ ap (λ (v : Result Reading Finding). then_read v rest') r.is) ∙ sym (then-assoc (Ok f.reading) (Ok r.reading) rest');
    }

pub fails-first : (s : Stop) (part rest : Result Reading Finding) → Fails s part → Fails s (then_read part rest)
fails-first stop.NoMemory part rest h = tt
fails-first (stop.Found f) part rest h = ap (λ (v : Result Reading Finding). then_read v rest) h

pub fails-along : (s : Stop) (a b : Result Reading Finding) → a ≡ b → Fails s b → Fails s a
fails-along stop.NoMemory a b e h = tt
fails-along (stop.Found f) a b e h = e ∙ h

fails-second : (s : Stop) (r : Reading) (rest : Result Reading Finding) → Fails s rest → Fails s (then_read (Ok r) rest)
fails-second stop.NoMemory r rest h = tt
fails-second (stop.Found f) r rest h = ap (λ (v : Result Reading Finding). then_read (Ok r) v) h

pub so_far_fails : (s0 s : List Step) (n0 n : Notes) (part rest rest' whole : Result Reading Finding) (e : Stop) → SoFar s0 s n0 n rest whole → rest ≡ then_read part rest' → Fails e part → Fails e whole
so_far_fails s0 s n0 n part rest rest' whole e f same h =
    fails-along e whole (then_read (Ok f.reading) rest) f.whole_is (fails-second e f.reading rest (fails-along e rest (then_read part rest') same (fails-first e part rest' h)))

-- the rest is all there is
pub so_far_last : (s0 s s' : List Step) (n0 n n' : Notes) (rest whole : Result Reading Finding) → SoFar s0 s n0 n rest whole → Reads s s' n n' rest → Reads s0 s' n0 n' whole
so_far_last s0 s s' n0 n n' rest whole f r =
    record {
      reading = both f.reading r.reading;
      is = f.whole_is ∙ ap (then_read (Ok f.reading)) r.is;
      steps_are = r.steps_are ∙ ap (λ (v : List Step). v ++ r.reading.steps) f.steps_are ∙ append_assoc s0 f.reading.steps r.reading.steps;
      notes_are = r.notes_are ∙ ap (λ (v : Notes). notes_joined v r.reading.notes) f.notes_are ∙ notes-assoc n0 f.reading.notes r.reading.notes;
    }

pub so_far_last_fails : (s0 s : List Step) (n0 n : Notes) (rest whole : Result Reading Finding) (e : Stop) → SoFar s0 s n0 n rest whole → Fails e rest → Fails e whole
so_far_last_fails s0 s n0 n rest whole e f h = fails-along e whole (then_read (Ok f.reading) rest) f.whole_is (fails-second e f.reading rest h)

reads-nothing : (s : List Step) (n : Notes) (rest : Result Reading Finding) → rest ≡ Ok nothing → Reads s s n n rest
reads-nothing s n rest e = record { reading = nothing; is = e; steps_are = sym (append-nil s); notes_are = sym (notes-nothing n) }

-- nothing is left
pub so_far_end : (s0 s : List Step) (n0 n : Notes) (rest whole : Result Reading Finding) → SoFar s0 s n0 n rest whole → rest ≡ Ok nothing → Reads s0 s n0 n whole
so_far_end s0 s n0 n rest whole f e = so_far_last s0 s s n0 n n rest whole f (reads-nothing s n rest e)

-- ---- chains by their fronts

is_empty-append : {A : Type 0} (xs ys : List A) → is_empty (xs ++ ys) ≡ (is_empty xs && is_empty ys)
is_empty-append [] ys = refl
is_empty-append (x ∷ xs) ys = refl

pub chain-append : (inner : Inner) (nested several : Bool) (xs ys : List Item)
    → chain inner nested several (xs ++ ys) ≡ then_read (items_read inner (record { nested = nested; several = several; last = is_empty ys }) xs) (chain inner nested several ys)
chain-append inner nested several [] ys = sym (then-nothing (chain inner nested several ys))
chain-append inner nested several (x ∷ xs) ys =
    let setting : Setting = record { nested = nested; several = several; last = is_empty ys } in
    let rest = chain inner nested several ys in
    ap (λ (b : Bool). then_read (item inner nested several b x) (chain inner nested several (xs ++ ys))) (is_empty-append xs ys)
    ∙ ap (then_read (item inner nested several (is_empty xs && is_empty ys) x)) (chain-append inner nested several xs ys)
    ∙ sym (then-assoc (item inner nested several (is_empty xs && is_empty ys) x) (items_read inner setting xs) rest)
