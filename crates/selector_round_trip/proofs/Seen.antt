-- What is said of a part of a text but for its places, and the text that steps have.
use Rattle.std.proofs.Common.{◌≡◌, Bool, true, false, ◌||◌, List, [], ◌∷◌, ◌++◌, map, codes, if◌then◌else◌, refl, sym, ap, ap₂, ◌∙◌, append_assoc, append-nil}
use Rattle.std.proofs.lemmas.List.{map-append}
use Rattle.selector_tree.specs.declared.selector.Place.{Place}
use Rattle.selector_tree.specs.declared.selector.Step.{Step}
use Rattle.selector_tree.specs.declared.selector.Step.TheVariants as step
use Rattle.selector_tree.specs.declared.selector.Test.{Test}
use Rattle.selector_tree.specs.Canonical.{StepText, chain_text, place_text, text_of_step, text_of_test}
use Rattle.selector_tree.proofs.TextLaws.{text_of_step-Keep, text_of_step-Move}
use Rattle.selector_spelling.specs.declared.reading.Ask.{Ask}
use Rattle.selector_spelling.specs.declared.reading.Notes.{Notes}
use Rattle.selector_spelling.specs.declared.reading.Reading.{Reading}
use Rattle.selector_spelling.specs.declared.reading.Chains.{Chains}
use Rattle.selector_spelling.specs.Bytes.{Bytes}
use Rattle.selector_round_trip.specs.RoundTrip.{Asked}
use Rattle.selector_spelling.specs.Pieces.{notes_joined, both}

abbrev pub asked_of : Ask → Asked
asked_of a = record { body = a.body; flags = a.flags }

abbrev pub asked : List Ask → List Asked
asked asks = map asked_of asks

-- what is said of a part of a text, without places
pub record Told : Type 0 where
  pub asks : List Asked
  pub removes : Bool
  pub operates : Bool

abbrev pub told : Notes → Told
told n = record { asks = asked n.asks; removes = n.removes; operates = n.operates }

abbrev pub told_joined : Told → Told → Told
told_joined a b = record { asks = a.asks ++ b.asks; removes = a.removes || b.removes; operates = a.operates || b.operates }

pub told-joined : (a b : Notes) → told (notes_joined a b) ≡ told_joined (told a) (told b)
told-joined a b = ap (λ (x : List Asked). record { asks = x; removes = a.removes || b.removes; operates = a.operates || b.operates }) (map-append asked_of a.asks b.asks)

pub record Seen : Type 0 where
  pub steps : List Step
  pub told : Told

abbrev pub seen : Reading → Seen
seen r = record { steps = r.steps; told = told r.notes }

abbrev pub seen_both : Seen → Seen → Seen
seen_both a b = record { steps = a.steps ++ b.steps; told = told_joined a.told b.told }

pub seen-both : (a b : Reading) → seen (both a b) ≡ seen_both (seen a) (seen b)
seen-both a b = ap (λ (t : Told). record { steps = a.steps ++ b.steps; told = t }) (told-joined a.notes b.notes)

pub both-same : (a b c d : Reading) → seen a ≡ seen c → seen b ≡ seen d → seen (both a b) ≡ seen (both c d)
both-same a b c d h g = seen-both a b ∙ ap₂ seen_both h g ∙ sym (seen-both c d)

pub record SeenChains : Type 0 where
  pub chains : List (List Step)
  pub told : Told

abbrev pub seen_chains : Chains → SeenChains
seen_chains l = record { chains = l.chains; told = told l.notes }

-- ---- texts of steps

abbrev pub steps_text : List Step → Bytes
steps_text steps = chain_text false (map text_of_step steps)

pub chain-append : (a b : List StepText) → chain_text false (a ++ b) ≡ chain_text false a ++ chain_text false b
chain-append [] b = refl
chain-append (s ∷ a) b = ap (λ (t : Bytes). s false ++ t) (chain-append a b) ∙ sym (append_assoc (s false) (chain_text false a) (chain_text false b))

pub steps-append : (a b : List Step) → steps_text (a ++ b) ≡ steps_text a ++ steps_text b
steps-append a b = ap (chain_text false) (map-append text_of_step a b) ∙ chain-append (map text_of_step a) (map text_of_step b)

pub keep_text : (t : Test) → steps_text (step.Keep t ∷ []) ≡ text_of_test t
keep_text t = ap (λ (s : StepText). s false ++ []) (text_of_step-Keep t) ∙ append-nil (text_of_test t)

pub move_text : (p : Place) → steps_text (step.Move p ∷ []) ≡ place_text p
move_text p = ap (λ (s : StepText). s false ++ []) (text_of_step-Move p) ∙ append-nil (place_text p)

-- the action stands last
abbrev pub removes_text : Bool → Bytes
removes_text removes = if removes then codes ":remove()" else []

abbrev pub reading_text : Reading → Bytes
reading_text r = steps_text r.steps ++ removes_text r.notes.removes

pub reading_keep : (r : Reading) → r.notes.removes ≡ false → reading_text r ≡ steps_text r.steps
reading_keep r h = ap (λ (c : Bool). steps_text r.steps ++ removes_text c) h ∙ append-nil (steps_text r.steps)

joined_text : (a b : Reading) (x y : Bool) → (x ≡ true → (b.steps ≡ []) × (y ≡ false)) → steps_text (a.steps ++ b.steps) ++ removes_text (x || y) ≡ (steps_text a.steps ++ removes_text x) ++ (steps_text b.steps ++ removes_text y)
joined_text a b true y h =
    let e = (h refl).0 in
    let f = (h refl).1 in
    ap (λ (s : List Step). steps_text (a.steps ++ s) ++ codes ":remove()") e ∙ ap (λ (s : List Step). steps_text s ++ codes ":remove()") (append-nil a.steps)
    ∙ sym (append-nil (steps_text a.steps ++ codes ":remove()"))
    ∙ ap₂ (λ (s : List Step) (z : Bool). (steps_text a.steps ++ codes ":remove()") ++ (steps_text s ++ removes_text z)) (sym e) (sym f)
joined_text a b false y h =
    ap (λ (t : Bytes). t ++ removes_text y) (steps-append a.steps b.steps) ∙ append_assoc (steps_text a.steps) (steps_text b.steps) (removes_text y)
    ∙ ap (λ (t : Bytes). t ++ (steps_text b.steps ++ removes_text y)) (sym (append-nil (steps_text a.steps)))

-- nothing stands behind the action
pub both_text : (a b : Reading) → (a.notes.removes ≡ true → (b.steps ≡ []) × (b.notes.removes ≡ false)) → reading_text (both a b) ≡ reading_text a ++ reading_text b
both_text a b h = joined_text a b a.notes.removes b.notes.removes h
