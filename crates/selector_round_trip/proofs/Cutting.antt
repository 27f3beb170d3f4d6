-- Cuts without their places.
use Rattle.std.proofs.Common.{◌≡◌, ℕ, ◌+◌, Bool, true, false, not, ◌&&◌, ◌||◌, List, [], ◌∷◌, ◌++◌, map, if◌then◌else◌, refl, sym, ap, ap₂, ◌∙◌, inl, inr}
use Rattle.std.proofs.lemmas.List.{map-append}
use Rattle.std.proofs.lemmas.Bool.{cases_Bool, and_parts, and_left, and_right, not-true, or_parts}
use Rattle.cos_source.specs.Spaces.{is_space}
use Rattle.selector_spelling.specs.Bytes.{Bytes, is_empty, is_blank}
use Rattle.selector_spelling.specs.Scan.{Scan, bare, is_bare, step}
use Rattle.selector_spelling.specs.Cuts.{Part, longer, parts_from, parts, is_comma, is_sign, Item, combinator, compound, missing, space, filled, behind_space, compounds, compounds_of, behind_signs, items, items_of_has, items_of}
use Rattle.selector_round_trip.proofs.Scanned.{over, is_cut, is_uncut, IsClosed}

pub record Cut : Type 0 where
  pub sign : ℕ
  pub text : Bytes

abbrev pub cut_of : Part → Cut
cut_of p = record { sign = p.sign; text = p.text }

abbrev pub with_byte : ℕ → ℕ → List Cut → List Cut
with_byte sign b [] = record { sign = sign; text = b ∷ [] } ∷ []
with_byte sign b (c ∷ cuts) = record { sign = sign; text = b ∷ c.text } ∷ cuts

abbrev pub cuts_from : (ℕ → Bool) → Scan → ℕ → Bytes → List Cut
cuts_from p s sign [] = record { sign = sign; text = [] } ∷ []
cuts_from p s sign (b ∷ text) =
    let cuts = is_bare s && p b in
    let others = cuts_from p (step s b text) (if cuts then b else sign) text in
    if cuts then record { sign = sign; text = [] } ∷ others else with_byte sign b others

longer-cuts : (sign place b : ℕ) (ps : List Part) → map cut_of (longer sign place b ps) ≡ with_byte sign b (map cut_of ps)
longer-cuts sign place b [] = refl
longer-cuts sign place b (p ∷ ps) = refl

cond_cuts : (c : Bool) (sign place b : ℕ) (xs ys : List Part) (us vs : List Cut) → map cut_of xs ≡ us → map cut_of ys ≡ vs
    → map cut_of (if c then record { sign = sign; at = place; text = [] } ∷ xs else longer sign place b ys) ≡ (if c then record { sign = sign; text = [] } ∷ us else with_byte sign b vs)
cond_cuts true sign place b xs ys us vs h g = ap (λ (t : List Cut). record { sign = sign; text = [] } ∷ t) h
cond_cuts false sign place b xs ys us vs h g = longer-cuts sign place b ys ∙ ap (with_byte sign b) g

pub parts-cuts : (p : ℕ → Bool) (s : Scan) (sign place : ℕ) (text : Bytes) → map cut_of (parts_from p s sign place text) ≡ cuts_from p s sign text
parts-cuts p s sign place [] = refl
parts-cuts p s sign place (b ∷ text) =
    let c = is_bare s && p b in
    let more = parts-cuts p (step s b text) (if c then b else sign) (place + 1) text in
    cond_cuts c sign place b _ _ _ _ more more

-- ---- items without places

pub data Shape : Type 0 where
  sign_shape : (b : ℕ) → Shape
  compound_shape : (text : Bytes) → Shape
  missing_shape : Shape

abbrev pub shape : Item → Shape
shape (combinator b) = sign_shape b
shape (compound place text) = compound_shape text
shape (missing place) = missing_shape

abbrev texts : List Cut → List Bytes
texts cuts = map (λ c. c.text) cuts

abbrev pub words : List Bytes → List Bytes
words [] = []
words (t ∷ ts) = if is_empty t then words ts else t ∷ words ts

abbrev pub spaced : List Bytes → List Shape
spaced [] = []
spaced (t ∷ ts) = sign_shape space ∷ compound_shape t ∷ spaced ts

abbrev pub compound_shapes : List Bytes → List Shape
compound_shapes [] = missing_shape ∷ []
compound_shapes (t ∷ ts) = compound_shape t ∷ spaced ts

-- the compounds of a text without signs
abbrev pub words_of : Bytes → List Bytes
words_of text = words (texts (cuts_from is_space bare 0 text))

abbrev pub shapes_of : Bytes → List Shape
shapes_of text = compound_shapes (words_of text)

abbrev pub signed_shapes : List Cut → List Shape
signed_shapes [] = []
signed_shapes (c ∷ cuts) = sign_shape c.sign ∷ shapes_of c.text ++ signed_shapes cuts

abbrev pub item_shapes : List Cut → List Shape
item_shapes [] = []
item_shapes (c ∷ cuts) = shapes_of c.text ++ signed_shapes cuts

abbrev pub has_shapes : List Cut → List Shape
has_shapes [] = []
has_shapes (c ∷ cuts) = if is_blank c.text && not (is_empty cuts) then signed_shapes cuts else sign_shape space ∷ item_shapes (c ∷ cuts)

-- a chain of a text, by whether it is one of `:has`
abbrev pub chain_shapes : Bool → Bytes → List Shape
chain_shapes in_has text =
    let signed = cuts_from is_sign bare 0 text in
    if in_has then has_shapes signed else item_shapes signed

abbrev part_texts : List Part → List Bytes
part_texts ps = map (λ p. p.text) ps

texts-cuts : (ps : List Part) → texts (map cut_of ps) ≡ part_texts ps
texts-cuts [] = refl
texts-cuts (p ∷ ps) = ap (λ (t : List Bytes). p.text ∷ t) (texts-cuts ps)

filled_cond : (c : Bool) (p : Part) (xs ys : List Part) (us vs : List Bytes) → part_texts xs ≡ us → part_texts ys ≡ vs → part_texts (if c then xs else p ∷ ys) ≡ (if c then us else p.text ∷ vs)
filled_cond true p xs ys us vs h g = h
filled_cond false p xs ys us vs h g = ap (λ (t : List Bytes). p.text ∷ t) g

filled-words : (ps : List Part) → part_texts (filled ps) ≡ words (part_texts ps)
filled-words [] = refl
filled-words (p ∷ ps) = (let more = filled-words ps in filled_cond (is_empty p.text) p (filled ps) (filled ps) _ _ more more)

spaced-shapes : (ps : List Part) → map shape (behind_space ps) ≡ spaced (part_texts ps)
spaced-shapes [] = refl
spaced-shapes (p ∷ ps) = ap (λ (t : List Shape). sign_shape space ∷ compound_shape p.text ∷ t) (spaced-shapes ps)

compounds-shapes : (end : ℕ) (ps : List Part) → map shape (compounds end ps) ≡ compound_shapes (part_texts ps)
compounds-shapes end [] = refl
compounds-shapes end (p ∷ ps) = ap (λ (t : List Shape). compound_shape p.text ∷ t) (spaced-shapes ps)

of-shapes : (p : Part) → map shape (compounds_of p) ≡ shapes_of p.text
of-shapes p =
    let ps = parts is_space p.at p.text in
    compounds-shapes _ (filled ps) ∙ ap compound_shapes (filled-words ps ∙ ap words (sym (texts-cuts ps) ∙ ap texts (parts-cuts is_space bare 0 p.at p.text)))

signs-shapes : (ps : List Part) → map shape (behind_signs ps) ≡ signed_shapes (map cut_of ps)
signs-shapes [] = refl
signs-shapes (p ∷ ps) = ap (λ (t : List Shape). sign_shape p.sign ∷ t) (map-append shape (compounds_of p) (behind_signs ps) ∙ ap₂ ◌++◌ (of-shapes p) (signs-shapes ps))

items-shapes : (ps : List Part) → map shape (items ps) ≡ item_shapes (map cut_of ps)
items-shapes [] = refl
items-shapes (p ∷ ps) = map-append shape (compounds_of p) (behind_signs ps) ∙ ap₂ ◌++◌ (of-shapes p) (signs-shapes ps)

empty-cuts : (ps : List Part) → is_empty ps ≡ is_empty (map cut_of ps)
empty-cuts [] = refl
empty-cuts (p ∷ ps) = refl

has_cond : (c d : Bool) (xs ys : List Item) (us vs : List Shape) → c ≡ d → map shape xs ≡ us → map shape ys ≡ vs → map shape (if c then xs else combinator space ∷ ys) ≡ (if d then us else sign_shape space ∷ vs)
has_cond true d xs ys us vs e h g = h ∙ ap (λ (z : Bool). if z then us else sign_shape space ∷ vs) e
has_cond false d xs ys us vs e h g = ap (λ (t : List Shape). sign_shape space ∷ t) g ∙ ap (λ (z : Bool). if z then us else sign_shape space ∷ vs) e

has-shapes : (ps : List Part) → map shape (items_of_has ps) ≡ has_shapes (map cut_of ps)
has-shapes [] = refl
has-shapes (p ∷ ps) =
    has_cond (is_blank p.text && not (is_empty ps)) (is_blank p.text && not (is_empty (map cut_of ps))) _ _ _ _ (ap (λ (z : Bool). is_blank p.text && not z) (empty-cuts ps)) (signs-shapes ps) (items-shapes (p ∷ ps))

chain_cond : (c : Bool) (xs ys : List Item) (us vs : List Shape) → map shape xs ≡ us → map shape ys ≡ vs → map shape (if c then xs else ys) ≡ (if c then us else vs)
chain_cond true xs ys us vs h g = h
chain_cond false xs ys us vs h g = g

pub chain-shapes : (in_has : Bool) (p : Part) → map shape (items_of in_has p) ≡ chain_shapes in_has p.text
chain-shapes in_has p =
    let ps = parts is_sign p.at p.text in
    let e = parts-cuts is_sign bare 0 p.at p.text in
    chain_cond in_has (items_of_has ps) (items ps) _ _ (has-shapes ps ∙ ap has_shapes e) (items-shapes ps ∙ ap item_shapes e)

-- ---- a front that isn't cut

abbrev pub prefixed : ℕ → Bytes → List Cut → List Cut
prefixed sign [] cuts = cuts
prefixed sign (b ∷ front) cuts = with_byte sign b (prefixed sign front cuts)

pub prefixed-one : (sign : ℕ) (front text : Bytes) (cuts : List Cut) → prefixed sign front (record { sign = sign; text = text } ∷ cuts) ≡ record { sign = sign; text = front ++ text } ∷ cuts
prefixed-one sign [] text cuts = refl
prefixed-one sign (b ∷ front) text cuts = ap (with_byte sign b) (prefixed-one sign front text cuts)

pub prefixed-append : (sign : ℕ) (a b : Bytes) (cuts : List Cut) → prefixed sign (a ++ b) cuts ≡ prefixed sign a (prefixed sign b cuts)
prefixed-append sign [] b cuts = refl
prefixed-append sign (c ∷ a) b cuts = ap (with_byte sign c) (prefixed-append sign a b cuts)

spares : (p : ℕ → Bool) (s : Scan) (b : ℕ) → ((c : ℕ) → is_cut c ≡ false → p c ≡ false) → not (is_bare s && is_cut b) ≡ true → (is_bare s && p b) ≡ false
spares p s b within h =
    elim (cases_Bool (is_bare s)) [
      | inl is ↦ (let e : is_cut b ≡ false = sym (ap (λ (c : Bool). c && is_cut b) is) ∙ not-true (is_bare s && is_cut b) h in and_right (is_bare s) (p b) (within b e))
      | inr other ↦ and_left (is_bare s) (p b) other
    ]

cuts-on : (p : ℕ → Bool) (s : Scan) (sign b : ℕ) (text : Bytes) → (is_bare s && p b) ≡ false → cuts_from p s sign (b ∷ text) ≡ with_byte sign b (cuts_from p (step s b text) sign text)
cuts-on p s sign b text h = rw h refl

pub cuts-uncut : (p : ℕ → Bool) (s : Scan) (sign : ℕ) (used rest : Bytes) → ((c : ℕ) → is_cut c ≡ false → p c ≡ false) → is_uncut s used rest ≡ true
    → cuts_from p s sign (used ++ rest) ≡ prefixed sign used (cuts_from p (over s used rest) sign rest)
cuts-uncut p s sign [] rest within h = refl
cuts-uncut p s sign (b ∷ used) rest within h =
    let q = and_parts (not (is_bare s && is_cut b)) (is_uncut (step s b (used ++ rest)) used rest) h in
    cuts-on p s sign b (used ++ rest) (spares p s b within q.0) ∙ ap (with_byte sign b) (cuts-uncut p (step s b (used ++ rest)) sign used rest within q.1)

-- a closed text goes into the first part whole
pub cuts-closed : (p : ℕ → Bool) (k sign : ℕ) (used rest : Bytes) → ((c : ℕ) → is_cut c ≡ false → p c ≡ false) → IsClosed k used rest
    → cuts_from p bare sign (used ++ rest) ≡ prefixed sign used (cuts_from p bare sign rest)
cuts-closed p k sign used rest within h = cuts-uncut p bare sign used rest within h.uncut ∙ ap (λ (s : Scan). prefixed sign used (cuts_from p s sign rest)) h.ends

pub comma_cuts : (c : ℕ) → is_cut c ≡ false → is_comma c ≡ false
comma_cuts c h = (or_parts (is_comma c) (is_sign c) (or_parts (is_comma c || is_sign c) (is_space c) h).0).0

pub sign_cuts : (c : ℕ) → is_cut c ≡ false → is_sign c ≡ false
sign_cuts c h = (or_parts (is_comma c) (is_sign c) (or_parts (is_comma c || is_sign c) (is_space c) h).0).1

pub space_cuts : (c : ℕ) → is_cut c ≡ false → is_space c ≡ false
space_cuts c h = (or_parts (is_comma c || is_sign c) (is_space c) h).1
