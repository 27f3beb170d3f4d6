-- Names between commas, one after the other.
use denote.Ref.{Bor}
use Rattle.std.specs.Prelude.{option_and_then}
use Rattle.std.proofs.Common.{◌≡◌, ℕ, ◌<◌, true, false, eqb, List, [], ◌∷◌, ◌++◌, length, drop, Option, Some, None, zero, suc, ◌+◌, refl, sym, ap, ◌∙◌, append_assoc, arith, inl, inr}
use Rattle.std.specs.List.{slice_split, onto_first}
use Rattle.std.proofs.lemmas.Bool.{cases_Bool}
use Rattle.std.proofs.lemmas.List.{nil_from_length}
use Rattle.cos_source.specs.Spaces.{trimmed}
use Rattle.selector_spelling.specs.Bytes.{Bytes, differs, front, behind, comma}
use Rattle.selector_spelling.specs.Arguments.{is_comma, watched_name, watched_names}
use Rattle.spelling_reader.specs.Texts.{parts_behind}

-- with the names before them
abbrev pub names_before : List Bytes → Option (List Bytes) → Option (List Bytes)
names_before names None = None
names_before names (Some others) = Some (names ++ others)

-- what stands behind a first comma, cut in its turn
abbrev behind_comma : Bytes → List Bytes
behind_comma [] = []
behind_comma (b ∷ text) = slice_split is_comma text

split-first : (text : Bytes) → slice_split is_comma text ≡ front (differs comma) text ∷ behind_comma (behind (differs comma) text)
split-first [] = refl
split-first (b ∷ text) =
    elim (cases_Bool (eqb b comma)) [
      | inl is ↦ rw is refl
      | inr another ↦ (let more : onto_first b (slice_split is_comma text) ≡ onto_first b (front (differs comma) text ∷ behind_comma (behind (differs comma) text)) = ap (onto_first b) (split-first text) in rw another more)
    ]

behind-first : (text : Bytes) → 0 < length text → behind_comma text ≡ slice_split is_comma (drop 1 text)
behind-first [] h = absurd (omega arith)
behind-first (b ∷ text) h = refl

pub last_part : (text part rest : Bytes) → part ≡ front (differs comma) text → rest ≡ behind (differs comma) text → length rest ≡ 0 → slice_split is_comma text ≡ part ∷ []
last_part text part rest part-is rest-is none =
    let e : behind (differs comma) text ≡ [] = nil_from_length (behind (differs comma) text) (ap length (sym rest-is) ∙ none) in
    split-first text ∙ ap (λ (v : List Bytes). front (differs comma) text ∷ v) (ap behind_comma e) ∙ ap (λ (v : Bytes). v ∷ []) (sym part-is)

pub first_part : (text part rest more : Bytes) → part ≡ front (differs comma) text → rest ≡ behind (differs comma) text → 0 < length rest → more ≡ drop 1 rest → slice_split is_comma text ≡ part ∷ slice_split is_comma more
first_part text part rest more part-is rest-is some more-is =
    split-first text
    ∙ ap (λ (v : Bytes). v ∷ behind_comma (behind (differs comma) text)) (sym part-is)
    ∙ ap (λ (v : List Bytes). part ∷ v) (ap behind_comma (sym rest-is) ∙ behind-first rest some ∙ ap (slice_split is_comma) (sym more-is))

-- the names of what is still to be read
abbrev pub names_of : Option (Bor Bytes) → Option (List Bytes)
names_of next = watched_names (parts_behind next)

by_others : (name : Bytes) (others : Option (List Bytes)) → option_and_then (λ (o : List Bytes). Some (name ∷ o)) others ≡ names_before (name ∷ []) others
by_others name None = refl
by_others name (Some others) = refl

name-read : (text : Bytes) (texts : List Bytes) (name : Bytes) → watched_name (trimmed text) ≡ Some name → watched_names (text ∷ texts) ≡ names_before (name ∷ []) (watched_names texts)
name-read text texts name h = rw h (by_others name (watched_names texts))

before-twice : (names : List Bytes) (name : Bytes) (others : Option (List Bytes)) → names_before names (names_before (name ∷ []) others) ≡ names_before (names ++ name ∷ []) others
before-twice names name None = refl
before-twice names name (Some others) = ap Some (sym (append_assoc names (name ∷ []) others))

pub name_more : (names names' : List Bytes) (text part name : Bytes) (next : Option (Bor Bytes)) (whole : Option (List Bytes)) → slice_split is_comma text ≡ part ∷ parts_behind next
    → Some name ≡ watched_name (trimmed part) → names' ≡ names ++ name ∷ [] → names_before names (watched_names (slice_split is_comma text)) ≡ whole → names_before names' (names_of next) ≡ whole
name_more names names' text part name next whole parts-are name-is names-are so_far =
    ap (λ (v : List Bytes). names_before v (names_of next)) names-are ∙ sym (before-twice names name (names_of next))
    ∙ ap (names_before names) (sym (ap watched_names parts-are ∙ name-read part (parts_behind next) name (sym name-is))) ∙ so_far

-- how much is still to be read
abbrev pub left : Option (Bor Bytes) → ℕ
left None = 0
left (Some text) = 1 + length text.now

pub some_left : (n : ℕ) → eqb n 0 ≡ false → 0 < n
some_left zero e = absurd (let f : true ≡ false = e in cc)
some_left (suc n) e = omega arith
