-- A text that is cut at its first separator.
use Rattle.std.proofs.Common.{◌≡◌, ◌≢◌, ◌+◌, ◌<◌, ◌≤◌, ◌==◌, ◌++◌, ℕ, suc, Bool, true, false, List, [], ◌∷◌, length, length-append, get_or, drop, Option, Some, None, arith, refl, ap, sym, ◌∙◌, subst}
use Rattle.std.specs.List.{onto_first}
use Rattle.std.specs.Prelude.{if◌then◌else◌}
use Rattle.std.specs.Str.{IsUtf8}
use Rattle.std.proofs.Math.Seq.{get_or-append_seam, drop-append-add}
use Rattle.std.proofs.lemmas.Str.{IsUtf8-drop, IsCharBoundary-after_ascii}
use Rattle.std.proofs.lemmas.Bool.{eq-eqb, eqb-true, ne_eqb}
use Rattle.cos_source.specs.Parts.{before, behind, parts, placed, parts_left}

-- no byte of the text is the separator
abbrev pub Lacks : ℕ → List ℕ → Type 0
Lacks separator text = (i : ℕ) → i < length text → get_or text i 0 ≢ separator

-- what stands before the first separator, and what stands behind it
before-until : (c : ℕ) (front rest : List ℕ) → Lacks c front → before c (front ++ c ∷ rest) ≡ front
before-until c [] rest none = rw (eq-eqb c c refl) refl
before-until c (b ∷ front) rest none =
    rw (ne_eqb b c (none 0 (omega arith))) (ap (λ text. b ∷ text) (before-until c front rest (λ i low. none (suc i) (omega arith))))

behind-until : (c : ℕ) (front rest : List ℕ) → Lacks c front → behind c (front ++ c ∷ rest) ≡ Some rest
behind-until c [] rest none = rw (eq-eqb c c refl) refl
behind-until c (b ∷ front) rest none =
    rw (ne_eqb b c (none 0 (omega arith))) (behind-until c front rest (λ i low. none (suc i) (omega arith)))

-- without a separator all stands before it
pub before-whole : (c : ℕ) (text : List ℕ) → Lacks c text → text ≡ before c text
before-whole c [] none = refl
before-whole c (b ∷ text) none =
    rw (ne_eqb b c (none 0 (omega arith))) (ap (λ text. b ∷ text) (before-whole c text (λ i low. none (suc i) (omega arith))))

pub behind-whole : (c : ℕ) (text : List ℕ) → Lacks c text → None ≡ behind c text
behind-whole c [] none = refl
behind-whole c (b ∷ text) none =
    rw (ne_eqb b c (none 0 (omega arith))) (behind-whole c text (λ i low. none (suc i) (omega arith)))

-- as the search for a separator gives both
pub before_found : (c : ℕ) (text front rest : List ℕ) → text ≡ front ++ c ∷ rest → Lacks c front → front ≡ before c text
before_found c text front rest e none = sym (ap (before c) e ∙ before-until c front rest none)

pub behind_found : (c : ℕ) (text front rest : List ℕ) → text ≡ front ++ c ∷ rest → Lacks c front → Some rest ≡ behind c text
behind_found c text front rest e none = sym (ap (behind c) e ∙ behind-until c front rest none)

-- the parts of what is left behind a separator, if there is one
abbrev parts_behind : ℕ → Option (List ℕ) → List (List ℕ)
parts_behind c None = []
parts_behind c (Some rest) = parts c rest

-- the first part ends at the first separator, and the others follow behind it
parts-first : (c : ℕ) (text : List ℕ) → parts c text ≡ before c text ∷ parts_behind c (behind c text)
parts-first c [] = refl
parts-first c (b ∷ text) =
    elim (b == c) as (λ v. (if v then [] ∷ parts c text else onto_first b (parts c text))
    ≡ (if v then [] else b ∷ before c text) ∷ parts_behind c (if v then Some text else behind c text)) [
      | true ↦ refl
      | false ↦ ap (onto_first b) (parts-first c text)
    ]

placed-behind : (c place : ℕ) (rest : Option (List ℕ)) → placed place (parts_behind c rest) ≡ parts_left c place rest
placed-behind c place None = refl
placed-behind c place (Some rest) = refl

pub placed-first : (c place : ℕ) (text : List ℕ) →
    placed place (parts c text) ≡ (place, before c text) ∷ parts_left c (place + (length (before c text) + 1)) (behind c text)
placed-first c place text =
    ap (placed place) (parts-first c text)
    ∙ ap (λ rest. (place, before c text) ∷ rest) (placed-behind c (place + (length (before c text) + 1)) (behind c text))

-- a text that is cut, put together
cut_by : (c b : ℕ) (text rest : List ℕ) (v : Bool) → (b == c) ≡ v → (if v then Some text else behind c text) ≡ Some rest
    → (behind c text ≡ Some rest → text ≡ before c text ++ c ∷ rest) → b ∷ text ≡ (if v then [] else b ∷ before c text) ++ c ∷ rest
cut_by c b text rest true is e h = ap (λ (d : ℕ). d ∷ text) (eqb-true b c is) ∙ ap (λ (t : List ℕ). c ∷ t) (grind arith)
cut_by c b text rest false is e h = ap (λ (t : List ℕ). b ∷ t) (h e)

cut_whole : (c : ℕ) (text rest : List ℕ) → behind c text ≡ Some rest → text ≡ before c text ++ c ∷ rest
cut_whole c [] rest e = absurd (grind arith)
cut_whole c (b ∷ text) rest e = cut_by c b text rest (b == c) refl e (cut_whole c text rest)

-- what is left is shorter, and is text
pub length-cut : (c : ℕ) (text rest : List ℕ) → behind c text ≡ Some rest → length (before c text) + 1 + length rest ≡ length text
length-cut c text rest e =
    let whole = ap length (cut_whole c text rest e) in
    omega (arith, whole, length-append (before c text) (c ∷ rest))

pub length-before : (c : ℕ) (text : List ℕ) → length (before c text) ≤ length text
length-before c [] = omega arith
length-before c (b ∷ text) =
    elim (b == c) as (λ v. length (if v then [] else b ∷ before c text) ≤ length (b ∷ text)) [ true ↦ omega arith | false ↦ omega (arith, length-before c text) ]

pub behind_utf8 : (c : ℕ) (text rest : List ℕ) → behind c text ≡ Some rest → c < 128 → IsUtf8 text → IsUtf8 rest
behind_utf8 c text rest e low utf8 =
    let front = before c text in
    let whole = cut_whole c text rest e in
    let at : get_or text (length front) 0 ≡ c = ap (λ (t : List ℕ). get_or t (length front) 0) whole ∙ get_or-append_seam front c rest 0 in
    let past : drop (length front + 1) text ≡ rest = ap (λ (t : List ℕ). drop (length front + 1) t) whole ∙ drop-append-add front (c ∷ rest) 1 in
    subst IsUtf8 past (IsUtf8-drop text (length front + 1) utf8
    (IsCharBoundary-after_ascii text (length front) utf8 (omega (arith, length-cut c text rest e)) (omega (arith, at, low))))
