-- The first line of a source, by the place of its LF.
use Rattle.std.proofs.Common.{◌≡◌, ◌+◌, ◌-◌, ◌<◌, ◌≤◌, ◌==◌, ◌&&◌, ◌++◌, ℕ, zero, suc, Bool, true, false, cond, List, [], ◌∷◌, length, take, drop, get_or, arith, refl, ap, sym, ◌∙◌}
use Rattle.std.proofs.lemmas.Bool.{eq-eqb, ne_eqb}
use Rattle.std.proofs.lemmas.Grind.{common_steps}
use Rattle.std.proofs.lemmas.List.{length-drop}
use Rattle.cos_source.specs.Lines.{is_lf, begins_with_lf, lines_of, onto_first_line, without_cr}

-- an LF ends a line
lines_of-lf : (b : ℕ) (bytes : List ℕ) → is_lf b ≡ true → lines_of (b ∷ bytes) ≡ [] ∷ lines_of bytes
lines_of-lf b bytes e = rw e refl

-- a byte that isn't an LF, nor before one, belongs to its line
lines_of-plain : (b : ℕ) (bytes : List ℕ) → is_lf b ≡ false → begins_with_lf bytes ≡ false → lines_of (b ∷ bytes) ≡ onto_first_line b (lines_of bytes)
lines_of-plain b bytes e f =
    rw (e, f) (elim (b == 13) as (λ t. cond (t && false) (lines_of bytes) (onto_first_line b (lines_of bytes)) ≡ onto_first_line b (lines_of bytes)) [ true ↦ refl | false ↦ refl ])

-- a byte directly before an LF is the whole line, unless it is a carriage return
lines_of-last : (b c : ℕ) (bytes : List ℕ) → is_lf b ≡ false → is_lf c ≡ true → lines_of (b ∷ c ∷ bytes) ≡ without_cr (b ∷ []) ∷ lines_of bytes
lines_of-last b c bytes e f =
    rw (e, f) (elim (b == 13) as (λ t. cond (t && true) ([] ∷ lines_of bytes) ((b ∷ []) ∷ lines_of bytes) ≡ cond t [] (b ∷ []) ∷ lines_of bytes) [ true ↦ refl | false ↦ refl ])

-- the line before the first LF, and those behind it
pub first_line_ends : (bytes : List ℕ) (end : ℕ) → end < length bytes → is_lf (get_or bytes end 0) ≡ true → ((k : ℕ) → k < end → is_lf (get_or bytes k 0) ≡ false)
    → lines_of bytes ≡ without_cr (take end bytes) ∷ lines_of (drop (suc end) bytes)
first_line_ends [] end h at before = absurd (omega arith)
first_line_ends (b ∷ bytes) zero h at before = lines_of-lf b bytes at
first_line_ends (b ∷ []) (suc end) h at before = absurd (omega arith)
first_line_ends (b ∷ c ∷ bytes) (suc zero) h at before = lines_of-last b c bytes (before 0 (omega arith)) at
first_line_ends (b ∷ c ∷ bytes) (suc (suc end)) h at before =
    lines_of-plain b (c ∷ bytes) (before 0 (omega arith)) (before 1 (omega arith))
    ∙ ap (onto_first_line b) (first_line_ends (c ∷ bytes) (suc end) (omega arith) at (λ k lt. before (suc k) (omega arith)))

-- without an LF all is one line
pub one_line : (bytes : List ℕ) → 0 < length bytes → ((k : ℕ) → k < length bytes → is_lf (get_or bytes k 0) ≡ false) → lines_of bytes ≡ bytes ∷ []
one_line [] h none = absurd (omega arith)
one_line (b ∷ []) h none = lines_of-plain b [] (none 0 (omega arith)) refl
one_line (b ∷ c ∷ bytes) h none =
    lines_of-plain b (c ∷ bytes) (none 0 (omega arith)) (none 1 (omega arith))
    ∙ ap (onto_first_line b) (one_line (c ∷ bytes) (omega arith) (λ k lt. none (suc k) (omega arith)))

-- a carriage return at the end goes, and nothing else does
pub without_cr-last : (front : List ℕ) (b : ℕ) → without_cr (front ++ b ∷ []) ≡ cond (b == 13) front (front ++ b ∷ [])
without_cr-last [] b = refl
without_cr-last (c ∷ []) b = elim (b == 13) as (λ t. c ∷ cond t [] (b ∷ []) ≡ cond t (c ∷ []) (c ∷ b ∷ [])) [ true ↦ refl | false ↦ refl ]
without_cr-last (c ∷ d ∷ front) b =
    ap (λ line. c ∷ line) (without_cr-last (d ∷ front) b)
    ∙ elim (b == 13) as (λ t. c ∷ cond t (d ∷ front) (d ∷ (front ++ b ∷ [])) ≡ cond t (c ∷ d ∷ front) (c ∷ d ∷ (front ++ b ∷ []))) [ true ↦ refl | false ↦ refl ]

pub drops_cr : (bytes front : List ℕ) (b : ℕ) → bytes ≡ front ++ b ∷ [] → b ≡ 13 → front ≡ without_cr bytes
drops_cr bytes front b e is = sym (ap without_cr e ∙ without_cr-last front b ∙ ap (λ t. cond t front (front ++ b ∷ [])) (eq-eqb b 13 is))

pub keeps_end : (bytes front : List ℕ) (b : ℕ) → bytes ≡ front ++ b ∷ [] → (b ≡ 13 → ⊥) → bytes ≡ without_cr bytes
keeps_end bytes front b e isnt =
    sym (ap without_cr e ∙ without_cr-last front b ∙ ap (λ t. cond t front (front ++ b ∷ [])) (ne_eqb b 13 isnt) ∙ sym e)

not_true : (b : Bool) → (b ≡ true → ⊥) → b ≡ false
not_true true h = absurd (h refl)
not_true false h = refl

-- as the search for an LF says it
pub first_line_found : (bytes line : List ℕ) (end : ℕ) → end < length bytes → is_lf (get_or bytes end 0) ≡ true → ((k : ℕ) → 0 ≤ k → k < end → is_lf (get_or bytes k 0) ≡ true → ⊥)
    → line ≡ without_cr (take end bytes) → lines_of bytes ≡ line ∷ lines_of (take (length bytes - (end + 1)) (drop (end + 1) bytes))
first_line_found bytes line end h at before e =
    let rest : take (length bytes - (end + 1)) (drop (end + 1) bytes) ≡ drop (suc end) bytes = grind (arith, common_steps, length-drop (end + 1) bytes) in
    rw (e, rest) (first_line_ends bytes end h at (λ k lt. not_true _ (before k (omega arith) lt)))

pub one_line_left : (bytes : List ℕ) → 0 < length bytes → ((k : ℕ) → 0 ≤ k → k < length bytes → is_lf (get_or bytes k 0) ≡ true → ⊥) → lines_of bytes ≡ bytes ∷ []
one_line_left bytes h none = one_line bytes h (λ k lt. not_true _ (none k (omega arith) lt))
