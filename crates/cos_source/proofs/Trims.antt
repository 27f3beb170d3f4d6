-- White space at the ends of a text, which may be cut behind and before it.
use Rattle.std.proofs.Common.{◌≡◌, ℕ, List, zero, suc, ◌+◌, ◌<◌, ◌≤◌, ◌++◌, Bool, true, false, [], ◌∷◌, length, length-append, take, drop, refl, ap, sym, ◌∙◌, subst, arith, lit<}
use Rattle.std.specs.Prelude.{if◌then◌else◌}
use Rattle.std.specs.Str.{IsAscii, IsUtf8, IsCharBoundary}
use Rattle.std.proofs.lemmas.Bool.Decides.{nat_tests}
use Rattle.std.proofs.Math.Seq.{take-append_seam}
use Rattle.std.proofs.lemmas.Str.{IsUtf8-from_ascii, IsUtf8-past_char, IsCharBoundary-at_seam, IsCharBoundary-from_drop, encode_ascii}
use Rattle.cos_source.specs.Spaces.{is_space, before_text, space_count, without_first_spaces, without_last_spaces, trimmed}

space_low : (b : ℕ) → is_space b ≡ true → b < 128
space_low b e = grind (arith, nat_tests)

-- ---- at the front

again_by : (b : ℕ) (text : List ℕ) (v : Bool) → is_space b ≡ v → without_first_spaces (without_first_spaces text) ≡ without_first_spaces text →
    without_first_spaces (if v then without_first_spaces text else b ∷ text) ≡ (if v then without_first_spaces text else b ∷ text)
again_by b text true e h = h
again_by b text false e h = rw e refl

first_again : (text : List ℕ) → without_first_spaces (without_first_spaces text) ≡ without_first_spaces text
first_again [] = refl
first_again (b ∷ text) = again_by b text (is_space b) refl (first_again text)

first_by : (b : ℕ) (text : List ℕ) (v : Bool) → is_space b ≡ v → IsUtf8 (b ∷ text) → (IsUtf8 text → IsUtf8 (without_first_spaces text)) →
    IsUtf8 (if v then without_first_spaces text else b ∷ text)
first_by b text true e u h = h (IsUtf8-past_char (b ∷ text) text b u (sym (ap (λ (c : List ℕ). c ++ text) (encode_ascii b (space_low b e)))))
first_by b text false e u h = u

pub first_utf8 : (text : List ℕ) → IsUtf8 text → IsUtf8 (without_first_spaces text)
first_utf8 [] u = u
first_utf8 (b ∷ text) u = first_by b text (is_space b) refl u (first_utf8 text)

first_length : (text : List ℕ) → length (without_first_spaces text) ≤ length text
first_length [] = omega arith
first_length (b ∷ text) =
    elim (is_space b) as (λ v. length (if v then without_first_spaces text else b ∷ text) ≤ length (b ∷ text)) [
      | true ↦ omega (arith, first_length text)
      | false ↦ omega arith
    ]

-- ---- at the end

ascii_cons : (b : ℕ) (text : List ℕ) → b < 128 → IsAscii text → IsAscii (b ∷ text)
ascii_cons b text low a zero = low
ascii_cons b text low a (suc i) = a i

abbrev Split : List ℕ → List ℕ → Type 0
Split text kept = (spaces : List ℕ) × (text ≡ kept ++ spaces) × IsAscii spaces

split_none : (b : ℕ) (text : List ℕ) (v : Bool) → is_space b ≡ v → IsAscii text → Split (b ∷ text) (if v then [] else b ∷ [])
split_none b text true e a = (b ∷ text, refl, ascii_cons b text (space_low b e) a)
split_none b text false e a = (text, refl, a)

split_more : (b : ℕ) (text kept : List ℕ) → Split text kept → Split (b ∷ text) (before_text b kept)
split_more b text [] h = split_none b text (is_space b) refl (subst IsAscii (sym h.1) h.2)
split_more b text (c ∷ kept) h = (h.0, ap (λ (t : List ℕ). b ∷ t) h.1, h.2)

last_split : (text : List ℕ) → Split text (without_last_spaces text)
last_split [] = ([], refl, λ i. lit< tt)
last_split (b ∷ text) = split_more b text (without_last_spaces text) (last_split text)

pub last_boundary : (text : List ℕ) → IsCharBoundary text (length (without_last_spaces text))
last_boundary text =
    let s = last_split text in
    IsCharBoundary-at_seam text (without_last_spaces text) s.0 s.1 (IsUtf8-from_ascii s.0 s.2)

pub take_last : (text : List ℕ) → take (length (without_last_spaces text)) text ≡ without_last_spaces text
take_last text =
    let s = last_split text in
    ap (λ (t : List ℕ). take (length (without_last_spaces text)) t) s.1 ∙ take-append_seam (without_last_spaces text) s.0

last_length : (text : List ℕ) → length (without_last_spaces text) ≤ length text
last_length text =
    let s = last_split text in
    let e = ap (λ (t : List ℕ). length t) s.1 in
    omega (arith, e, length-append (without_last_spaces text) s.0)

-- ---- both

pub trimmed_within : (text : List ℕ) → space_count text + length (trimmed text) ≤ length text
trimmed_within text =
    let a = first_length text in
    let b = last_length (without_first_spaces text) in
    omega arith

-- ---- where a text is cut

pub front_boundary : (text : List ℕ) (n : ℕ) → IsUtf8 text → n ≤ length text → drop n text ≡ without_first_spaces text → IsCharBoundary text n
front_boundary text n u h e = IsCharBoundary-from_drop text n h (subst IsUtf8 (sym e) (first_utf8 text u))

kept_is : (text rest kept : List ℕ) → rest ≡ without_first_spaces text → kept ≡ trimmed rest → kept ≡ without_last_spaces rest
kept_is text rest kept e k = k ∙ ap without_last_spaces (ap without_first_spaces e ∙ first_again text ∙ sym e)

pub back_boundary : (text rest kept : List ℕ) → rest ≡ without_first_spaces text → kept ≡ trimmed rest → IsCharBoundary rest (length kept)
back_boundary text rest kept e k = subst (λ (v : List ℕ). IsCharBoundary rest (length v)) (sym (kept_is text rest kept e k)) (last_boundary rest)

pub trimmed_is : (text rest kept : List ℕ) → rest ≡ without_first_spaces text → kept ≡ trimmed rest → take (length kept) rest ≡ trimmed text
trimmed_is text rest kept e k = ap (λ (v : List ℕ). take (length v) rest) (kept_is text rest kept e k) ∙ take_last rest ∙ ap without_last_spaces e
