-- Each token takes at least one byte and stays within the source, so that the tokens cover it.
use Rattle.std.proofs.Common.{◌≡◌, ℕ, zero, suc, ◌+◌, ◌-◌, ◌<◌, ◌≤◌, Bool, true, false, cond, ◌||◌, List, [], ◌∷◌, length, drop, take, refl, arith, ap, ◌∙◌, subst, nat_lt, codes}
use Rattle.std.proofs.lemmas.Bool.{cond_both, and_parts, ltb-true, or_from}
use Rattle.std.proofs.lemmas.List.{length-drop, length-take}
use Rattle.std.proofs.lemmas.Slice.Eq.{bytes_eq-Decides}
use Rattle.html_meaning.specs.Bytes.{begins, begins_like, up_to}
use Rattle.html_meaning.specs.Tokens.{Piece, Start, End, Found, first, tag, text, opens, is_start, is_end, is_bogus_comment, is_angle, ends_raw_text, begins_raw_text, ends_name, to_tag_end, raw_after, tokens_from, tokens, through}
use Rattle.html_meaning.specs.Cover.{Cover}

pub up_to-within : (here : List ℕ → Bool) (bytes : List ℕ) → up_to here bytes ≤ length bytes
up_to-within here [] = omega arith
up_to-within here (b ∷ bs) = elim (here (b ∷ bs)) as (λ v. cond v 0 (suc (up_to here bs)) ≤ suc (length bs)) [ true ↦ omega arith | false ↦ omega (arith, up_to-within here bs) ]

-- a token takes at least one byte, and at most all
abbrev pub Takes : List ℕ → Found → Type 0
Takes bytes found = (0 < found.size) × (found.size ≤ length bytes)

pub begins_long : (text bytes : List ℕ) → begins text bytes ≡ true → length text ≤ length bytes
begins_long text bytes e = omega (arith, length-take (length text) bytes, ap length ((bytes_eq-Decides (take (length text) bytes) text).0 e))

pub through_takes : (here : List ℕ → Bool) (last : ℕ) (bytes : List ℕ) → 0 < last → 0 < length bytes → (0 < through here last bytes) × (through here last bytes ≤ length bytes)
through_takes here last bytes h k = (omega arith, omega arith)

pub tag_takes : (made : List ℕ → List ℕ → Bool → Piece) (before : ℕ) (bytes : List ℕ) → 0 < length bytes → Takes bytes (tag made before bytes)
tag_takes made before bytes h =
    let name = up_to ends_name (drop before bytes) in
    let inner = drop (before + name) bytes in
    let attrs = take (to_tag_end 0 inner) inner in
    cond_both (nat_lt (to_tag_end 0 inner) (length inner)) _ _ (Takes bytes)
    (λ e. (omega arith, omega (arith, ltb-true _ _ e, length-drop (before + name) bytes))) (λ e. (h, omega arith))

pub text_takes : (b : ℕ) (bs : List ℕ) → opens (b ∷ bs) ≡ false → Takes (b ∷ bs) (text (b ∷ bs))
text_takes b bs e = rw e (omega arith, omega (arith, up_to-within opens bs))

pub first_takes : (raw : List ℕ) (b : ℕ) (bs : List ℕ) → Takes (b ∷ bs) (first raw (b ∷ bs))
first_takes raw b bs =
    let bytes = b ∷ bs in
    let some : 0 < length (b ∷ bs) = omega arith in
    cond_both (begins_raw_text raw bytes) _ _ (Takes bytes)
    (λ e. (ltb-true _ _ (and_parts _ _ e).1, up_to-within (ends_raw_text raw) bytes))
    (λ _. cond_both (begins (codes "<!--") bytes) _ _ (Takes bytes)
    (λ e. (let l = begins_long (codes "<!--") bytes e in (omega arith, omega (arith, l, length-drop 2 bytes))))
    (λ _. cond_both (begins_like (codes "<!doctype") bytes) _ _ (Takes bytes)
    (λ _. through_takes is_angle 1 bytes (omega arith) some)
    (λ _. cond_both (is_bogus_comment bytes) _ _ (Takes bytes)
    (λ _. through_takes is_angle 1 bytes (omega arith) some)
    (λ r. cond_both (is_start bytes) _ _ (Takes bytes)
    (λ _. tag_takes Start 1 bytes some)
    (λ s. cond_both (is_end bytes) _ _ (Takes bytes)
    (λ _. tag_takes (λ name attrs closing. End name) 2 bytes some)
    (λ t. text_takes b bs (or_from (is_start bytes || is_end bytes) (is_bogus_comment bytes) (or_from (is_start bytes) (is_end bytes) s t) r)))))))

-- what is left after the bytes of a token
pub tokens_skip : (place k : ℕ) (raw bytes : List ℕ) → tokens_from place k raw bytes ≡ tokens_from (place + k) 0 raw (drop k bytes)
tokens_skip place zero raw bytes = ap (λ p. tokens_from p 0 raw bytes) (omega arith)
tokens_skip place (suc k) raw [] = refl
tokens_skip place (suc k) raw (b ∷ bs) = tokens_skip (suc place) k raw bs ∙ ap (λ p. tokens_from p 0 raw (drop k bs)) (omega arith)

pub tokens_step : (place : ℕ) (raw bytes : List ℕ) → 0 < length bytes
    → tokens_from place 0 raw bytes ≡ record { piece = (first raw bytes).piece; from = place; to = place + (first raw bytes).size }
    ∷ tokens_from (place + (first raw bytes).size) 0 (raw_after (first raw bytes).piece) (drop (first raw bytes).size bytes)
tokens_step place raw [] h = absurd (omega arith)
tokens_step place raw (b ∷ bs) h =
    let found = first raw (b ∷ bs) in
    let takes = first_takes raw b bs in
    let size : suc (found.size - 1) ≡ found.size = omega (arith, takes.0) in
    ap (λ rest. record { piece = found.piece; from = place; to = place + found.size } ∷ rest)
    (tokens_skip (suc place) (found.size - 1) (raw_after found.piece) bs
    ∙ ap (λ n. tokens_from n 0 (raw_after found.piece) (drop (suc (found.size - 1)) (b ∷ bs))) (omega (arith, takes.0))
    ∙ ap (λ n. tokens_from (place + found.size) 0 (raw_after found.piece) (drop n (b ∷ bs))) size)

-- the tokens cover the source
pub covers_from : (place skip : ℕ) (raw bytes : List ℕ) → skip ≤ length bytes → Cover (place + skip) (tokens_from place skip raw bytes) (place + length bytes)
covers_from place skip raw [] h = omega arith
covers_from place (suc skip) raw (b ∷ bs) h =
    let f : suc place + skip ≡ place + suc skip = omega arith in
    let t : suc place + length bs ≡ place + length (b ∷ bs) = omega arith in
    subst (λ from. Cover from (tokens_from (suc place) skip raw bs) (place + length (b ∷ bs))) f
    (subst (λ to. Cover (suc place + skip) (tokens_from (suc place) skip raw bs) to) t (covers_from (suc place) skip raw bs (omega arith)))
covers_from place zero raw (b ∷ bs) h =
    let found = first raw (b ∷ bs) in
    let takes = first_takes raw b bs in
    let f : suc place + (found.size - 1) ≡ place + found.size = omega (arith, takes.0) in
    let t : suc place + length bs ≡ place + length (b ∷ bs) = omega arith in
    let rest = tokens_from (suc place) (found.size - 1) (raw_after found.piece) bs in (
      omega arith,
      omega (arith, takes.0),
      subst (λ from. Cover from rest (place + length (b ∷ bs))) f
          (subst (λ to. Cover (suc place + (found.size - 1)) rest to) t (covers_from (suc place) (found.size - 1) (raw_after found.piece) bs (omega (arith, takes.0, takes.1)))),
    )

pub covers : (source : List ℕ) → Cover 0 (tokens source) (length source)
covers source = subst (λ to. Cover 0 (tokens source) to) (omega arith) (covers_from 0 0 [] source (omega arith))
