-- A walk through a tag, piece by piece.
use Rattle.std.proofs.Common.{◌≡◌, ℕ, zero, suc, ◌+◌, ◌-◌, ◌<◌, ◌≤◌, ◌≢◌, false, List, [], ◌∷◌, length, drop, refl, arith, ap, drop-drop}
use Rattle.std.proofs.lemmas.Bool.{ne_eqb}
use Rattle.std.proofs.lemmas.List.{length-drop}
use Rattle.std.specs.Prelude.{slice_index, ◌==◌}
use Rattle.html_meaning.specs.Tokens.{to_tag_end, is_self_closing, more_in_tag}

pub to_tag_end_skips : (k : ℕ) (bs : List ℕ) → k ≤ length bs → to_tag_end k bs ≡ k + to_tag_end 0 (drop k bs)
to_tag_end_skips zero [] h = refl
to_tag_end_skips zero (b ∷ bs) h = omega arith
to_tag_end_skips (suc k) [] h = absurd (omega arith)
to_tag_end_skips (suc k) (b ∷ bs) h = omega (arith, to_tag_end_skips k bs (omega arith))

pub to_tag_end_past : (k : ℕ) (bs : List ℕ) → length bs ≤ k → to_tag_end k bs ≡ length bs
to_tag_end_past k [] h = refl
to_tag_end_past zero (b ∷ bs) h = absurd (omega arith)
to_tag_end_past (suc k) (b ∷ bs) h = ap suc (to_tag_end_past k bs (omega arith))

pub tag_end_steps : (rest : List ℕ) (size : ℕ) → 0 < length rest → slice_index rest 0 ≢ 62 → size ≡ suc (more_in_tag rest) → size ≤ length rest
    → to_tag_end 0 rest ≡ size + to_tag_end 0 (drop size rest)
tag_end_steps [] size z n e h = absurd (omega arith)
tag_end_steps (b ∷ bs) size z n e h =
    let m = more_in_tag (b ∷ bs) in
    let step : to_tag_end m bs ≡ m + to_tag_end 0 (drop m bs) = to_tag_end_skips m bs (omega arith) in
    rw (ne_eqb b 62 n, e) (omega (arith, step))

pub tag_end_ends : (rest : List ℕ) (size : ℕ) → 0 < length rest → slice_index rest 0 ≢ 62 → size ≡ suc (more_in_tag rest) → length rest ≤ size
    → to_tag_end 0 rest ≡ length rest
tag_end_ends [] size z n e h = refl
tag_end_ends (b ∷ bs) size z n e h =
    rw (ne_eqb b 62 n) (ap suc (to_tag_end_past (more_in_tag (b ∷ bs)) bs (omega arith)))

pub closes_skips : (k : ℕ) (bs : List ℕ) → is_self_closing k bs ≡ is_self_closing 0 (drop k bs)
closes_skips zero bs = refl
closes_skips (suc k) [] = refl
closes_skips (suc k) (b ∷ bs) = closes_skips k bs

pub closes_steps : (rest : List ℕ) (size : ℕ) → 1 < length rest → size ≡ suc (more_in_tag rest) → is_self_closing 0 rest ≡ is_self_closing 0 (drop size rest)
closes_steps [] size z e = absurd (omega arith)
closes_steps (b ∷ []) size z e = absurd (omega arith)
closes_steps (b ∷ c ∷ bs) size z e = rw e (closes_skips (more_in_tag (b ∷ c ∷ bs)) (c ∷ bs))

-- only a tag that ends in `/` is self-closing
closes_none : (k : ℕ) → is_self_closing k [] ≡ false
closes_none zero = refl
closes_none (suc k) = refl

pub some : (n : ℕ) → (n == 0) ≡ false → n ≡ suc (n - 1)
some zero e = cc
some (suc n) e = omega arith

pub closes_empty : (bs : List ℕ) → length bs ≡ 0 → is_self_closing 0 bs ≡ false
closes_empty [] h = refl
closes_empty (b ∷ bs) h = absurd (omega (arith, h))

pub closes_last : (k n : ℕ) (bs : List ℕ) → length bs ≡ suc n → (slice_index bs n == 47) ≡ false → is_self_closing k bs ≡ false
closes_last k n [] h e = closes_none k
closes_last zero zero (b ∷ []) h e = e
closes_last zero (suc n) (b ∷ []) h e = absurd (omega (arith, h))
closes_last zero zero (b ∷ c ∷ bs) h e = absurd (omega (arith, h))
closes_last zero (suc n) (b ∷ c ∷ bs) h e = closes_last (more_in_tag (b ∷ c ∷ bs)) n (c ∷ bs) (omega (arith, h)) e
closes_last (suc k) n (b ∷ []) h e = closes_none k
closes_last (suc k) zero (b ∷ c ∷ bs) h e = absurd (omega (arith, h))
closes_last (suc k) (suc n) (b ∷ c ∷ bs) h e = closes_last k n (c ∷ bs) (omega (arith, h)) e

-- the same from a place of the bytes on
pub tag_end_on : (bytes : List ℕ) (passed size : ℕ) → passed < length bytes → slice_index (drop passed bytes) 0 ≢ 62 → size ≡ suc (more_in_tag (drop passed bytes)) → size < length bytes - passed
    → to_tag_end 0 bytes ≡ passed + to_tag_end 0 (drop passed bytes) → to_tag_end 0 bytes ≡ passed + size + to_tag_end 0 (drop (passed + size) bytes)
tag_end_on bytes passed size z n e h i =
    let l = length-drop passed bytes in
    let s = tag_end_steps (drop passed bytes) size (omega (arith, l)) n e (omega (arith, l)) in
    let d : to_tag_end 0 (drop size (drop passed bytes)) ≡ to_tag_end 0 (drop (passed + size) bytes) = ap (to_tag_end 0) (drop-drop size passed bytes) in
    omega (arith, i, s, d)

pub tag_end_over : (bytes : List ℕ) (passed size : ℕ) → passed < length bytes → slice_index (drop passed bytes) 0 ≢ 62 → size ≡ suc (more_in_tag (drop passed bytes)) → length bytes - passed ≤ size
    → to_tag_end 0 bytes ≡ passed + to_tag_end 0 (drop passed bytes) → to_tag_end 0 bytes ≡ length bytes
tag_end_over bytes passed size z n e h i =
    let l = length-drop passed bytes in
    let s = tag_end_ends (drop passed bytes) size (omega (arith, l)) n e (omega (arith, l)) in
    omega (arith, i, s, l)
