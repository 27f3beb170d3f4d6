-- Where a text may be cut, and what a text that begins with another has at its front.
use Rattle.std.proofs.Common.{◌≡◌, ℕ, ◌+◌, ◌-◌, ◌<◌, ◌≤◌, Bool, true, false, codes, ◌||◌, List, [], ◌∷◌, length, drop, take, refl, arith, ap, sym, ◌∙◌, min, subst, ⊎_elim, drop_of_length-le, nat_lt}
use Rattle.std.proofs.lemmas.List.{length-take, get_or-take, drop-take, drop-drop, drop_min}
use Rattle.std.proofs.lemmas.Bool.{cases_lt, and_parts, or_cases, eqb-true}
use Rattle.html_tokens.specs.Views.{IsTag, is_whole}
use Rattle.html_tokens.specs.declared.rules.Whole.{Whole}
use Rattle.html_meaning.specs.Tokens as meant
use Rattle.std.proofs.lemmas.Str.{IsCharBoundary-after_ascii}
use Rattle.std.proofs.lemmas.Slice.Eq.{bytes_eq-Decides}
use Rattle.std.specs.Str.{IsUtf8, IsCharBoundary}
use Rattle.std.specs.Prelude.{slice_index, ◌==◌}
use Rattle.html_meaning.specs.Bytes.{begins, up_to}
use Rattle.html_meaning.specs.Tokens.{ends_comment, is_angle, is_bogus_comment, is_start, is_end}

pub boundary_behind : (bytes : List ℕ) (count : ℕ) → IsUtf8 bytes → 0 < count → count ≤ length bytes → slice_index bytes (count - 1) < 128 → IsCharBoundary bytes count
boundary_behind bytes count u z h a =
    let same : count - 1 + 1 ≡ count = omega arith in
    subst (IsCharBoundary bytes) same (IsCharBoundary-after_ascii bytes (count - 1) u (omega arith) a)

pub begins_is : (text bytes : List ℕ) → begins text bytes ≡ true → take (length text) bytes ≡ text
begins_is text bytes e = (bytes_eq-Decides (take (length text) bytes) text).0 e

pub begins_long : (text bytes : List ℕ) → begins text bytes ≡ true → length text ≤ length bytes
begins_long text bytes e = omega (arith, length-take (length text) bytes, ap length (begins_is text bytes e))

pub begins_at : (text bytes : List ℕ) (i : ℕ) → begins text bytes ≡ true → i < length text → slice_index bytes i ≡ slice_index text i
begins_at text bytes i e h = sym (get_or-take _ _ i 0 h) ∙ ap (λ bs. slice_index bs i) (begins_is text bytes e)

-- the text of a comment by dashes, and what stands behind it
pub comment_text : (inner : List ℕ) (u : ℕ) → drop 2 (take u inner) ≡ take (u - 2) (drop 2 inner)
comment_text inner u =
    ⊎_elim
    (λ h. (let z : u - 2 ≡ 0 = omega arith in
    let short : length (take u inner) ≤ 2 = omega (arith, length-take u inner) in
    drop_of_length-le (take u inner) short ∙ sym (ap (λ n. take n (drop 2 inner)) z)))
    (λ h. (let e : u ≡ 2 + (u - 2) = omega arith in ap (λ n. drop 2 (take n inner)) e ∙ drop-take 2 (u - 2) inner))
    (cases_lt u 2)

pub comment_rest : (source : List ℕ) (u : ℕ) → drop (u + 3) (drop 2 source) ≡ drop (2 + min (length (drop 2 source)) (u + 3)) source
comment_rest source u =
    let m : min (length (drop 2 source)) (u + 3) ≡ min (u + 3) (length (drop 2 source)) = omega arith in
    sym (sym (drop-drop (min (length (drop 2 source)) (u + 3)) 2 source) ∙ ap (λ n. drop n (drop 2 source)) m ∙ drop_min (u + 3) (drop 2 source))

-- a comment of another form has no `>` in its first two bytes
begins_other : (x : ℕ) (source : List ℕ) → (x == 62) ≡ false → begins (60 ∷ x ∷ []) source ≡ true → up_to is_angle source ≡ 2 + up_to is_angle (drop 2 source)
begins_other x [] n e = cc
begins_other x (a ∷ []) n e = let f = (and_parts (a == 60) _ e).1 in cc
begins_other x (a ∷ b ∷ rest) n e =
    let p = and_parts (a == 60) _ e in
    let q = and_parts (b == x) _ p.1 in
    rw (eqb-true a 60 p.0, eqb-true b x q.0, n) (omega arith)

bogus_skips : (source : List ℕ) → is_bogus_comment source ≡ true → up_to is_angle source ≡ 2 + up_to is_angle (drop 2 source)
bogus_skips source e =
    ⊎_elim
    (λ f. ⊎_elim (begins_other 33 source refl) (begins_other 63 source refl) (or_cases (begins (codes "<!") source) (begins (codes "<?") source) f))
    (λ f. begins_other 47 source refl (and_parts (begins (codes "</") source) _ (and_parts _ _ f).0).0)
    (or_cases (begins (codes "<!") source || begins (codes "<?") source) _ e)

-- what stands behind the first `>`
pub angle_rest : (source : List ℕ) (u : ℕ) → drop 1 (drop u source) ≡ drop (min (length source) (u + 1)) source
angle_rest source u =
    let m : min (length source) (u + 1) ≡ min (u + 1) (length source) = omega arith in
    drop-drop 1 u source ∙ sym (ap (λ n. drop n source) m ∙ drop_min (u + 1) source)

pub bogus_rest : (source : List ℕ) → is_bogus_comment source ≡ true
    → drop 1 (drop (up_to is_angle (drop 2 source)) (drop 2 source)) ≡ drop (min (length source) (up_to is_angle source + 1)) source
bogus_rest source e =
    ap (drop 1) (drop-drop (up_to is_angle (drop 2 source)) 2 source ∙ ap (λ n. drop n source) (sym (bogus_skips source e)))
    ∙ angle_rest source (up_to is_angle source)

-- a tag that is whole, and one that is cut off
pub tag_whole : (made : List ℕ → List ℕ → Bool → meant.Piece) (before : ℕ) (source : List ℕ) (w : Whole) → IsTag w (drop before source)
    → ((meant.tag made before source).piece ≡ made w.name.now w.attrs.now (meant.is_self_closing 0 w.attrs.now)) × (w.rest.now ≡ drop (meant.tag made before source).size source)
tag_whole made before source w t =
    let text = drop before source in
    let name = up_to meant.ends_name text in
    let at : drop name text ≡ drop (before + name) source = drop-drop name before source in
    let whole : nat_lt (meant.to_tag_end 0 (drop (before + name) source)) (length (drop (before + name) source)) ≡ true =
    ap (λ bs. nat_lt (meant.to_tag_end 0 bs) (length bs)) (sym at) ∙ t.whole in
    let attrs : w.attrs.now ≡ take (meant.to_tag_end 0 (drop (before + name) source)) (drop (before + name) source) = t.attrs ∙ ap (λ bs. take (meant.to_tag_end 0 bs) bs) at in
    rw (whole, t.name, attrs) (
      refl,
      t.rest ∙ ap (λ bs. drop (meant.to_tag_end 0 bs + 1) bs) at ∙ drop-drop (meant.to_tag_end 0 (drop (before + name) source) + 1) (before + name) source
          ∙ ap (λ n. drop n source) (omega arith),
    )

pub tag_cut : (made : List ℕ → List ℕ → Bool → meant.Piece) (before : ℕ) (source : List ℕ) → is_whole (drop before source) ≡ false
    → meant.tag made before source ≡ record { piece = meant.Cut; size = length source }
tag_cut made before source e =
    let text = drop before source in
    let name = up_to meant.ends_name text in
    let whole : nat_lt (meant.to_tag_end 0 (drop (before + name) source)) (length (drop (before + name) source)) ≡ false =
    ap (λ bs. nat_lt (meant.to_tag_end 0 bs) (length bs)) (sym (drop-drop name before source)) ∙ e in
    rw whole refl

pub tag_cut_rest : (source : List ℕ) → drop (length source) source ≡ []
tag_cut_rest source = let h : length source ≤ length source = omega arith in drop_of_length-le source h
