-- A place that passes a test begins with an ASCII byte.
use Rattle.std.specs.Char.{is_ascii_whitespace}
use Rattle.std.specs.Prelude.{◌≡◌, ℕ, ◌<◌, ◌==◌, true, List, [], ◌∷◌, slice_index, codes, ◌&&◌, ◌||◌}
use Rattle.std.proofs.Common.{arith, ⊎_elim}
use Rattle.std.proofs.lemmas.Bool.Decides.{nat_tests}
use Rattle.std.proofs.lemmas.Bool.{eqb-true, and_parts, or_cases}
use Rattle.html_meaning.specs.Bytes.{begins}
use Rattle.html_meaning.specs.Tokens.{is_quote, is_angle, ends_name, ends_attribute_name, ends_unquoted_value, ends_comment, opens, is_start, is_end, is_bogus_comment, ends_raw_text}

pub is_angle-ascii : (bytes : List ℕ) → is_angle bytes ≡ true → slice_index bytes 0 < 128
is_angle-ascii bytes e = omega (arith, eqb-true _ _ e)

pub at_byte : (b n : ℕ) → n < 128 → (b == n) ≡ true → b < 128
at_byte b n h t = omega (arith, eqb-true b n t)

pub is_space-ascii : (b : ℕ) → is_ascii_whitespace b ≡ true → b < 128
is_space-ascii b e = grind (arith, nat_tests)

pub ends_name-ascii : (bytes : List ℕ) → ends_name bytes ≡ true → slice_index bytes 0 < 128
ends_name-ascii [] e = omega arith
ends_name-ascii (b ∷ bs) e =
    ⊎_elim (λ e1. ⊎_elim (is_space-ascii b) (at_byte b 47 (omega arith)) (or_cases (is_ascii_whitespace b) (b == 47) e1)) (at_byte b 62 (omega arith)) (or_cases (is_ascii_whitespace b || b == 47) (b == 62) e)

pub ends_attribute_name-ascii : (bytes : List ℕ) → ends_attribute_name bytes ≡ true → slice_index bytes 0 < 128
ends_attribute_name-ascii bytes e = ⊎_elim (ends_name-ascii bytes) (at_byte (slice_index bytes 0) 61 (omega arith)) (or_cases (ends_name bytes) _ e)

pub ends_unquoted_value-ascii : (bytes : List ℕ) → ends_unquoted_value bytes ≡ true → slice_index bytes 0 < 128
ends_unquoted_value-ascii [] e = omega arith
ends_unquoted_value-ascii (b ∷ bs) e = ⊎_elim (is_space-ascii b) (at_byte b 62 (omega arith)) (or_cases (is_ascii_whitespace b) (b == 62) e)

-- what begins with a text begins with its first byte
pub begins-first : (t : ℕ) (ts bytes : List ℕ) → begins (t ∷ ts) bytes ≡ true → slice_index bytes 0 ≡ t
begins-first t ts [] e = cc
begins-first t ts (b ∷ bs) e = eqb-true b t (and_parts (b == t) _ e).0

pub begins-ascii : (t : ℕ) (ts bytes : List ℕ) → t < 128 → begins (t ∷ ts) bytes ≡ true → slice_index bytes 0 < 128
begins-ascii t ts bytes h e = omega (arith, begins-first t ts bytes e)

pub ends_comment-ascii : (bytes : List ℕ) → ends_comment bytes ≡ true → slice_index bytes 0 < 128
ends_comment-ascii bytes e = begins-ascii 45 (45 ∷ 62 ∷ []) bytes (omega arith) e

pub is_bogus_comment-ascii : (bytes : List ℕ) → is_bogus_comment bytes ≡ true → slice_index bytes 0 < 128
is_bogus_comment-ascii bytes e =
    ⊎_elim (λ f. ⊎_elim (begins-ascii 60 (33 ∷ []) bytes (omega arith)) (begins-ascii 60 (63 ∷ []) bytes (omega arith)) (or_cases (begins (codes "<!") bytes) (begins (codes "<?") bytes) f))
    (λ f. begins-ascii 60 (47 ∷ []) bytes (omega arith) (and_parts (begins (codes "</") bytes) _ (and_parts _ _ f).0).0) (or_cases (begins (codes "<!") bytes || begins (codes "<?") bytes) _ e)

pub opens-ascii : (bytes : List ℕ) → opens bytes ≡ true → slice_index bytes 0 < 128
opens-ascii bytes e =
    ⊎_elim
    (λ e1. ⊎_elim (λ f. at_byte (slice_index bytes 0) 60 (omega arith) (and_parts (slice_index bytes 0 == 60) _ f).0)
    (λ f. begins-ascii 60 (47 ∷ []) bytes (omega arith) (and_parts (begins (codes "</") bytes) _ f).0) (or_cases (is_start bytes) (is_end bytes) e1))
    (is_bogus_comment-ascii bytes) (or_cases (is_start bytes || is_end bytes) (is_bogus_comment bytes) e)

pub ends_raw_text-ascii : (name bytes : List ℕ) → ends_raw_text name bytes ≡ true → slice_index bytes 0 < 128
ends_raw_text-ascii name bytes e = begins-ascii 60 (47 ∷ []) bytes (omega arith) (and_parts (begins (codes "</") bytes) _ (and_parts _ _ e).0).0

pub quote-ascii : (quote : ℕ) (bytes : List ℕ) → (is_quote quote && slice_index bytes 0 == quote) ≡ true → slice_index bytes 0 < 128
quote-ascii quote bytes e =
    let parts = and_parts (is_quote quote) (slice_index bytes 0 == quote) e in
    let q : quote < 128 = ⊎_elim (at_byte quote 34 (omega arith)) (at_byte quote 39 (omega arith)) (or_cases (quote == 34) (quote == 39) parts.0) in
    omega (arith, eqb-true _ _ parts.1)
