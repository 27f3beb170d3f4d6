-- Where a text may be cut around an attribute.
use Rattle.std.specs.Char.{is_ascii_whitespace}
use Rattle.std.proofs.Common.{◌≡◌, ℕ, zero, suc, ◌+◌, ◌-◌, ◌<◌, ◌≤◌, Bool, true, false, cond, not, List, [], ◌∷◌, length, drop, refl, arith, ap, subst, ◌∙◌, ⊎_elim}
use Rattle.std.specs.Prelude.{slice_index, ◌==◌}
use Rattle.std.proofs.lemmas.Bool.{eqb-true, or_cases}
use Rattle.std.specs.Str.{IsUtf8, IsCharBoundary}
use Rattle.std.proofs.lemmas.List.{length-drop, get_or-drop, drop-drop}
use Rattle.std.proofs.lemmas.Str.{IsCharBoundary-start, IsUtf8-drop}
use Rattle.html_meaning.specs.Bytes.{up_to}
use Rattle.html_meaning.specs.Tokens.{no_space, is_quote}
use Rattle.html_tokens.specs.Ascii.{is_space-ascii}
use Rattle.html_tokens.specs.Extents.{AreCuts}
use Rattle.html_tokens.proofs.Cuts.{boundary_behind}

-- before an ASCII byte, and at the end
pub boundary_before : (bytes : List ℕ) (i : ℕ) → i ≤ length bytes → (i < length bytes → slice_index bytes i < 128) → IsCharBoundary bytes i
boundary_before bytes i h a = (h, λ l g. absurd (omega (arith, a l, g)))

counted : (v : Bool) (n k : ℕ) → k < cond (not v) 0 (suc n) → (v ≡ true) × (k < suc n)
counted true n k h = (refl, h)
counted false n k h = absurd (omega (arith, h))

-- the bytes before the first that is no space are ASCII
pub spaces_ascii : (bytes : List ℕ) (k : ℕ) → k < up_to no_space bytes → slice_index bytes k < 128
spaces_ascii [] k h = omega arith
spaces_ascii (b ∷ bs) zero h = is_space-ascii b (counted (is_ascii_whitespace b) (up_to no_space bs) 0 h).0
spaces_ascii (b ∷ bs) (suc k) h = spaces_ascii bs k (omega (arith, (counted (is_ascii_whitespace b) (up_to no_space bs) (suc k) h).1))

-- behind an ASCII byte and white space
pub boundary_behind_spaces : (bytes : List ℕ) (place n : ℕ) → IsUtf8 bytes → 0 < place → place + n ≤ length bytes
    → slice_index bytes (place - 1) < 128 → n ≤ up_to no_space (drop place bytes) → IsCharBoundary bytes (place + n)
boundary_behind_spaces bytes place zero u z h a s =
    let e : place ≡ place + zero = omega arith in
    subst (IsCharBoundary bytes) e (boundary_behind bytes place u z (omega (arith, h)) a)
boundary_behind_spaces bytes place (suc n) u z h a s =
    let at : slice_index (drop place bytes) n ≡ slice_index bytes (place + n) = get_or-drop place bytes n 0 in
    let last : place + suc n - 1 ≡ place + n = omega arith in
    let space = spaces_ascii (drop place bytes) n (omega (arith, s)) in
    boundary_behind bytes (place + suc n) u (omega arith) h (omega (arith, ap (slice_index bytes) last, at, space))

-- a byte that isn't 0 stands within
byte_within : (bytes : List ℕ) (i : ℕ) → 0 < slice_index (drop i bytes) 0 → i < length bytes
byte_within [] zero h = absurd (omega arith)
byte_within [] (suc i) h = absurd (omega arith)
byte_within (b ∷ bs) zero h = omega arith
byte_within (b ∷ bs) (suc i) h = omega (arith, byte_within bs i h)

-- behind the name of an attribute
pub name_boundary : (bytes inner : List ℕ) (r : ℕ) → 0 < length bytes → inner ≡ drop 1 bytes → r ≤ length inner → (r < length inner → slice_index inner r < 128)
    → IsCharBoundary bytes (1 + r)
name_boundary bytes inner r z e w a =
    let long : length inner ≡ length bytes - 1 = ap length e ∙ length-drop 1 bytes in
    let at : slice_index inner r ≡ slice_index bytes (1 + r) = ap (λ bs. slice_index bs r) e ∙ get_or-drop 1 bytes r 0 in
    boundary_before bytes (1 + r) (omega (arith, w, long)) (λ l. omega (arith, at, a (omega (arith, long, l))))

-- behind `=` and white space
pub value_boundary : (bytes : List ℕ) (equals s : ℕ) → IsUtf8 bytes → slice_index (drop equals bytes) 0 ≡ 61 → s ≡ up_to no_space (drop (equals + 1) bytes)
    → s ≤ length (drop (equals + 1) bytes) → IsCharBoundary bytes (equals + 1 + s)
value_boundary bytes equals s u e n w =
    let within = byte_within bytes equals (omega (arith, e)) in
    let at : slice_index (drop equals bytes) 0 ≡ slice_index bytes (equals + 0) = get_or-drop equals bytes 0 0 in
    let same : equals + 0 ≡ equals + 1 - 1 = omega arith in
    boundary_behind_spaces bytes (equals + 1) s u (omega arith) (omega (arith, within, w, length-drop (equals + 1) bytes))
    (omega (arith, e, at, ap (slice_index bytes) same)) (omega (arith, n))

-- where a quote stands
pub quote_within : (bytes : List ℕ) (from q : ℕ) → q ≡ slice_index (drop from bytes) 0 → is_quote q ≡ true → (from < length bytes) × (slice_index bytes from < 128)
quote_within bytes from q e t =
    let at : slice_index (drop from bytes) 0 ≡ slice_index bytes (from + 0) = get_or-drop from bytes 0 0 in
    let same : from + 0 ≡ from = omega arith in
    let either : (0 < q) × (q < 128) =
    ⊎_elim (λ f. (omega (arith, eqb-true q 34 f), omega (arith, eqb-true q 34 f))) (λ f. (omega (arith, eqb-true q 39 f), omega (arith, eqb-true q 39 f))) (or_cases (q == 34) (q == 39) t) in (
      byte_within bytes from (omega (arith, e, either.0)),
      omega (arith, e, at, ap (slice_index bytes) same, either.1),
    )

-- a value in quotes
pub quoted_cuts : (bytes : List ℕ) (name from v : ℕ) → IsUtf8 bytes → IsCharBoundary bytes name → from < length bytes → slice_index bytes from < 128
    → v ≤ length (drop 1 (drop from bytes)) → (v < length (drop 1 (drop from bytes)) → slice_index (drop 1 (drop from bytes)) v < 128)
    → AreCuts (record { name = name; from = from + 1; value = v; size = from + v + 2 }) bytes
quoted_cuts bytes name from v u n h q w a =
    let inner : drop 1 (drop from bytes) ≡ drop (from + 1) bytes = drop-drop 1 from bytes in
    let long : length (drop 1 (drop from bytes)) ≡ length bytes - from - 1 = omega (arith, length-drop 1 (drop from bytes), length-drop from bytes) in
    let same : from + 1 - 1 ≡ from = omega arith in
    let at : slice_index (drop 1 (drop from bytes)) v ≡ slice_index bytes (from + 1 + v) = ap (λ bs. slice_index bs v) inner ∙ get_or-drop (from + 1) bytes v 0 in
    let last : from + v + 2 - 1 ≡ from + 1 + v = omega arith in
    record {
      name = n;
      from = boundary_behind bytes (from + 1) u (omega arith) (omega arith) (omega (arith, ap (slice_index bytes) same, q));
      value = subst (λ bs. IsCharBoundary bs v) inner (boundary_before (drop 1 (drop from bytes)) v w a);
      size = λ s. boundary_behind bytes (from + v + 2) u (omega arith) s (omega (arith, ap (slice_index bytes) last, at, a (omega (arith, long))));
    }

-- a value without quotes
pub unquoted_cuts : (bytes : List ℕ) (name from v : ℕ) → IsCharBoundary bytes name → IsCharBoundary bytes from
    → v ≤ length (drop from bytes) → (v < length (drop from bytes) → slice_index (drop from bytes) v < 128)
    → AreCuts (record { name = name; from = from; value = v; size = from + v }) bytes
unquoted_cuts bytes name from v n f w a =
    let long = length-drop from bytes in
    let at : slice_index (drop from bytes) v ≡ slice_index bytes (from + v) = get_or-drop from bytes v 0 in
    record {
      name = n;
      from = f;
      value = boundary_before (drop from bytes) v w a;
      size = λ s. boundary_before bytes (from + v) s (λ l. omega (arith, at, a (omega (arith, long))));
    }

-- no value
pub valueless_cuts : (bytes : List ℕ) (name : ℕ) → IsUtf8 bytes → IsCharBoundary bytes name → AreCuts (record { name = name; from = name; value = 0; size = name }) bytes
valueless_cuts bytes name u n =
    record { name = n; from = n; value = IsCharBoundary-start (drop name bytes) (IsUtf8-drop bytes name u n); size = λ s. n }
