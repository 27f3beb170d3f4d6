-- The extent of an attribute that the code finds.
use Rattle.std.proofs.Common.{◌≡◌, ℕ, suc, ◌+◌, true, false, List, [], drop, take, refl, arith, ap, ◌∙◌, drop-drop, ◌&&◌}
use Rattle.std.specs.Prelude.{◌==◌, slice_index}
use Rattle.html_meaning.specs.Bytes.{up_to}
use Rattle.html_meaning.specs.Tokens.{attribute, with_value, is_quote, no_space, ends_attribute_name}
use Rattle.html_tokens.specs.Extents.{IsExtent}

pub value_quoted : (name from quote v : ℕ) (bytes : List ℕ) → quote ≡ slice_index (drop from bytes) 0 → is_quote quote ≡ true
    → v ≡ up_to (λ bs. is_quote quote && slice_index bs 0 == quote) (drop 1 (drop from bytes))
    → IsExtent (record { name = name; from = from + 1; value = v; size = from + v + 2 }) (with_value (take name bytes) from (drop from bytes)) bytes
value_quoted name from quote v bytes at q e =
    let w : v ≡ up_to (λ bs. slice_index bs 0 == slice_index (drop from bytes) 0) (drop 1 (drop from bytes)) = rw (← at) (rw q at e) in
    let q2 : is_quote (slice_index (drop from bytes) 0) ≡ true = rw (← at) q in
    rw (q2, ← w) (record { name = refl; value = ap (take v) (drop-drop 1 from bytes ∙ ap (λ n. drop n bytes) (omega arith)); size = refl })

pub attribute_valued : (bytes : List ℕ) (named equals from : ℕ) → named ≡ suc (up_to ends_attribute_name (drop 1 bytes)) → equals ≡ named + up_to no_space (drop named bytes)
    → from ≡ suc equals + up_to no_space (drop (suc equals) bytes) → (slice_index (drop equals bytes) 0 == 61) ≡ true
    → attribute bytes ≡ with_value (take named bytes) from (drop from bytes)
attribute_valued bytes named equals from e1 e2 e3 t =
    let h : (slice_index (drop (suc (up_to ends_attribute_name (drop 1 bytes)) + up_to no_space (drop (suc (up_to ends_attribute_name (drop 1 bytes))) bytes)) bytes) 0 == 61) ≡ true = cc in
    rw h (cc)

pub attribute_plain : (bytes : List ℕ) (named equals : ℕ) → named ≡ suc (up_to ends_attribute_name (drop 1 bytes)) → equals ≡ named + up_to no_space (drop named bytes)
    → (slice_index (drop equals bytes) 0 == 61) ≡ false
    → attribute bytes ≡ record { name = take named bytes; value = []; size = named }
attribute_plain bytes named equals e1 e2 t =
    let h : (slice_index (drop (suc (up_to ends_attribute_name (drop 1 bytes)) + up_to no_space (drop (suc (up_to ends_attribute_name (drop 1 bytes))) bytes)) bytes) 0 == 61) ≡ false = cc in
    rw h (rw (← e1) refl)
