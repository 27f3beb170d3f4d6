-- The attributes of a text: the first one, and those behind it.
use Rattle.std.proofs.Common.{◌≡◌, ℕ, zero, suc, ◌+◌, ◌-◌, ◌<◌, true, false, List, [], ◌∷◌, length, drop, map, refl, arith, ap, ◌∙◌}
use Rattle.std.specs.Prelude.{slice_index, ◌==◌}
use Rattle.std.proofs.lemmas.Bool.{cond_both}
use Rattle.html_meaning.specs.Bytes.{up_to}
use Rattle.html_meaning.specs.Tokens.{Attribute, attribute, attributes, attribute_pairs, with_value, is_between, is_quote, more_in_tag, ends_attribute_name, no_space}

-- an attribute takes at least one byte
value_some : (name text : List ℕ) (before : ℕ) → 0 < before → 0 < (with_value name before text).size
value_some name text before h = cond_both (is_quote (slice_index text 0)) _ _ (λ (a : Attribute). 0 < a.size) (λ _. omega arith) (λ _. omega arith)

pub attribute_some : (bytes : List ℕ) → 0 < (attribute bytes).size
attribute_some bytes =
    let named = suc (up_to ends_attribute_name (drop 1 bytes)) in
    let equals = named + up_to no_space (drop named bytes) in
    let value = suc equals + up_to no_space (drop (suc equals) bytes) in
    cond_both (slice_index (drop equals bytes) 0 == 61) _ _ (λ (a : Attribute). 0 < a.size) (λ _. value_some _ (drop value bytes) value (omega arith)) (λ _. omega arith)

attributes_skip : (k : ℕ) (bytes : List ℕ) → attributes k bytes ≡ attributes 0 (drop k bytes)
attributes_skip zero bytes = refl
attributes_skip (suc k) [] = refl
attributes_skip (suc k) (b ∷ bs) = attributes_skip k bs

-- a byte between attributes is part of none
pub pairs_between : (bytes : List ℕ) → 0 < length bytes → is_between (slice_index bytes 0) ≡ true → attribute_pairs bytes ≡ attribute_pairs (drop 1 bytes)
pairs_between [] h e = refl
pairs_between (b ∷ bs) h e = rw e refl

-- the first attribute, and those behind it
pub pairs_first : (bytes : List ℕ) → 0 < length bytes → is_between (slice_index bytes 0) ≡ false
    → attribute_pairs bytes ≡ ((attribute bytes).name, (attribute bytes).value) ∷ attribute_pairs (drop (attribute bytes).size bytes)
pairs_first [] h e = absurd (omega arith)
pairs_first (b ∷ bs) h e =
    let a = attribute (b ∷ bs) in
    let size : suc (a.size - 1) ≡ a.size = omega (arith, attribute_some (b ∷ bs)) in
    let more : more_in_tag (b ∷ bs) ≡ a.size - 1 = rw e refl in
    let rest : attributes (more_in_tag (b ∷ bs)) bs ≡ attributes 0 (drop a.size (b ∷ bs)) =
    attributes_skip (more_in_tag (b ∷ bs)) bs ∙ ap (λ n. attributes 0 (drop (suc n) (b ∷ bs))) more ∙ ap (λ n. attributes 0 (drop n (b ∷ bs))) size in
    let all : attributes 0 (b ∷ bs) ≡ a ∷ attributes (more_in_tag (b ∷ bs)) bs = rw e refl in
    ap (map (λ (x : Attribute). (x.name, x.value))) (all ∙ ap (λ xs. a ∷ xs) rest)

-- the same of what was found
pub pairs_found : (bytes name value rest : List ℕ) → 0 < length bytes → is_between (slice_index bytes 0) ≡ false
    → name ≡ (attribute bytes).name → value ≡ (attribute bytes).value → rest ≡ drop (attribute bytes).size bytes
    → attribute_pairs bytes ≡ (name, value) ∷ attribute_pairs rest
pairs_found bytes name value rest h e n v r = rw (n, v, r) (pairs_first bytes h e)
