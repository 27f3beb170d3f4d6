-- Numbers and references at the front of a text.
use Rattle.std.proofs.Common.{◌≡◌, ◌≢◌, ℕ, zero, suc, ◌+◌, ◌-◌, ◌*◌, ◌<◌, ◌≤◌, ◌⊎◌, ⊎_elim, inl, inr, min, Bool, true, false, cond, not, ◌&&◌, ◌||◌, List, [], ◌∷◌, ◌++◌, length, drop, take, refl, arith, ap, sym, ◌∙◌, subst, Some, None, codes, append_assoc, nat_lt, add-one}
use Rattle.std.proofs.lemmas.Bool.{cases_Bool, cond-true, and_from, and_parts, or_right, lt-ltb, ltb-true, ltb-false, eqb-true, eq-eqb, ne_eqb}
use Rattle.std.proofs.lemmas.List.{get_or-drop, length-drop}
use Rattle.std.proofs.Math.Seq.{take-suc}
use Rattle.std.specs.Prelude.{◌==◌, slice_index, encode_utf8}
use Rattle.std.specs.Int.{is_in_range}
use Rattle.std.specs.Char.{is_ascii_digit, is_ascii_hexdigit}
use Rattle.memchr.specs.Find.{NoneBefore, Nowhere, Passes, is_byte}
use Rattle.html_meaning.specs.Bytes.{up_to, begins}
use Rattle.html_meaning.specs.References.{Reference, reference, named, named_references, numeric, number, character, digit_value, resolved, with_reference}
use Rattle.html_tokens.proofs.Cuts.{begins_at, begins_long}
use Rattle.html_tokens.proofs.Far.{passes, stops}
use Rattle.html_tree.specs.declared.references.Base.{Base}
use Rattle.html_tree.specs.declared.references.Base.TheVariants.{Decimal, Hexadecimal}
use Rattle.html_tree.specs.Numerals.{radix, is_digit, ends_number, past}

-- numbers

pub number-push : (base so_far : ℕ) (digits : List ℕ) (b : ℕ) → number base so_far (digits ++ b ∷ []) ≡ number base so_far digits * base + digit_value b
number-push base so_far [] b = refl
number-push base so_far (d ∷ digits) b = number-push base (so_far * base + digit_value d) digits b

pub capped_digit : (base : Base) (n d : ℕ) → min past (min past n * radix base + d) ≡ min past (n * radix base + d)
capped_digit Decimal n d = omega arith
capped_digit Hexadecimal n d = omega arith

-- one digit more
pub number_more : (base : Base) (bytes : List ℕ) (count value : ℕ) (d : ℕ) → count < length bytes → value ≡ min past (number (radix base) 0 (take count bytes))
    → min past (value * radix base + digit_value (slice_index bytes count)) ≡ min past (number (radix base) 0 (take (count + 1) bytes))
number_more base bytes count value d h e =
    let n = number (radix base) 0 (take count bytes) in
    let longer : number (radix base) 0 (take (count + 1) bytes) ≡ n * radix base + digit_value (slice_index bytes count) =
    rw add-one (ap (number (radix base) 0) (take-suc bytes count 0 h) ∙ number-push (radix base) 0 (take count bytes) (slice_index bytes count)) in
    ap (λ v. min past (v * radix base + digit_value (slice_index bytes count))) e
    ∙ capped_digit base n (digit_value (slice_index bytes count)) ∙ ap (λ v. min past v) (sym longer)

pub counted_more : (base : Base) (bytes : List ℕ) (count : ℕ) → count < length bytes → is_digit base (slice_index bytes count) ≡ true
    → up_to (ends_number base) bytes ≡ count + up_to (ends_number base) (drop count bytes)
    → up_to (ends_number base) bytes ≡ count + 1 + up_to (ends_number base) (drop (count + 1) bytes)
counted_more base bytes count h t e =
    let at : slice_index (drop count bytes) 0 ≡ slice_index bytes count = get_or-drop count bytes 0 0 ∙ ap (slice_index bytes) (let z : count + 0 ≡ count = omega arith in z) in
    let on : ends_number base (drop count bytes) ≡ false = ap (λ b. not (is_digit base b)) at ∙ ap not t in
    rw add-one (omega (arith, e, passes (ends_number base) bytes count h on))

up_to-nothing : (here : List ℕ → Bool) (rest : List ℕ) → length rest ≤ 0 → up_to here rest ≡ 0
up_to-nothing here [] h = refl
up_to-nothing here (b ∷ bs) h = absurd (omega (arith, h))

pub counted_all : (base : Base) (bytes : List ℕ) (count : ℕ) → length bytes ≤ count → count ≤ length bytes
    → up_to (ends_number base) bytes ≡ count + up_to (ends_number base) (drop count bytes) → count ≡ up_to (ends_number base) bytes
counted_all base bytes count l h e =
    let none : up_to (ends_number base) (drop count bytes) ≡ 0 = up_to-nothing (ends_number base) (drop count bytes) (omega (arith, length-drop count bytes)) in
    omega (arith, e, none)

pub counted_here : (base : Base) (bytes : List ℕ) (count : ℕ) → count < length bytes → is_digit base (slice_index bytes count) ≡ false
    → up_to (ends_number base) bytes ≡ count + up_to (ends_number base) (drop count bytes) → count ≡ up_to (ends_number base) bytes
counted_here base bytes count h t e =
    let at : slice_index (drop count bytes) 0 ≡ slice_index bytes count = get_or-drop count bytes 0 0 ∙ ap (slice_index bytes) (let z : count + 0 ≡ count = omega arith in z) in
    let on : ends_number base (drop count bytes) ≡ true = ap (λ b. not (is_digit base b)) at ∙ ap not t in
    omega (arith, e, stops (ends_number base) bytes count h on)

pub character_capped : (n : ℕ) → character (min past n) ≡ character n
character_capped n =
    ⊎_elim
    (λ t. (let all : min past n ≡ past = omega (arith, ltb-true 1114111 n t) in
    ap character all ∙ sym (cond-true (n == 0 || is_in_range 55296 57343 n || nat_lt 1114111 n) 65533 n (or_right (n == 0 || is_in_range 55296 57343 n) (nat_lt 1114111 n) t))))
    (λ f. (let small : min past n ≡ n = omega (arith, ltb-false 1114111 n f) in ap character small))
    (cases_Bool (nat_lt 1114111 n))

-- a numeric reference, where its digits are counted
pub numeric_found : (base : Base) (before : ℕ) (bytes : List ℕ) (count b value c : ℕ) → count ≡ up_to (ends_number base) (drop before bytes) → 0 < count
    → b ≡ slice_index (drop before bytes) count → b ≡ 59 → value ≡ min past (number (radix base) 0 (take count (drop before bytes))) → c ≡ character value
    → Some (record { stands_for = c; size = before + count + 1 }) ≡ numeric (radix base) (is_digit base) before bytes
numeric_found base before bytes count b value c e z a s v k =
    let inner = drop before bytes in
    let n = up_to (ends_number base) inner in
    let positive : nat_lt 0 n ≡ true = lt-ltb 0 n (omega (arith, e, z)) in
    let place : before + n + 0 ≡ before + count = omega (arith, e) in
    let at : slice_index (drop (before + n) bytes) 0 ≡ 59 =
    get_or-drop (before + n) bytes 0 0 ∙ ap (slice_index bytes) place ∙ sym (get_or-drop before bytes count 0) ∙ sym a ∙ s in
    let test : (nat_lt 0 n && (slice_index (drop (before + n) bytes) 0 == 59)) ≡ true = and_from (nat_lt 0 n) _ positive (eq-eqb _ 59 at) in
    let found : Reference = record { stands_for = character (number (radix base) 0 (take n inner)); size = before + n + 1 } in
    let same : record { stands_for = c; size = before + count + 1 } ≡ found =
    ap (λ x. record { stands_for = x; size = before + count + 1 }) (k ∙ ap character v ∙ character_capped (number (radix base) 0 (take count inner)))
    ∙ ap (λ m. record { stands_for = character (number (radix base) 0 (take m inner)); size = before + m + 1 }) e in
    ap Some same ∙ sym (cond-true (nat_lt 0 n && (slice_index (drop (before + n) bytes) 0 == 59)) (Some found) None test)

-- where a reference ends

-- it takes some bytes, within the text, and ends in `;`
pub record Ends (r : Reference) (bytes : List ℕ) : Type 0 where
  pub some : 0 < r.size
  pub within : r.size ≤ length bytes
  pub last : slice_index bytes (r.size - 1) ≡ 59

cond_split : {A : Type 0} (b : Bool) (x y z : A) → cond b x y ≡ z → ((b ≡ true) × (x ≡ z)) ⊎ ((b ≡ false) × (y ≡ z))
cond_split true x y z e = inl (refl, e)
cond_split false x y z e = inr (refl, e)

none_is_not_some : (r : Reference) → None ≡ Some r → ⊥
none_is_not_some r e = cc

some_is : (x r : Reference) → Some x ≡ Some r → x ≡ r
some_is x r e = cc

byte_within : (bytes : List ℕ) (i : ℕ) → 0 < slice_index bytes i → i < length bytes
byte_within [] i h = absurd (omega arith)
byte_within (b ∷ bs) zero h = omega arith
byte_within (b ∷ bs) (suc i) h = omega (arith, byte_within bs i h)

numeric_ends : (base : ℕ) (is_of : ℕ → Bool) (before : ℕ) (bytes : List ℕ) (r : Reference) → numeric base is_of before bytes ≡ Some r → Ends r bytes
numeric_ends base is_of before bytes r e =
    let n = up_to (λ rest. not (is_of (slice_index rest 0))) (drop before bytes) in
    let found : Reference = record { stands_for = character (number base 0 (take n (drop before bytes))); size = before + n + 1 } in
    ⊎_elim
    (λ t. (let end : slice_index (drop (before + n) bytes) 0 ≡ 59 = eqb-true _ 59 (and_parts (nat_lt 0 n) _ t.0).1 in
    let is : found ≡ r = some_is found r t.1 in
    let place : before + n + 0 ≡ before + n + 1 - 1 = omega arith in
    let last : slice_index bytes (before + n + 1 - 1) ≡ 59 = ap (slice_index bytes) (sym place) ∙ sym (get_or-drop (before + n) bytes 0 0) ∙ end in
    let within = byte_within bytes (before + n + 1 - 1) (omega (arith, last)) in
    subst (λ x. Ends x bytes) is (record { some = omega arith; within = omega (arith, within); last = last })))
    (λ f. absurd (none_is_not_some r f.1))
    (cond_split (nat_lt 0 n && (slice_index (drop (before + n) bytes) 0 == 59)) (Some found) None (Some r) e)

-- all of these names end in `;`
abbrev AllEnd : List (List ℕ × ℕ) → Type 0
AllEnd [] = Unit {0}
AllEnd (n ∷ names) = ((0 < length n.0) × (slice_index n.0 (length n.0 - 1) ≡ 59)) × AllEnd names

named_ends : (bytes : List ℕ) (names : List (List ℕ × ℕ)) (r : Reference) → AllEnd names → named bytes names ≡ Some r → Ends r bytes
named_ends bytes [] r a e = absurd (none_is_not_some r e)
named_ends bytes (n ∷ names) r a e =
    let found : Reference = record { stands_for = n.1; size = length n.0 } in
    ⊎_elim
    (λ t. subst (λ x. Ends x bytes) (some_is found r t.1)
    (record { some = a.0.0; within = begins_long n.0 bytes t.0; last = begins_at n.0 bytes (length n.0 - 1) t.0 (omega (arith, a.0.0)) ∙ a.0.1 }))
    (λ f. named_ends bytes names r a.1 f.1)
    (cond_split (begins n.0 bytes) (Some found) (named bytes names) (Some r) e)

pub reference_ends : (bytes : List ℕ) (r : Reference) → reference bytes ≡ Some r → Ends r bytes
reference_ends bytes r e =
    ⊎_elim (λ t. numeric_ends 16 is_ascii_hexdigit 3 bytes r t.1)
    (λ f. ⊎_elim (λ t. numeric_ends 10 is_ascii_digit 2 bytes r t.1)
    (λ g. named_ends bytes named_references r ((omega arith, refl), ((omega arith, refl), ((omega arith, refl), ((omega arith, refl), ((omega arith, refl), ((omega arith, refl), tt)))))) g.1)
    (cond_split (begins (codes "&#") bytes) (numeric 10 is_ascii_digit 2 bytes) (named bytes named_references) (Some r) f.1))
    (cond_split (begins (codes "&#x") bytes || begins (codes "&#X") bytes) (numeric 16 is_ascii_hexdigit 3 bytes) (cond (begins (codes "&#") bytes) (numeric 10 is_ascii_digit 2 bytes) (named bytes named_references)) (Some r) e)

-- texts

pub resolved_skips : (k : ℕ) (bs : List ℕ) → resolved k bs ≡ resolved 0 (drop k bs)
resolved_skips zero bs = refl
resolved_skips (suc k) [] = refl
resolved_skips (suc k) (b ∷ bs) = resolved_skips k bs

-- no reference begins with another byte than `&`
reference-none : (b : ℕ) (bs : List ℕ) → b ≢ 38 → reference (b ∷ bs) ≡ None
reference-none b bs n = rw (ne_eqb b 38 n) refl

-- text without `&` stands for itself
pub resolved_plain : (n : ℕ) (bs : List ℕ) → n ≤ length bs → ((k : ℕ) → k < n → slice_index bs k ≢ 38) → resolved 0 bs ≡ take n bs ++ resolved 0 (drop n bs)
resolved_plain zero bs h p = refl
resolved_plain (suc n) [] h p = absurd (omega (arith, h))
resolved_plain (suc n) (b ∷ bs) h p =
    rw (reference-none b bs (p 0 (omega arith))) (ap (λ rest. b ∷ rest) (resolved_plain n bs (omega (arith, h)) (λ k l. p (suc k) (omega (arith, l)))))

resolved_all : (bs : List ℕ) → ((k : ℕ) → k < length bs → slice_index bs k ≢ 38) → resolved 0 bs ≡ bs
resolved_all [] p = refl
resolved_all (b ∷ bs) p = rw (reference-none b bs (p 0 (omega arith))) (ap (λ rest. b ∷ rest) (resolved_all bs (λ k l. p (suc k) (omega (arith, l)))))

-- at `&`: a reference, or none
pub resolved_reference : (bs : List ℕ) (r : Reference) → reference bs ≡ Some r → resolved 0 bs ≡ encode_utf8 r.stands_for ++ resolved 0 (drop r.size bs)
resolved_reference [] r e = absurd (let ends = reference_ends [] r e in omega (arith, ends.some, ends.within))
resolved_reference (b ∷ bs) r e =
    let more : suc (r.size - 1) ≡ r.size = omega (arith, (reference_ends (b ∷ bs) r e).some) in
    ap (λ o. with_reference o b (λ skip. resolved skip bs)) e
    ∙ ap (λ rest. encode_utf8 r.stands_for ++ rest) (resolved_skips (r.size - 1) bs ∙ ap (λ n. resolved 0 (drop n (b ∷ bs))) more)

pub resolved_sign : (bs : List ℕ) → slice_index bs 0 ≡ 38 → reference bs ≡ None → resolved 0 bs ≡ 38 ∷ resolved 0 (drop 1 bs)
resolved_sign [] a e = absurd (omega (arith, a))
resolved_sign (b ∷ bs) a e = ap (λ o. with_reference o b (λ skip. resolved skip bs)) e ∙ ap (λ x. x ∷ resolved 0 bs) a

-- the walk over a text
pub front_resolved : (made text rest : List ℕ) (n : ℕ) → made ++ resolved 0 rest ≡ resolved 0 text → n < length rest → ((k : ℕ) → k < n → slice_index rest k ≢ 38)
    → (made ++ take n rest) ++ resolved 0 (drop n rest) ≡ resolved 0 text
front_resolved made text rest n e h p =
    append_assoc made (take n rest) (resolved 0 (drop n rest)) ∙ ap (λ x. made ++ x) (sym (resolved_plain n rest (omega (arith, h)) p)) ∙ e

pub rest_resolved : (made text rest : List ℕ) → made ++ resolved 0 rest ≡ resolved 0 text → ((k : ℕ) → k < length rest → slice_index rest k ≢ 38)
    → made ++ rest ≡ resolved 0 text
rest_resolved made text rest e p = ap (λ x. made ++ x) (sym (resolved_all rest p)) ∙ e

pub some_at_front : (bs : List ℕ) → slice_index bs 0 ≡ 38 → 0 < length bs
some_at_front bs e = byte_within bs 0 (omega (arith, e))

-- where a search for `&` ends
pub sign_found : (hay bs : List ℕ) (k : ℕ) → hay ≡ bs → NoneBefore (Passes (is_byte 38) hay) 0 (length hay) k × Passes (is_byte 38) hay k
    → (k < length bs) × (slice_index bs k ≡ 38) × ((j : ℕ) → j < k → slice_index bs j ≢ 38)
sign_found hay bs k e f =
    subst (λ xs. (k < length xs) × (slice_index xs k ≡ 38) × ((j : ℕ) → j < k → slice_index xs j ≢ 38)) e
    (f.0.high, eqb-true (slice_index hay k) 38 f.1, λ j l s. f.0.before j (omega arith) l (eq-eqb (slice_index hay j) 38 s))

pub no_sign_found : (hay bs : List ℕ) → hay ≡ bs → Nowhere (Passes (is_byte 38) hay) 0 (length hay) → (j : ℕ) → j < length bs → slice_index bs j ≢ 38
no_sign_found hay bs e f =
    subst (λ xs. (j : ℕ) → j < length xs → slice_index xs j ≢ 38) e (λ j l s. f j (omega arith) l (eq-eqb (slice_index hay j) 38 s))
