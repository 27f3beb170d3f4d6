-- Two names, compared byte by byte in lower case.
use Rattle.std.proofs.Common.{◌≡◌, ℕ, zero, suc, ◌+◌, ◌<◌, ◌≤◌, List, [], ◌∷◌, length, drop, refl, arith, ap, sym, ◌∙◌, drop_of_length-le}
use Rattle.std.specs.Char.{to_ascii_lowercase}
use Rattle.std.specs.Cmp.Lexicographic.{slice_cmp}
use Rattle.std.specs.declared.cmp.Ordering.{Ordering}
use Rattle.std.specs.declared.cmp.Ordering.TheVariants.{Less, Equal, Greater}
use Rattle.std.specs.Ordering.{nat_cmp, ordering_then}
use Rattle.std.specs.Prelude.{slice_index}
use Rattle.std.specs.Str.{str_to_ascii_lowercase}
use Rattle.html_tree.proofs.Counts.{lower-long}

cmp_next : (i : ℕ) (a b : List ℕ) → i < length a → i < length b
    → slice_cmp nat_cmp (drop i (str_to_ascii_lowercase a)) (drop i (str_to_ascii_lowercase b))
    ≡ ordering_then (nat_cmp (to_ascii_lowercase (slice_index a i)) (to_ascii_lowercase (slice_index b i)))
    (slice_cmp nat_cmp (drop (suc i) (str_to_ascii_lowercase a)) (drop (suc i) (str_to_ascii_lowercase b)))
cmp_next i [] b h k = absurd (omega (arith, h))
cmp_next i (x ∷ a) [] h k = absurd (omega (arith, k))
cmp_next zero (x ∷ a) (y ∷ b) h k = refl
cmp_next (suc i) (x ∷ a) (y ∷ b) h k = cmp_next i a b (omega (arith, h)) (omega (arith, k))

-- a pair of bytes that decides, and one that doesn't
pub cmp_decided : (i : ℕ) (a b : List ℕ) (o whole : Ordering) → i < length a → i < length b
    → o ≡ nat_cmp (to_ascii_lowercase (slice_index a i)) (to_ascii_lowercase (slice_index b i))
    → slice_cmp nat_cmp (drop i (str_to_ascii_lowercase a)) (drop i (str_to_ascii_lowercase b)) ≡ whole
    → ((rest : Ordering) → ordering_then o rest ≡ o) → o ≡ whole
cmp_decided i a b o whole h k e w t =
    let rest = slice_cmp nat_cmp (drop (suc i) (str_to_ascii_lowercase a)) (drop (suc i) (str_to_ascii_lowercase b)) in
    sym (t rest) ∙ ap (λ p. ordering_then p rest) e ∙ sym (cmp_next i a b h k) ∙ w

pub cmp_same : (i : ℕ) (a b : List ℕ) (whole : Ordering) → i < length a → i < length b
    → Equal ≡ nat_cmp (to_ascii_lowercase (slice_index a i)) (to_ascii_lowercase (slice_index b i))
    → slice_cmp nat_cmp (drop i (str_to_ascii_lowercase a)) (drop i (str_to_ascii_lowercase b)) ≡ whole
    → slice_cmp nat_cmp (drop (i + 1) (str_to_ascii_lowercase a)) (drop (i + 1) (str_to_ascii_lowercase b)) ≡ whole
cmp_same i a b whole h k e w =
    let next : i + 1 ≡ suc i = omega arith in
    let rest = slice_cmp nat_cmp (drop (suc i) (str_to_ascii_lowercase a)) (drop (suc i) (str_to_ascii_lowercase b)) in
    ap (λ n. slice_cmp nat_cmp (drop n (str_to_ascii_lowercase a)) (drop n (str_to_ascii_lowercase b))) next
    ∙ ap (λ p. ordering_then p rest) e ∙ sym (cmp_next i a b h k) ∙ w

-- one of them ends before the other, or both end
none_less : (i : ℕ) (b : List ℕ) → i < length b → slice_cmp nat_cmp [] (drop i b) ≡ Less
none_less i [] h = absurd (omega (arith, h))
none_less zero (y ∷ b) h = refl
none_less (suc i) (y ∷ b) h = none_less i b (omega (arith, h))

some_greater : (i : ℕ) (a : List ℕ) → i < length a → slice_cmp nat_cmp (drop i a) [] ≡ Greater
some_greater i [] h = absurd (omega (arith, h))
some_greater zero (x ∷ a) h = refl
some_greater (suc i) (x ∷ a) h = some_greater i a (omega (arith, h))

pub cmp_less : (i : ℕ) (a b : List ℕ) → length a ≤ i → i < length b → slice_cmp nat_cmp (drop i (str_to_ascii_lowercase a)) (drop i (str_to_ascii_lowercase b)) ≡ Less
cmp_less i a b h k =
    let past : length (str_to_ascii_lowercase a) ≤ i = omega (arith, h, lower-long a) in
    let within : i < length (str_to_ascii_lowercase b) = omega (arith, k, lower-long b) in
    ap (λ xs. slice_cmp nat_cmp xs (drop i (str_to_ascii_lowercase b))) (drop_of_length-le (str_to_ascii_lowercase a) past) ∙ none_less i (str_to_ascii_lowercase b) within

pub cmp_greater : (i : ℕ) (a b : List ℕ) → i < length a → length b ≤ i → slice_cmp nat_cmp (drop i (str_to_ascii_lowercase a)) (drop i (str_to_ascii_lowercase b)) ≡ Greater
cmp_greater i a b k h =
    let past : length (str_to_ascii_lowercase b) ≤ i = omega (arith, h, lower-long b) in
    let within : i < length (str_to_ascii_lowercase a) = omega (arith, k, lower-long a) in
    ap (slice_cmp nat_cmp (drop i (str_to_ascii_lowercase a))) (drop_of_length-le (str_to_ascii_lowercase b) past) ∙ some_greater i (str_to_ascii_lowercase a) within

pub cmp_equal : (i : ℕ) (a b : List ℕ) → length a ≤ i → length b ≤ i → slice_cmp nat_cmp (drop i (str_to_ascii_lowercase a)) (drop i (str_to_ascii_lowercase b)) ≡ Equal
cmp_equal i a b h k =
    let pa : length (str_to_ascii_lowercase a) ≤ i = omega (arith, h, lower-long a) in
    let pb : length (str_to_ascii_lowercase b) ≤ i = omega (arith, k, lower-long b) in
    ap (λ xs. slice_cmp nat_cmp xs (drop i (str_to_ascii_lowercase b))) (drop_of_length-le (str_to_ascii_lowercase a) pa)
    ∙ ap (slice_cmp nat_cmp []) (drop_of_length-le (str_to_ascii_lowercase b) pb)
