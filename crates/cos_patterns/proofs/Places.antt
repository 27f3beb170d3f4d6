-- Where a pattern stands in a list.
use Rattle.std.proofs.Common.{◌≡◌, ◌<◌, ◌||◌, ℕ, true, false, List, [], ◌∷◌, ◌++◌, length, Some, None, is_some, arith, refl, ap}
use Rattle.std.proofs.lemmas.Grind.{common_steps}
use Rattle.std.proofs.lemmas.Bool.Decides.{nat_tests}
use Rattle.std.proofs.lemmas.Slice.Eq.{bytes_eq-Decides}
use Rattle.cos_patterns.specs.declared.written.Written.{Written}
use Rattle.cos_patterns.specs.Written.{is_same, is_in, place_of}

-- a pattern is the same as itself
pub same_self : (pattern : Written) → is_same pattern pattern ≡ true
same_self pattern = grind (arith, nat_tests, bytes_eq-Decides pattern.body pattern.body)

-- and as no other
pub same_is : (a b : Written) → is_same a b ≡ true → a ≡ b
same_is a b same = grind (arith, nat_tests, bytes_eq-Decides a.body b.body)

-- a list with one pattern more
pub in_more : (pattern added : Written) (list : List Written) →
    is_in pattern (list ++ added ∷ []) ≡ (is_in pattern list || is_same added pattern)
in_more pattern added [] = grind (arith, common_steps)
in_more pattern added (first ∷ rest) = grind (arith, common_steps, in_more pattern added rest)

-- the added pattern stands in it
pub added_is_in : (pattern : Written) (list : List Written) → is_in pattern (list ++ pattern ∷ []) ≡ true
added_is_in pattern list = grind (arith, in_more pattern pattern list, same_self pattern)

-- a pattern has a place where it stands in the list
pub has_place : (pattern : Written) (list : List Written) → is_some (place_of pattern list) ≡ is_in pattern list
has_place pattern [] = refl
has_place pattern (first ∷ rest) = grind (arith, common_steps, has_place pattern rest)

-- and none elsewhere
pub no_place : (pattern : Written) (list : List Written) → is_in pattern list ≡ false → place_of pattern list ≡ None
no_place pattern list new = grind (arith, common_steps, has_place pattern list)

-- the place is within the list
pub place_within : (pattern : Written) (list : List Written) (place : ℕ) → place_of pattern list ≡ Some place → place < length list
place_within pattern [] place is = grind (arith, common_steps)
place_within pattern (first ∷ rest) place is = grind (arith, common_steps, place_within pattern rest)

-- behind a list without it the pattern has the next place
pub place_at_end : (pattern : Written) (list : List Written) → is_in pattern list ≡ false →
    place_of pattern (list ++ pattern ∷ []) ≡ Some (length list)
place_at_end pattern [] new = rw (same_self pattern) refl
place_at_end pattern (first ∷ rest) new =
    let not_first : is_same first pattern ≡ false = grind (arith, common_steps) in
    let not_rest : is_in pattern rest ≡ false = grind (arith, common_steps) in
    rw (not_first, place_at_end pattern rest not_rest) (ap Some (omega arith))
