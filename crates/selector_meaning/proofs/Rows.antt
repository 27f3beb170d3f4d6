-- The rows of hidden elements, one more at a time.
use Rattle.std.proofs.Common.{◌≡◌, ℕ, suc, ◌+◌, Bool, true, false, cond, List, [], ◌∷◌, ◌++◌, length, refl, ap, ap₂, ◌∙◌, arith}
use Rattle.selector_meaning.specs.Hidden.{places_from, with_row, rows_of}

-- a place before others
cond-append : (b : Bool) (n : ℕ) (all front back : List ℕ) → all ≡ front ++ back → cond b (n ∷ all) all ≡ cond b (n ∷ front) front ++ back
cond-append true n all front back h = ap (λ ns. n ∷ ns) h
cond-append false n all front back h = h

-- the places in two lists of items, one behind the other
pub places_from-append : {F : Type 0} (n : ℕ) (test : F → Bool) (xs ys : List F) → places_from n test (xs ++ ys) ≡ places_from n test xs ++ places_from (n + length xs) test ys
places_from-append n test [] ys = ap (λ m. places_from m test ys) (omega arith)
places_from-append n test (x ∷ xs) ys =
    cond-append (test x) n (places_from (suc n) test (xs ++ ys)) (places_from (suc n) test xs) (places_from (n + length (x ∷ xs)) test ys)
    (places_from-append (suc n) test xs ys ∙ ap (λ m. places_from (suc n) test xs ++ places_from m test ys) (omega arith))

-- a row goes before the others
pub with_row-append : (x : ℕ) (places : List ℕ) (rows more : List (ℕ × List ℕ)) → with_row x places (rows ++ more) ≡ with_row x places rows ++ more
with_row-append x [] rows more = refl
with_row-append x (place ∷ places) rows more = refl

-- the rows of elements in two lists, one behind the other
pub rows_of-append : {F : Type 0} (chooses : F → ℕ → Bool) (items : List F) (xs ys : List ℕ) → rows_of chooses items (xs ++ ys) ≡ rows_of chooses items xs ++ rows_of chooses items ys
rows_of-append chooses items [] ys = refl
rows_of-append chooses items (x ∷ xs) ys =
    let places = places_from 0 (λ item. chooses item x) items in
    ap (with_row x places) (rows_of-append chooses items xs ys) ∙ with_row-append x places (rows_of chooses items xs) (rows_of chooses items ys)

-- one more element: its row goes behind the others, if it has places
pub rows_of-push : {F : Type 0} (chooses : F → ℕ → Bool) (items : List F) (xs : List ℕ) (x : ℕ) →
    rows_of chooses items (xs ++ x ∷ []) ≡ rows_of chooses items xs ++ with_row x (places_from 0 (λ item. chooses item x) items) []
rows_of-push chooses items xs x = rows_of-append chooses items xs (x ∷ [])

-- items that choose alike give the same places
pub places_from-alike : {F : Type 0} (n : ℕ) (p q : F → Bool) (items : List F) → ((f : F) → p f ≡ q f) → places_from n p items ≡ places_from n q items
places_from-alike n p q [] h = refl
places_from-alike n p q (f ∷ fs) h = ap₂ (λ b ns. cond b (n ∷ ns) ns) (h f) (places_from-alike (suc n) p q fs h)
