-- Of attributes with equal names the first.
use Rattle.std.proofs.Common.{◌≡◌, ℕ, zero, suc, ◌+◌, ◌<◌, ◌≤◌, Bool, true, false, cond, not, ◌||◌, List, [], ◌∷◌, ◌++◌, length, drop, take, get_or, map, min, drop_of_length-le, refl, arith, ap, sym, ◌∙◌, add-one, append_assoc, None, ⊎_elim, take-append-drop}
use Rattle.std.proofs.lemmas.Bool.{cases_Bool, false_from_ne_true, or_left, or_right, cond-true, cond-false, both_ways}
use Rattle.std.proofs.lemmas.List.{map-append, take-map, length-map, length-append, drop_min, drop-append-le}
use Rattle.std.proofs.lemmas.Bool.Decides.{same_from_decides}
use Rattle.std.proofs.lemmas.Slice.Eq.{bytes_eq-Decides}
use Rattle.std.proofs.lemmas.Str.Ascii.{lowercase-lowercase}
use Rattle.std.specs.Char.{to_ascii_lowercase}
use Rattle.std.specs.Str.{bytes_eq, str_to_ascii_lowercase}
use Rattle.page_tree.specs.Forest.{value_at}
use Rattle.page_tree.specs.Trees.{AreAttributes, IsLowerCase}
use Rattle.html_meaning.specs.Bytes.{is_among}
use Rattle.html_meaning.specs.Tokens.{attribute_pairs}
use Rattle.html_meaning.specs.Page.{firsts, element_attributes}
use Rattle.html_tree.specs.declared.attributes.TheConstants.{FEW}
use Rattle.std.proofs.lemmas.Map.Text.{is_eq-slice_cmp}
use Rattle.std.specs.BTreeMap.{is_at}
use Rattle.std.specs.BTreeSet.{BTreeSet, contains}
use Rattle.std.specs.Cmp.Lexicographic.{slice_cmp}
use Rattle.std.specs.Ordering.{nat_cmp, on}
use Rattle.html_tree.specs.declared.spelled.SpelledName.{SpelledName}
use Rattle.html_tree.specs.Spelled.{lower_of}
use Rattle.html_tree.specs.LaterNames.{names_in, as_read, AreLater}

-- only which names were seen counts
pub firsts_alike : (seen other : List (List ℕ)) (attrs : List (List ℕ × List ℕ)) → ((q : List ℕ) → is_among q seen ≡ is_among q other) → firsts seen attrs ≡ firsts other attrs
firsts_alike seen other [] h = refl
firsts_alike seen other (a ∷ attrs) h =
    let more : (q : List ℕ) → is_among q (a.0 ∷ seen) ≡ is_among q (a.0 ∷ other) = λ q. ap (λ b. bytes_eq q a.0 || b) (h q) in
    rw (h a.0, firsts_alike seen other attrs h, firsts_alike (a.0 ∷ seen) (a.0 ∷ other) attrs more) refl

pub among_append : (q : List ℕ) (xs ys : List (List ℕ)) → is_among q (xs ++ ys) ≡ (is_among q xs || is_among q ys)
among_append q [] ys = refl
among_append q (x ∷ xs) ys = elim (bytes_eq q x) as (λ b. (b || is_among q (xs ++ ys)) ≡ ((b || is_among q xs) || is_among q ys)) [ true ↦ refl | false ↦ among_append q xs ys ]

or_swap : (a b : Bool) → (a || b) ≡ (b || (a || false))
or_swap true true = refl
or_swap true false = refl
or_swap false true = refl
or_swap false false = refl

or_back : (a b : Bool) → cond a true b ≡ (b || (a || false))
or_back true true = refl
or_back true false = refl
or_back false true = refl
or_back false false = refl

bytes_eq-swap : (xs ys : List ℕ) → bytes_eq xs ys ≡ bytes_eq ys xs
bytes_eq-swap xs ys =
    let d = bytes_eq-Decides ys xs in
    same_from_decides (bytes_eq xs ys) (bytes_eq ys xs) (bytes_eq-Decides xs ys) (λ e. sym (d.0 e), λ e. d.1 (sym e))

-- an attribute whose name is new, and one whose name isn't
pub firsts_new : (made : List (List ℕ × List ℕ)) (a : List ℕ × List ℕ) (attrs : List (List ℕ × List ℕ)) → is_among a.0 (names_in made) ≡ false
    → made ++ firsts (names_in made) (a ∷ attrs) ≡ (made ++ a ∷ []) ++ firsts (names_in (made ++ a ∷ [])) attrs
firsts_new made a attrs e =
    let names : names_in (made ++ a ∷ []) ≡ names_in made ++ a.0 ∷ [] = map-append (λ (a : List ℕ × List ℕ). a.0) made (a ∷ []) in
    let alike : firsts (a.0 ∷ names_in made) attrs ≡ firsts (names_in made ++ a.0 ∷ []) attrs =
    firsts_alike (a.0 ∷ names_in made) (names_in made ++ a.0 ∷ []) attrs (λ q. or_swap (bytes_eq q a.0) (is_among q (names_in made)) ∙ sym (among_append q (names_in made) (a.0 ∷ []))) in
    ap (λ x. made ++ x) (cond-false (is_among a.0 (names_in made)) (firsts (names_in made) attrs) (a ∷ firsts (a.0 ∷ names_in made) attrs) e ∙ ap (λ x. a ∷ x) alike)
    ∙ sym (append_assoc made (a ∷ []) (firsts (names_in made ++ a.0 ∷ []) attrs))
    ∙ ap (λ n. (made ++ a ∷ []) ++ firsts n attrs) (sym names)

pub firsts_old : (made : List (List ℕ × List ℕ)) (a : List ℕ × List ℕ) (attrs : List (List ℕ × List ℕ)) → is_among a.0 (names_in made) ≡ true
    → made ++ firsts (names_in made) (a ∷ attrs) ≡ made ++ firsts (names_in made) attrs
firsts_old made a attrs e = ap (λ x. made ++ x) (cond-true (is_among a.0 (names_in made)) (firsts (names_in made) attrs) (a ∷ firsts (a.0 ∷ names_in made) attrs) e)

-- names are in lower case and distinct

pub firsts_absent : (q : List ℕ) (seen : List (List ℕ)) (attrs : List (List ℕ × List ℕ)) → is_among q seen ≡ true → value_at q (firsts seen attrs) ≡ None
firsts_absent q seen [] h = refl
firsts_absent q seen (a ∷ attrs) h =
    ⊎_elim
    (λ t. ap (value_at q) (cond-true (is_among a.0 seen) (firsts seen attrs) (a ∷ firsts (a.0 ∷ seen) attrs) t) ∙ firsts_absent q seen attrs h)
    (λ f. (let other : bytes_eq a.0 q ≡ false = false_from_ne_true _ (λ t. both_ways (is_among a.0 seen) f (ap (λ n. is_among n seen) ((bytes_eq-Decides a.0 q).0 t) ∙ h)) in
    ap (value_at q) (cond-false (is_among a.0 seen) (firsts seen attrs) (a ∷ firsts (a.0 ∷ seen) attrs) f)
    ∙ rw other (firsts_absent q (a.0 ∷ seen) attrs (or_right (bytes_eq q a.0) (is_among q seen) h))))
    (cases_Bool (is_among a.0 seen))

pub lower_twice : (name : List ℕ) → IsLowerCase (str_to_ascii_lowercase name)
lower_twice [] = refl
lower_twice (b ∷ name) = rw (lowercase-lowercase b) (ap (λ rest. to_ascii_lowercase b ∷ rest) (lower_twice name))

pub firsts_attributes : (seen : List (List ℕ)) (pairs : List (List ℕ × List ℕ)) → AreAttributes (firsts seen (map as_read pairs))
firsts_attributes seen [] = tt
firsts_attributes seen (p ∷ pairs) =
    let name = str_to_ascii_lowercase p.0 in
    let rest = map as_read pairs in
    elim (is_among name seen) as (λ b. AreAttributes (cond b (firsts seen rest) (as_read p ∷ firsts (name ∷ seen) rest))) [
      | true ↦ firsts_attributes seen pairs
      | false ↦ (lower_twice p.0, firsts_absent name (name ∷ seen) rest (or_left _ _ ((bytes_eq-Decides name name).1 refl)), firsts_attributes (name ∷ seen) pairs)
    ]

pub element_attributes_are : (text : List ℕ) → AreAttributes (element_attributes text)
element_attributes_are text = firsts_attributes [] (attribute_pairs text)

-- a walk over the names
pub name_next : (q : List ℕ) (attrs : List (List ℕ × List ℕ)) (i : ℕ) (d : List ℕ × List ℕ) → i < length attrs
    → is_among q (drop i (names_in attrs)) ≡ (bytes_eq q (get_or attrs i d).0 || is_among q (drop (suc i) (names_in attrs)))
name_next q [] i d h = absurd (omega (arith, h))
name_next q (a ∷ attrs) zero d h = refl
name_next q (a ∷ attrs) (suc i) d h = name_next q attrs i d (omega (arith, h))

pub name_found : (q : List ℕ) (attrs : List (List ℕ × List ℕ)) (i : ℕ) (d : List ℕ × List ℕ) → i < length attrs → bytes_eq q (get_or attrs i d).0 ≡ true
    → is_among q (drop i (names_in attrs)) ≡ true
name_found q attrs i d h e = name_next q attrs i d h ∙ or_left _ _ e

pub name_other : (q : List ℕ) (attrs : List (List ℕ × List ℕ)) (i : ℕ) (d : List ℕ × List ℕ) → i < length attrs → bytes_eq q (get_or attrs i d).0 ≡ false
    → is_among q (drop (i + 1) (names_in attrs)) ≡ is_among q (drop i (names_in attrs))
name_other q attrs i d h e = rw add-one (sym (name_next q attrs i d h ∙ ap (λ b. b || is_among q (drop (suc i) (names_in attrs))) e))

-- the names of the first attributes, and those of the others
pub name_split : (q : List ℕ) (attrs : List (List ℕ × List ℕ)) (n : ℕ) → is_among q (names_in attrs) ≡ (is_among q (names_in (take n attrs)) || is_among q (drop n (names_in attrs)))
name_split q attrs n =
    ap (is_among q) (sym (take-append-drop n (names_in attrs))) ∙ among_append q (take n (names_in attrs)) (drop n (names_in attrs))
    ∙ ap (λ x. is_among q x || is_among q (drop n (names_in attrs))) (take-map (λ (a : List ℕ × List ℕ). a.0) n attrs)

pub has_later : (q : List ℕ) (attrs : List (List ℕ × List ℕ)) (few : ℕ) → few ≡ min (length attrs) FEW → is_among q (names_in (take few attrs)) ≡ false
    → is_among q (drop FEW (names_in attrs)) ≡ is_among q (names_in attrs)
has_later q attrs few e f =
    let swapped : few ≡ min FEW (length (names_in attrs)) = omega (arith, e, length-map attrs (λ (a : List ℕ × List ℕ). a.0)) in
    let same : drop few (names_in attrs) ≡ drop FEW (names_in attrs) = ap (λ n. drop n (names_in attrs)) swapped ∙ drop_min FEW (names_in attrs) in
    sym (name_split q attrs few ∙ ap (λ b. b || is_among q (drop few (names_in attrs))) f ∙ ap (is_among q) same)

pub has_early : (q : List ℕ) (attrs : List (List ℕ × List ℕ)) (few : ℕ) → is_among q (names_in (take few attrs)) ≡ true → is_among q (names_in attrs) ≡ true
has_early q attrs few t = name_split q attrs few ∙ or_left _ _ t

-- a name is one of the first few, or not
drop_short : (n : ℕ) (names : List (List ℕ)) → length names ≤ n → drop n names ≡ []
drop_short n names h = drop_of_length-le names h

pub later_early : (names : List (List ℕ)) (name q : List ℕ) → length names < FEW → is_among q (drop FEW names) ≡ is_among q (drop FEW (names ++ name ∷ []))
later_early names name q h =
    let short : length names ≤ FEW = omega (arith, h) in
    let short2 : length (names ++ name ∷ []) ≤ FEW = omega (arith, h, length-append names (name ∷ [])) in
    ap (is_among q) (drop_short FEW names short ∙ sym (drop_short FEW (names ++ name ∷ []) short2))

pub later_more : (names : List (List ℕ)) (name q : List ℕ) → FEW ≤ length names → cond (bytes_eq name q) true (is_among q (drop FEW names)) ≡ is_among q (drop FEW (names ++ name ∷ []))
later_more names name q h =
    ap (λ b. cond b true (is_among q (drop FEW names))) (bytes_eq-swap name q)
    ∙ or_back (bytes_eq q name) (is_among q (drop FEW names))
    ∙ sym (among_append q (drop FEW names) (name ∷ []))
    ∙ ap (is_among q) (sym (drop-append-le FEW names (name ∷ []) h))

-- a name that is looked up and put into a set: it is new unless it was there
pub later_again : (names : List (List ℕ)) (name q : List ℕ) → is_among name (drop FEW names) ≡ true
    → cond (bytes_eq name q) true (is_among q (drop FEW names)) ≡ is_among q (drop FEW names)
later_again names name q h =
    ⊎_elim
    (λ t. ap (λ b. cond b true (is_among q (drop FEW names))) t ∙ sym (ap (λ n. is_among n (drop FEW names)) (sym ((bytes_eq-Decides name q).0 t)) ∙ h))
    (λ f. ap (λ b. cond b true (is_among q (drop FEW names))) f) (cases_Bool (bytes_eq name q))

pub few_new : (q : List ℕ) (attrs : List (List ℕ × List ℕ)) (few : ℕ) → few ≡ min (length attrs) FEW → length attrs < FEW → is_among q (names_in (take few attrs)) ≡ false
    → is_among q (names_in attrs) ≡ false
few_new q attrs few e h f =
    let short : length (names_in attrs) ≤ FEW = omega (arith, h, length-map attrs (λ (a : List ℕ × List ℕ). a.0)) in
    sym (has_later q attrs few e f) ∙ ap (is_among q) (drop_short FEW (names_in attrs) short)

-- what a set has after this name is put into it
pub inserted : (later next : BTreeSet SpelledName) (names : List (List ℕ)) (name q : SpelledName) → AreLater later names
    → contains (on lower_of (slice_cmp nat_cmp)) next q ≡ cond (is_at (on lower_of (slice_cmp nat_cmp) name) q) true (contains (on lower_of (slice_cmp nat_cmp)) later q)
    → contains (on lower_of (slice_cmp nat_cmp)) next q ≡ cond (bytes_eq (lower_of name) (lower_of q)) true (is_among (lower_of q) (drop FEW names))
inserted later next names name q a e =
    e ∙ ap (λ b. cond b true (contains (on lower_of (slice_cmp nat_cmp)) later q)) (is_eq-slice_cmp (lower_of name) (lower_of q))
    ∙ ap (λ b. cond (bytes_eq (lower_of name) (lower_of q)) true b) (a q)

pub not_false : (b : Bool) → false ≡ not b → b ≡ true
not_false true e = refl
not_false false e = cc

pub not_true : (b : Bool) → true ≡ not b → b ≡ false
not_true true e = cc
not_true false e = refl
