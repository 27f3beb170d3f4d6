-- What a tag leaves of the open elements, by their names.
use Rattle.std.proofs.Common.{◌≡◌, ℕ, zero, suc, Bool, true, false, List, [], ◌∷◌, length, drop, map, refl, arith, ap, sym, ◌∙◌, Some}
use Rattle.std.proofs.lemmas.List.{take_all, length-map}
use Rattle.std.specs.List.{list_any, list_all, slice_get}
use Rattle.std.specs.Str.{bytes_eq}
use Rattle.html_meaning.specs.Bytes.{is_among}
use Rattle.html_meaning.specs.Elements.{implied_ends}
use Rattle.html_meaning.specs.Page.{OpenElement, Opens, Ends, Leaf, Nothing}
use Rattle.html_tree.specs.Chain.{Leaves}
use Rattle.html_tree.proofs.Closing.{start_leaves, start_leaves_none, end_leaves, end_leaves_all}
use Rattle.html_tree.proofs.Fronts.{all_left}

abbrev name_of : OpenElement → List ℕ
name_of o = o.name

-- the element whose name stands at a place
pub at_name : (elements : List OpenElement) (k : ℕ) (z : List ℕ) → slice_get (map name_of elements) k ≡ Some z → (o : OpenElement) × (slice_get elements k ≡ Some o) × (o.name ≡ z)
at_name [] k z e = cc
at_name (o ∷ elements) zero z e = (o, refl, cc)
at_name (o ∷ elements) (suc k) z e = at_name elements k z e

pub all_named : (t : List ℕ → Bool) (elements : List OpenElement) (k : ℕ) → list_all (λ o. t o.name) (drop k elements) ≡ list_all t (drop k (map name_of elements))
all_named t [] zero = refl
all_named t [] (suc k) = refl
all_named t (o ∷ elements) zero = rw (all_named t elements 0) refl
all_named t (o ∷ elements) (suc k) = all_named t elements k

pub any_named : (t : List ℕ → Bool) (elements : List OpenElement) (k : ℕ) → list_any (λ o. t o.name) (drop k elements) ≡ list_any t (drop k (map name_of elements))
any_named t [] zero = refl
any_named t [] (suc k) = refl
any_named t (o ∷ elements) zero = rw (any_named t elements 0) refl
any_named t (o ∷ elements) (suc k) = any_named t elements k

-- the last one that stays by a start tag's row, or none
pub start_leaves_names : (name : List ℕ) (holds : Bool) (names : List (List ℕ)) (k : ℕ) (z : List ℕ) → slice_get names k ≡ Some z → is_among z (implied_ends name) ≡ false
    → list_all (λ n. is_among n (implied_ends name)) (drop (suc k) names) ≡ true → Leaves (Opens name holds) names (suc k)
start_leaves_names name holds names k z e f a elements known =
    let t : List ℕ → Bool = λ n. is_among n (implied_ends name) in
    let found = at_name elements k z (ap (λ ns. slice_get ns k) known.named ∙ e) in
    start_leaves (λ o. t o.name) elements k found.0 known.rises found.1 (ap t found.2 ∙ f) (all_named t elements (suc k) ∙ ap (λ ns. list_all t (drop (suc k) ns)) known.named ∙ a)

pub start_leaves_none_named : (name : List ℕ) (holds : Bool) (names : List (List ℕ)) → list_all (λ n. is_among n (implied_ends name)) names ≡ true → Leaves (Opens name holds) names 0
start_leaves_none_named name holds names a elements known =
    let t : List ℕ → Bool = λ n. is_among n (implied_ends name) in
    start_leaves_none (λ o. t o.name) elements known.rises (all_named t elements 0 ∙ ap (λ ns. list_all t ns) known.named ∙ a)

-- the last one of an end tag's name, or none
pub end_leaves_names : (name : List ℕ) (names : List (List ℕ)) (k : ℕ) (z : List ℕ) → slice_get names k ≡ Some z → bytes_eq z name ≡ true
    → list_any (λ n. bytes_eq n name) (drop (suc k) names) ≡ false → Leaves (Ends name) names k
end_leaves_names name names k z e f a elements known =
    let t : List ℕ → Bool = λ n. bytes_eq n name in
    let found = at_name elements k z (ap (λ ns. slice_get ns k) known.named ∙ e) in
    end_leaves (λ o. t o.name) elements k found.0 known.rises found.1 (ap t found.2 ∙ f) (any_named t elements (suc k) ∙ ap (λ ns. list_any t (drop (suc k) ns)) known.named ∙ a)

pub end_leaves_all_named : (name : List ℕ) (names : List (List ℕ)) (count : ℕ) → count ≡ length names → list_any (λ n. bytes_eq n name) names ≡ false → Leaves (Ends name) names count
end_leaves_all_named name names count l a elements known =
    let t : List ℕ → Bool = λ n. bytes_eq n name in
    let long : count ≡ length elements = omega (arith, l, length-map elements name_of, ap length known.named) in
    end_leaves_all (λ o. t o.name) elements (any_named t elements 0 ∙ ap (λ ns. list_any t ns) known.named ∙ a) ∙ sym (take_all count elements (omega arith))

-- what is no tag leaves all
pub leaf_leaves_all : (names : List (List ℕ)) (count : ℕ) → count ≡ length names → Leaves Leaf names count
leaf_leaves_all names count l elements known =
    let long : count ≡ length elements = omega (arith, l, length-map elements name_of, ap length known.named) in
    all_left elements ∙ sym (take_all count elements (omega arith))

pub nothing_leaves_all : (names : List (List ℕ)) (count : ℕ) → count ≡ length names → Leaves Nothing names count
nothing_leaves_all names count l elements known =
    let long : count ≡ length elements = omega (arith, l, length-map elements name_of, ap length known.named) in
    all_left elements ∙ sym (take_all count elements (omega arith))
