-- The depths of the nodes of a source, and that these are a fragment.
use Rattle.std.proofs.Common.{ℕ, suc, ◌≤◌, Bool, true, false, cond, not, List, [], ◌∷◌, ◌++◌, length, map, arith}
use Rattle.std.proofs.lemmas.List.{length-append}
use Rattle.std.specs.Prelude.{filter}
use Rattle.std.specs.Str.{str_to_ascii_lowercase}
use Rattle.page_tree.specs.Fragments.{AreNodesFrom, IsFragment}
use Rattle.html_meaning.specs.Elements.{has_content}
use Rattle.html_meaning.specs.Tokens.{tokens, Piece, Token, Start, End, Chars, Comment, Doctype, Cut}
use Rattle.html_meaning.specs.Page.{OpenElement, Role, Leaf, Nothing, by_depth, fragment, role_of, closes, left_by, opened, nodes_from}
use Rattle.html_tree.proofs.FirstNames.{lower_twice, element_attributes_are}

filter_short : (q : OpenElement → Bool) (elements : List OpenElement) → length (filter q elements) ≤ length elements
filter_short q [] = omega arith
filter_short q (o ∷ elements) =
    elim (q o) as (λ b. length (cond b (o ∷ filter q elements) (filter q elements)) ≤ suc (length elements)) [
      | true ↦ omega (arith, filter_short q elements)
      | false ↦ omega (arith, filter_short q elements)
    ]

left_short : (role : Role) (elements : List OpenElement) → length (left_by role elements) ≤ length elements
left_short role elements = filter_short (λ o. not (closes role elements o)) elements

same_long : (under : List OpenElement) → length (under ++ []) ≤ length under
same_long under = omega (arith, length-append under [])

one_longer : (under : List OpenElement) (o : OpenElement) (holds : Bool) → length (under ++ cond holds (o ∷ []) []) ≤ suc (length under)
one_longer under o true = omega (arith, length-append under (o ∷ []))
one_longer under o false = omega (arith, length-append under [])

pub nodes_are : (ps : List Piece) (number : ℕ) (elements : List OpenElement) (most : ℕ) → length elements ≤ most → AreNodesFrom most (map by_depth (nodes_from number elements ps))
nodes_are [] number elements most h = tt
nodes_are (Start name attrs self_closing ∷ ps) number elements most h =
    let role = role_of (Start name attrs self_closing) in
    let under = left_by role elements in
    let o : OpenElement = record { number = number; name = str_to_ascii_lowercase name } in
    let short : length under ≤ length elements = left_short role elements in
    let low : length under ≤ most = omega (arith, h, short) in
    (low, (lower_twice name, element_attributes_are attrs), nodes_are ps (suc number) (under ++ opened number role) (suc (length under)) (one_longer under o (has_content (str_to_ascii_lowercase name) self_closing)))
nodes_are (End name ∷ ps) number elements most h =
    let under = left_by (role_of (End name)) elements in
    let short : length under ≤ length elements = left_short (role_of (End name)) elements in
    nodes_are ps number (under ++ []) most (omega (arith, h, short, same_long under))
nodes_are (Chars bytes raw ∷ ps) number elements most h =
    let under = left_by Leaf elements in
    let short : length under ≤ length elements = left_short Leaf elements in
    (omega (arith, h, short), tt, nodes_are ps (suc number) (under ++ []) (length under) (same_long under))
nodes_are (Comment bytes ∷ ps) number elements most h =
    let under = left_by Leaf elements in
    let short : length under ≤ length elements = left_short Leaf elements in
    (omega (arith, h, short), tt, nodes_are ps (suc number) (under ++ []) (length under) (same_long under))
nodes_are (Doctype ∷ ps) number elements most h =
    let under = left_by Nothing elements in
    let short : length under ≤ length elements = left_short Nothing elements in
    nodes_are ps number (under ++ []) most (omega (arith, h, short, same_long under))
nodes_are (Cut ∷ ps) number elements most h =
    let under = left_by Nothing elements in
    let short : length under ≤ length elements = left_short Nothing elements in
    nodes_are ps number (under ++ []) most (omega (arith, h, short, same_long under))

pub fragment_is : (source : List ℕ) → IsFragment (fragment source)
fragment_is source = nodes_are (map (λ (t : Token). t.piece) (tokens source)) 1 [] 0 (omega arith)
