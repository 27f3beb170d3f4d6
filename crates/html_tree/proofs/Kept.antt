-- One token further: the open elements and the nodes so far.
use Rattle.std.proofs.Common.{◌≡◌, ℕ, suc, ◌≤◌, true, false, cond, List, [], ◌∷◌, ◌++◌, length, map, take, refl, arith, ap, sym, ◌∙◌, subst, Some, None, append_assoc}
use Rattle.std.proofs.lemmas.List.{append-nil, map-append, take-map, length-take, length-map}
use Rattle.page_tree.specs.Forest.{Content}
use Rattle.html_meaning.specs.Tokens.{tokens, Piece, Token, Start, End, Chars, Comment, Doctype, Cut}
use Rattle.html_meaning.specs.Page.{OpenElement, Role, Opens, Ends, Leaf, Nothing, by_depth, fragment, innermost, role_of, content_of, left_by, opened, nodes_from, with_node, number_behind}
use Rattle.html_tree.specs.Rising.{Rises}
use Rattle.html_tree.specs.Chain.{AreOpen, Leaves, element_names}
use Rattle.html_tree.proofs.Closing.{Below, Below-more}
use Rattle.html_tree.proofs.Fronts.{rises-take, below-take, rises-push}
use Rattle.html_tree.proofs.Law.{below-push}

abbrev pub pieces : List Token → List Piece
pieces tokens = map (λ (t : Token). t.piece) tokens

-- the nodes so far and those of the tokens to come are all nodes: some open elements have these names, and some number comes
-- next
pub record Kept (names : List (List ℕ)) (tokens : List Token) (out all : List (ℕ × Content)) : Type 0 where
  pub number : ℕ
  pub elements : List OpenElement
  pub known : AreOpen names elements
  pub below : Below number elements
  pub done : out ++ map by_depth (nodes_from number elements (pieces tokens)) ≡ all

pub kept_start : (source : List ℕ) → Kept [] (tokens source) [] (fragment source)
kept_start source = record { number = 1; elements = []; known = record { named = refl; rises = tt }; below = tt; done = refl }

-- elements that are left, and one that is opened
pub opened_known : (role : Role) (number count : ℕ) (names : List (List ℕ)) (elements : List OpenElement) → AreOpen names elements → Below number elements
    → AreOpen (take count names ++ element_names (opened number role)) (take count elements ++ opened number role)
    × Below (suc number) (take count elements ++ opened number role)
opened_known role number count names elements k b =
    let under = take count elements in
    let named : element_names (under ++ opened number role) ≡ take count names ++ element_names (opened number role) =
    map-append (λ (o : OpenElement). o.name) under (opened number role)
    ∙ ap (λ x. x ++ element_names (opened number role)) (sym (take-map (λ (o : OpenElement). o.name) count elements) ∙ ap (take count) k.named) in
    let next = opened_rises role number under (rises-take count 0 elements k.rises) (below-take count number elements b) in
    (record { named = named; rises = next.0 }, next.1)
  where
    as_it_is : (number : ℕ) (under : List OpenElement) → Rises 0 under → Below number under → Rises 0 (under ++ []) × Below (suc number) (under ++ [])
    as_it_is number under r b = subst (λ u. Rises 0 u × Below (suc number) u) (sym (append-nil under)) (r, Below-more number (suc number) under (omega arith) b)

    opened_rises : (role : Role) (number : ℕ) (under : List OpenElement) → Rises 0 under → Below number under
        → Rises 0 (under ++ opened number role) × Below (suc number) (under ++ opened number role)
    opened_rises (Opens name holds) number under r b =
        elim holds as (λ v. Rises 0 (under ++ cond v (record { number = number; name = name } ∷ []) []) × Below (suc number) (under ++ cond v (record { number = number; name = name } ∷ []) []))
        [ true ↦ (rises-push 0 under (record { number = number; name = name }) r b (omega arith), below-push number under name b) | false ↦ as_it_is number under r b ]
    opened_rises (Ends name) number under r b = as_it_is number under r b
    opened_rises Leaf number under r b = as_it_is number under r b
    opened_rises Nothing number under r b = as_it_is number under r b

pub front_long : (names : List (List ℕ)) (elements : List OpenElement) (count : ℕ) → AreOpen names elements → count ≤ length names → length (take count elements) ≡ count
front_long names elements count k h = omega (arith, h, length-take count elements, length-map elements (λ (o : OpenElement). o.name), ap length k.named)

-- the node of a token that makes one, and those behind it
pub nodes_made : (p : Piece) (ps : List Piece) (c : Content) (number count : ℕ) (names : List (List ℕ)) (elements : List OpenElement) → AreOpen names elements
    → Leaves (role_of p) names count → content_of p ≡ Some c
    → nodes_from number elements (p ∷ ps)
    ≡ record { content = c; parent = innermost 0 (take count elements); depth = length (take count elements) }
    ∷ nodes_from (suc number) (take count elements ++ opened number (role_of p)) ps
nodes_made p ps c number count names elements k left e =
    let role = role_of p in
    let under = take count elements in
    let same : left_by role elements ≡ under = left elements k in
    ap (λ u. with_node (content_of p) u (nodes_from (number_behind (content_of p) number) (u ++ opened number role) ps)) same
    ∙ ap (λ o. with_node o under (nodes_from (number_behind o number) (under ++ opened number role) ps)) e

nodes_at : (p : Piece) (ps : List Piece) (c : Content) (number count : ℕ) (names : List (List ℕ)) (elements : List OpenElement) → AreOpen names elements
    → Leaves (role_of p) names count → count ≤ length names → content_of p ≡ Some c
    → map by_depth (nodes_from number elements (p ∷ ps)) ≡ (count, c) ∷ map by_depth (nodes_from (suc number) (take count elements ++ opened number (role_of p)) ps)
nodes_at p ps c number count names elements k left h e =
    ap (map by_depth) (nodes_made p ps c number count names elements k left e)
    ∙ ap (λ d. (d, c) ∷ map by_depth (nodes_from (suc number) (take count elements ++ opened number (role_of p)) ps)) (front_long names elements count k h)

-- the nodes behind a token that makes none
not_opened : (p : Piece) (n : ℕ) → content_of p ≡ None → opened n (role_of p) ≡ []
not_opened (Start name attrs self_closing) n e = cc
not_opened (End name) n e = refl
not_opened (Chars bytes raw) n e = cc
not_opened (Comment bytes) n e = cc
not_opened Doctype n e = refl
not_opened Cut n e = refl

pub nodes_skipped : (p : Piece) (ps : List Piece) (number count : ℕ) (names : List (List ℕ)) (elements : List OpenElement) → AreOpen names elements
    → Leaves (role_of p) names count → content_of p ≡ None → nodes_from number elements (p ∷ ps) ≡ nodes_from number (take count elements) ps
nodes_skipped p ps number count names elements k left e =
    let role = role_of p in
    let under = take count elements in
    let same : left_by role elements ≡ under = left elements k in
    let whole : under ++ opened number role ≡ under = ap (λ x. under ++ x) (not_opened p number e) ∙ append-nil under in
    ap (λ u. with_node (content_of p) u (nodes_from (number_behind (content_of p) number) (u ++ opened number role) ps)) same
    ∙ ap (λ o. with_node o under (nodes_from (number_behind o number) (under ++ opened number role) ps)) e
    ∙ ap (λ u. nodes_from number u ps) whole

pub kept_node : (names after : List (List ℕ)) (t : Token) (left : List Token) (out all : List (ℕ × Content)) (count : ℕ) (c : Content) → Kept names (t ∷ left) out all
    → Leaves (role_of t.piece) names count → count ≤ length names → content_of t.piece ≡ Some c
    → ((n : ℕ) → after ≡ take count names ++ element_names (opened n (role_of t.piece)))
    → Kept after left (out ++ (count, c) ∷ []) all
kept_node names after t left out all count c k l h e a =
    let next = opened_known (role_of t.piece) k.number count names k.elements k.known k.below in
    let under = take count k.elements ++ opened k.number (role_of t.piece) in
    record {
      number = suc k.number;
      elements = under;
      known = subst (λ n. AreOpen n under) (sym (a k.number)) next.0;
      below = next.1;
      done =
          append_assoc out ((count, c) ∷ []) (map by_depth (nodes_from (suc k.number) under (pieces left)))
          ∙ ap (λ x. out ++ x) (sym (nodes_at t.piece (pieces left) c k.number count names k.elements k.known l h e)) ∙ k.done;
    }

-- all nodes, from the one that a token makes on
pub kept_next : (names : List (List ℕ)) (t : Token) (left : List Token) (out all : List (ℕ × Content)) (count : ℕ) (c : Content) → Kept names (t ∷ left) out all
    → Leaves (role_of t.piece) names count → count ≤ length names → content_of t.piece ≡ Some c
    → (rest : List (ℕ × Content)) × (all ≡ out ++ (count, c) ∷ rest)
kept_next names t left out all count c k l h e = (
  map by_depth (nodes_from (suc k.number) (take count k.elements ++ opened k.number (role_of t.piece)) (pieces left)),
  sym k.done ∙ ap (λ x. out ++ x) (nodes_at t.piece (pieces left) c k.number count names k.elements k.known l h e),
)

pub kept_none : (names : List (List ℕ)) (t : Token) (left : List Token) (out all : List (ℕ × Content)) (count : ℕ) → Kept names (t ∷ left) out all
    → Leaves (role_of t.piece) names count → content_of t.piece ≡ None → Kept (take count names) left out all
kept_none names t left out all count k l e = record {
  number = k.number;
  elements = take count k.elements;
  known = record {
    named = sym (take-map (λ (o : OpenElement). o.name) count k.elements) ∙ ap (take count) k.known.named;
    rises = rises-take count 0 k.elements k.known.rises;
  };
  below = below-take count k.number k.elements k.below;
  done = ap (λ ns. out ++ map by_depth ns) (sym (nodes_skipped t.piece (pieces left) k.number count names k.elements k.known l e)) ∙ k.done;
}

-- behind the last token
pub kept_all : (names : List (List ℕ)) (out all : List (ℕ × Content)) → Kept names [] out all → out ≡ all
kept_all names out all k = sym (append-nil out) ∙ k.done
