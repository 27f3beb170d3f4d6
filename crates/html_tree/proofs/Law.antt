-- The tree by parents is the tree by depths.
use Rattle.std.proofs.Common.{◌≡◌, ℕ, suc, ◌+◌, ◌≤◌, ⊎_elim, Bool, true, false, cond, List, [], ◌∷◌, ◌++◌, length, take, refl, arith, ap, sym, ◌∙◌, subst, map}
use Rattle.std.proofs.lemmas.List.{append-nil, length-map}
use Rattle.std.proofs.Math.Seq.{take-append_seam}
use Rattle.std.proofs.lemmas.Bool.{cases_Bool, eqb-true, eq-eqb, both_ways}
use Rattle.std.specs.Prelude.{◌==◌}
use Rattle.page_tree.specs.Forest.{Content, element, text, comment, Forest, empty, node, Tree, rooted, same, count, size}
use Rattle.html_meaning.specs.Tokens.{Piece, Token, tokens, Start, End, Chars, Comment, Doctype, Cut}
use Rattle.html_meaning.specs.Elements.{has_content}
use Rattle.html_meaning.specs.References.{resolved}
use Rattle.std.specs.Str.{str_to_ascii_lowercase}
use Rattle.html_meaning.specs.Page.{OpenElement, Role, Leaf, Nothing, opened, innermost, PageNode, by_depth, fragment, nodes_of, page, with_nodes, left_by, role_of, nodes_from, element_attributes}
use Rattle.page_tree.specs.Fragments.{hung, with_nodes_at, fragment_nodes, with_fragment}
use Rattle.html_tree.specs.Rising.{Rises}
use Rattle.html_tree.proofs.Closing.{Below}
use Rattle.html_tree.proofs.Spine.{OnSpine, added_last, count-hung, size-hung, spine-front, spine-hung}
use Rattle.html_tree.proofs.Fronts.{left_is_front, rises-take, below-take, rises-push}

-- the state between two tokens: the next number, the open elements and the nodes so far
pub record Goes (number : ℕ) (elements : List OpenElement) (f : Forest) : Type 0 where
  pub spine : OnSpine elements f
  pub rises : Rises 0 elements
  pub below : Below number elements
  pub once : (k : ℕ) → count k (rooted f) ≤ 1
  pub free : (k : ℕ) → number ≤ k → count k (rooted f) ≡ 0

pub goes-front : (n number : ℕ) (elements : List OpenElement) (f : Forest) → Goes number elements f → Goes number (take n elements) f
goes-front n number elements f g = record {
  spine = spine-front n elements f g.spine;
  rises = rises-take n 0 elements g.rises;
  below = below-take n number elements g.below;
  once = g.once;
  free = g.free;
}

pub goes-left : (role : Role) (number : ℕ) (elements : List OpenElement) (f : Forest) → Goes number elements f → Goes number (left_by role elements) f
goes-left role number elements f g =
    let front = left_is_front role elements g.rises in
    subst (λ s. Goes number s f) (sym front.1) (goes-front front.0 number elements f g)

pub below-push : (number : ℕ) (elements : List OpenElement) (name : List ℕ) → Below number elements → Below (suc number) (elements ++ record { number = number; name = name } ∷ [])
below-push number [] name b = (omega arith, tt)
below-push number (s ∷ elements) name b = (omega (arith, b.0), below-push number elements name b.1)

pub same_cases : (k n : ℕ) → (P : ℕ → Type 0) → (k ≡ n → P 1) → ((k ≡ n → ⊥) → P 0) → P (same k n)
same_cases k n P p q =
    ⊎_elim (λ t. rw t (p (eqb-true k n t))) (λ f. rw f (q (λ e. both_ways (k == n) f (eq-eqb k n e)))) (cases_Bool (k == n))

pub goes-opened : (number : ℕ) (under : List OpenElement) (f : Forest) (name : List ℕ) (c : Content) → Goes number under f
    → Goes (suc number) (under ++ record { number = number; name = name } ∷ []) (hung (length under) (node number c empty empty) f)
goes-opened number under f name c g =
    let new = node number c empty empty in
    let o : OpenElement = record { number = number; name = name } in
    let counted : (k : ℕ) → count k (hung (length under) new f) ≡ count k f + count k new = λ k. count-hung k (length under) new f in
    record {
      spine = spine-hung under o c f g.spine;
      rises = rises-push 0 under o g.rises g.below (omega arith);
      below = below-push number under name g.below;
      once = λ k. (let e = counted k in
          let p : same k number + count k (rooted f) ≤ 1 = same_cases k number (λ n. n + count k (rooted f) ≤ 1) (λ e. omega (arith, g.free k (omega arith))) (λ _. omega (arith, g.once k)) in
          omega (arith, e, p));
      free = λ k h. (let e = counted k in
          let p : same k number ≡ 0 = same_cases k number (λ n. n ≡ 0) (λ e. absurd (omega arith)) (λ _. refl) in
          omega (arith, e, p, g.free k (omega arith)));
    }

pub goes-leaf : (number : ℕ) (under : List OpenElement) (f : Forest) (c : Content) → Goes number under f → Goes (suc number) (under ++ []) (hung (length under) (node number c empty empty) f)
goes-leaf number under f c g =
    let o : OpenElement = record { number = number; name = [] } in
    let all : take (length under) (under ++ o ∷ []) ≡ under ++ [] = take-append_seam under (o ∷ []) ∙ sym (append-nil under) in
    subst (λ s. Goes (suc number) s (hung (length under) (node number c empty empty) f)) all
    (goes-front (length under) (suc number) (under ++ o ∷ []) (hung (length under) (node number c empty empty) f) (goes-opened number under f [] c g))

-- a node, and the nodes after it
pub node_law : (c : Content) (number : ℕ) (under : List OpenElement) (f : Forest) (rest : List PageNode) → Goes number under f
    → with_nodes (record { nodes = hung (length under) (node number c empty empty) f; next = suc number }) rest
    ≡ record { nodes = with_nodes_at (suc number) (map by_depth rest) (hung (length under) (node number c empty empty) f); next = suc number + length rest }
    → with_nodes (record { nodes = f; next = number }) (record { content = c; parent = innermost 0 under; depth = length under } ∷ rest)
    ≡ record { nodes = with_nodes_at number (map by_depth (record { content = c; parent = innermost 0 under; depth = length under } ∷ rest)) f; next = number + length (record { content = c; parent = innermost 0 under; depth = length under } ∷ rest) }
node_law c number under f rest g h =
    let new = node number c empty empty in
    let t : Tree = record { nodes = f; next = number } in
    let last : number + 1 ≡ suc number = omega arith in
    let nodes = with_nodes_at (suc number) (map by_depth rest) (hung (length under) new f) in
    ap (λ t. with_nodes t rest) (added_last under new t g.spine g.once ∙ ap (λ n. record { nodes = hung (length under) new f; next = n }) last)
    ∙ h ∙ ap (λ n. record { nodes = nodes; next = n }) (let e : suc number + length rest ≡ number + suc (length rest) = omega arith in e)

pub by_parents_is_by_depths : (pieces : List Piece) (number : ℕ) (elements : List OpenElement) (f : Forest) → Goes number elements f
    → with_nodes (record { nodes = f; next = number }) (nodes_from number elements pieces)
    ≡ record { nodes = with_nodes_at number (map by_depth (nodes_from number elements pieces)) f; next = number + length (nodes_from number elements pieces) }
by_parents_is_by_depths [] number elements f g = ap (λ n. record { nodes = f; next = n }) (let e : number ≡ number + 0 = omega arith in e)
by_parents_is_by_depths (End name ∷ pieces) number elements f g =
    let under = left_by (role_of (End name)) elements in
    by_parents_is_by_depths pieces number (under ++ []) f (subst (λ s. Goes number s f) (sym (append-nil under)) (goes-left (role_of (End name)) number elements f g))
by_parents_is_by_depths (Doctype ∷ pieces) number elements f g =
    let under = left_by Nothing elements in
    by_parents_is_by_depths pieces number (under ++ []) f (subst (λ s. Goes number s f) (sym (append-nil under)) (goes-left Nothing number elements f g))
by_parents_is_by_depths (Cut ∷ pieces) number elements f g =
    let under = left_by Nothing elements in
    by_parents_is_by_depths pieces number (under ++ []) f (subst (λ s. Goes number s f) (sym (append-nil under)) (goes-left Nothing number elements f g))
by_parents_is_by_depths (Chars bytes raw ∷ pieces) number elements f g =
    let under = left_by Leaf elements in
    let c : Content = text (cond raw bytes (resolved 0 bytes)) in
    let left = goes-left Leaf number elements f g in
    node_law c number under f (nodes_from (suc number) (under ++ []) pieces) left
    (by_parents_is_by_depths pieces (suc number) (under ++ []) (hung (length under) (node number c empty empty) f) (goes-leaf number under f c left))
by_parents_is_by_depths (Comment bytes ∷ pieces) number elements f g =
    let under = left_by Leaf elements in
    let c : Content = comment bytes in
    let left = goes-left Leaf number elements f g in
    node_law c number under f (nodes_from (suc number) (under ++ []) pieces) left
    (by_parents_is_by_depths pieces (suc number) (under ++ []) (hung (length under) (node number c empty empty) f) (goes-leaf number under f c left))
by_parents_is_by_depths (Start name attrs self_closing ∷ pieces) number elements f g =
    let role = role_of (Start name attrs self_closing) in
    let under = left_by role elements in
    let c : Content = element (str_to_ascii_lowercase name) (element_attributes attrs) in
    let left = goes-left role number elements f g in
    let nodes = hung (length under) (node number c empty empty) f in
    let goes : (holds : Bool) → Goes (suc number) (under ++ cond holds (record { number = number; name = str_to_ascii_lowercase name } ∷ []) []) nodes =
    λ holds. elim holds as (λ v. Goes (suc number) (under ++ cond v (record { number = number; name = str_to_ascii_lowercase name } ∷ []) []) nodes) [ true ↦ goes-opened number under f (str_to_ascii_lowercase name) c left | false ↦ goes-leaf number under f c left ] in
    node_law c number under f (nodes_from (suc number) (under ++ opened number role) pieces) left
    (by_parents_is_by_depths pieces (suc number) (under ++ opened number role) nodes (goes (has_content (str_to_ascii_lowercase name) self_closing)))

pub size-with_nodes_at : (number : ℕ) (part : List (ℕ × Content)) (f : Forest) → size (with_nodes_at number part f) ≡ size f + length part
size-with_nodes_at number [] f = omega arith
size-with_nodes_at number (n ∷ part) f =
    omega (arith, size-with_nodes_at (suc number) part (hung n.0 (node number n.1 empty empty) f), size-hung n.0 (node number n.1 empty empty) f)

-- before the first token
pub goes_start : Goes 1 [] empty
goes_start = record {
  spine = tt;
  rises = tt;
  below = tt;
  once = λ k. (let p : same k 0 ≤ 1 = same_cases k 0 (λ n. n ≤ 1) (λ _. omega arith) (λ _. omega arith) in omega (arith, p));
  free = λ k h. (let p : same k 0 ≡ 0 = same_cases k 0 (λ n. n ≡ 0) (λ e. absurd (omega arith)) (λ _. refl) in omega (arith, p));
}

-- the tree of a page is its fragment, put into the empty tree
pub page_is_fragment : (source : List ℕ) → page source ≡ with_fragment 0 0 (fragment source) (record { nodes = empty; next = 1 })
page_is_fragment source =
    let nodes = nodes_of source in
    let part = map by_depth nodes in
    by_parents_is_by_depths (map (λ (t : Token). t.piece) (tokens source)) 1 [] empty goes_start
    ∙ ap (λ n. record { nodes = fragment_nodes 1 part; next = n }) (let e : 1 + length nodes ≡ 1 + size (fragment_nodes 1 part) = omega (arith, size-with_nodes_at 1 part empty, length-map nodes by_depth) in e)
