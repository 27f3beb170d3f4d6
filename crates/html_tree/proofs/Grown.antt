-- One token further: the open elements, the numbers of their nodes, and the tree so far.
use Rattle.std.proofs.Common.{◌≡◌, ℕ, suc, ◌+◌, ◌≤◌, ◌-◌, ◌⊎◌, inl, inr, Bool, true, false, cond, List, [], ◌∷◌, ◌++◌, length, map, take, refl, arith, ap, sym, ◌∙◌, subst, Option, Some, None, option_map, Result, Ok, Err, MatchOption, IsOkUnless}
use Rattle.std.proofs.lemmas.List.{append-nil, map-append, take-map}
use Rattle.std.specs.Prelude.{slice_index}
use Rattle.std.specs.Str.{str_to_ascii_lowercase}
use Rattle.page_tree.specs.Forest.{Content, element, text, comment, Forest, empty, node, Tree, rooted, size, depth_in}
use Rattle.page_tree.specs.Edits.{appended, children_of}
use Rattle.page_tree.specs.Trees.{IsOrdinary}
use Rattle.page_tree.specs.Fragments.{Limit, TooDeep, TooManyNodes, hung, limit_passed}
use Rattle.page_tree.specs.declared.TheConstants.{NODE_LIMIT}
use Rattle.page_tree.specs.Refusals.{past_limit, graft_refused}
use Rattle.dom_arena.specs.Refusals.{error_of as dom_error}
use Rattle.html_meaning.specs.Elements.{has_content}
use Rattle.html_meaning.specs.Tokens.{tokens, Piece, Token, Start, End, Chars, Comment, Doctype, Cut}
use Rattle.html_meaning.specs.Page.{OpenElement, Role, Opens, Ends, Leaf, Nothing, by_depth, fragment, page, innermost, PageNode, role_of, content_of, element_attributes, opened, nodes_from, with_nodes}
use Rattle.html_meaning.specs.References.{resolved}
use Rattle.html_tree.specs.declared.reader.PageError.{PageError}
use Rattle.html_tree.specs.declared.reader.PageError.TheVariants.{NoMemory}
use Rattle.html_tree.specs.Chain.{AreOpen, Leaves, element_names, element_numbers}
use Rattle.html_tree.specs.Limits.{next_limit, page_error, error_of}
use Rattle.html_tree.proofs.FirstNames.{lower_twice, element_attributes_are}
use Rattle.html_tree.proofs.Fronts.{rises-take}
use Rattle.html_tree.proofs.Spine.{added_last, size-hung, spine-few}
use Rattle.html_tree.proofs.Law.{Goes, goes_start, goes-front, goes-opened, goes-leaf}
use Rattle.html_tree.proofs.Growing.{AllHold, may_hold, hold-front, hold-hung, hold-leaf, append_is, innermost-at, innermost_depth}
use Rattle.html_tree.proofs.Kept.{pieces, opened_known, nodes_made, nodes_skipped, front_long}
use Rattle.html_tree.proofs.PassedLimits.{first_within, first_passes, few_nodes}

-- the tree with the nodes of the tokens to come put in is the page, and these pass the limit that the page's nodes pass
pub record Grown (names : List (List ℕ)) (numbers : List ℕ) (ts : List Token) (t : Tree) (source : List ℕ) : Type 0 where
  pub elements : List OpenElement
  pub known : AreOpen names elements
  pub numbered : numbers ≡ element_numbers elements
  pub goes : Goes t.next elements t.nodes
  pub hold : AllHold elements t.nodes
  pub next : t.next ≡ suc (size t.nodes)
  pub few : size t.nodes ≤ NODE_LIMIT
  pub tree : with_nodes t (nodes_from t.next elements (pieces ts)) ≡ page source
  pub within : limit_passed 0 (size t.nodes) (map by_depth (nodes_from t.next elements (pieces ts))) ≡ limit_passed 0 0 (fragment source)

pub grown_start : (source : List ℕ) → Grown [] [] (tokens source) (record { nodes = empty; next = 1 }) source
grown_start source = record {
  elements = [];
  known = record { named = refl; rises = tt };
  numbered = refl;
  goes = goes_start;
  hold = tt;
  next = refl;
  few = omega arith;
  tree = refl;
  within = refl;
}

-- the elements that a token leaves
known_front : (names : List (List ℕ)) (elements : List OpenElement) (count : ℕ) → AreOpen names elements → AreOpen (take count names) (take count elements)
known_front names elements count k =
    record { named = sym (take-map (λ (o : OpenElement). o.name) count elements) ∙ ap (take count) k.named; rises = rises-take count 0 elements k.rises }

numbers_front : (numbers : List ℕ) (elements : List OpenElement) (count : ℕ) → numbers ≡ element_numbers elements → take count numbers ≡ element_numbers (take count elements)
numbers_front numbers elements count e = ap (take count) e ∙ take-map (λ (o : OpenElement). o.number) count elements

-- a token that makes no node
pub grown_none : (names : List (List ℕ)) (numbers : List ℕ) (t : Token) (ts : List Token) (tree : Tree) (source : List ℕ) (count : ℕ) → Grown names numbers (t ∷ ts) tree source
    → Leaves (role_of t.piece) names count → content_of t.piece ≡ None → Grown (take count names) (take count numbers) ts tree source
grown_none names numbers t ts tree source count g l e =
    let skipped = nodes_skipped t.piece (pieces ts) tree.next count names g.elements g.known l e in
    record {
      elements = take count g.elements;
      known = known_front names g.elements count g.known;
      numbered = numbers_front numbers g.elements count g.numbered;
      goes = goes-front count tree.next g.elements tree.nodes g.goes;
      hold = hold-front count g.elements tree.nodes g.hold;
      next = g.next;
      few = g.few;
      tree = ap (with_nodes tree) (sym skipped) ∙ g.tree;
      within = ap (λ ns. limit_passed 0 (size tree.nodes) (map by_depth ns)) (sym skipped) ∙ g.within;
    }

-- the element that a token opens behind these, and its node behind the last ones
goes-next : (role : Role) (number : ℕ) (under : List OpenElement) (f : Forest) (c : Content) → Goes number under f
    → Goes (suc number) (under ++ opened number role) (hung (length under) (node number c empty empty) f)
goes-next (Opens name holds) number under f c g =
    elim holds as (λ v. Goes (suc number) (under ++ cond v (record { number = number; name = name } ∷ []) []) (hung (length under) (node number c empty empty) f)) [
      | true ↦ goes-opened number under f name c g
      | false ↦ goes-leaf number under f c g
    ]
goes-next (Ends name) number under f c g = goes-leaf number under f c g
goes-next Leaf number under f c g = goes-leaf number under f c g
goes-next Nothing number under f c g = goes-leaf number under f c g

abbrev holds_in : Option Content → Bool
holds_in None = false
holds_in (Some c) = may_hold c

some_is : (c d : Content) → Some c ≡ Some d → c ≡ d
some_is c d e = cc

hold-plain : (under : List OpenElement) (new f : Forest) → AllHold under f → AllHold (under ++ []) (hung (length under) new f)
hold-plain under new f a = subst (λ u. AllHold u (hung (length under) new f)) (sym (append-nil under)) (hold-leaf under new f a)

hold-next : (p : Piece) (number : ℕ) (under : List OpenElement) (f : Forest) (c : Content) → content_of p ≡ Some c → AllHold under f
    → AllHold (under ++ opened number (role_of p)) (hung (length under) (node number c empty empty) f)
hold-next (Start name attrs self_closing) number under f c e a =
    let o : OpenElement = record { number = number; name = str_to_ascii_lowercase name } in
    let holds : may_hold c ≡ true = sym (ap holds_in e) in
    elim (has_content (str_to_ascii_lowercase name) self_closing) as (λ v. AllHold (under ++ cond v (o ∷ []) []) (hung (length under) (node number c empty empty) f)) [
      | true ↦ hold-hung under o number c f holds a
      | false ↦ hold-plain under (node number c empty empty) f a
    ]
hold-next (End name) number under f c e a = hold-plain under (node number c empty empty) f a
hold-next (Chars bytes raw) number under f c e a = hold-plain under (node number c empty empty) f a
hold-next (Comment bytes) number under f c e a = hold-plain under (node number c empty empty) f a
hold-next Doctype number under f c e a = hold-plain under (node number c empty empty) f a
hold-next Cut number under f c e a = hold-plain under (node number c empty empty) f a

-- a token that makes a node: under which elements, and what is to come behind it
module _ (names : List (List ℕ)) (numbers : List ℕ) (t : Token) (ts : List Token) (old : Tree) (source : List ℕ) (count parent : ℕ) (c : Content) (g : Grown names numbers (t ∷ ts) old source) (l : Leaves (role_of t.piece) names count) (h : count ≤ length names) (e : content_of t.piece ≡ Some c) (p : parent ≡ slice_index (take count numbers) (length (take count numbers) - 1)) where
  abbrev under : List OpenElement
  under = take count g.elements

  abbrev rest : List PageNode
  rest = nodes_from (suc old.next) (under ++ opened old.next (role_of t.piece)) (pieces ts)

  made : nodes_from old.next g.elements (t.piece ∷ pieces ts) ≡ record { content = c; parent = innermost 0 under; depth = length under } ∷ rest
  made = nodes_made t.piece (pieces ts) c old.next count names g.elements g.known l e

  long : length under ≡ count
  long = front_long names g.elements count g.known h

  at : innermost 0 under ≡ parent
  at = innermost-at under (take count numbers) (numbers_front numbers g.elements count g.numbered) ∙ sym p

  goes : Goes old.next under old.nodes
  goes = goes-front count old.next g.elements old.nodes g.goes

  hold : AllHold under old.nodes
  hold = hold-front count g.elements old.nodes g.hold

  -- its parent stands as deep as there are open elements, which are nodes
  pub grown_depth : depth_in parent 0 (rooted old.nodes) ≡ Some count
  grown_depth = ap (λ (q : ℕ). depth_in q 0 (rooted old.nodes)) (sym at) ∙ innermost_depth under old goes.spine goes.once ∙ ap Some long

  pub grown_few : count ≤ NODE_LIMIT
  grown_few = omega (arith, spine-few under old.nodes goes.spine, long, g.few)

  -- the arena refuses the node where it passes a limit
  pub grown_refusal : graft_refused parent (children_of parent old) ((0, c) ∷ []) old ≡ option_map past_limit (next_limit 0 (size old.nodes) count)
  grown_refusal =
      ap (λ (q : ℕ). graft_refused q (children_of q old) ((0, c) ∷ []) old) (sym at) ∙ append_is under old c goes.spine hold goes.once
      ∙ ap (λ (d : ℕ). option_map past_limit (next_limit 0 (size old.nodes) d)) long

  pub grown_limit : (limit : Limit) → next_limit 0 (size old.nodes) count ≡ Some limit → limit_passed 0 0 (fragment source) ≡ Some limit
  grown_limit limit n =
      sym g.within ∙ ap (λ ns. limit_passed 0 (size old.nodes) (map by_depth ns)) made
      ∙ first_passes 0 (size old.nodes) (length under) c (map by_depth rest) limit (ap (next_limit 0 (size old.nodes)) long ∙ n)

  pub grown_node : (after : List (List ℕ)) (others : List ℕ) (new : Tree) → ((n : ℕ) → after ≡ take count names ++ element_names (opened n (role_of t.piece)))
      → others ≡ take count numbers ++ element_numbers (opened old.next (role_of t.piece)) → next_limit 0 (size old.nodes) count ≡ None
      → new ≡ appended parent (node old.next c empty empty) old → Grown after others ts new source
  grown_node after others new a o n m =
      let role = role_of t.piece in
      let one : Forest = node old.next c empty empty in
      let grown : Tree = record { nodes = hung (length under) one old.nodes; next = suc old.next } in
      let more : old.next + 1 ≡ suc old.next = omega arith in
      let grows : appended (innermost 0 under) one old ≡ grown =
      added_last under one old goes.spine goes.once ∙ ap (λ n. record { nodes = hung (length under) one old.nodes; next = n }) more in
      let same : grown ≡ new = sym grows ∙ ap (λ q. appended q one old) at ∙ sym m in
      let sized : size (hung (length under) one old.nodes) ≡ suc (size old.nodes) = omega (arith, size-hung (length under) one old.nodes) in
      let passes : next_limit 0 (size old.nodes) (length under) ≡ None = ap (next_limit 0 (size old.nodes)) long ∙ n in
      let known = opened_known role old.next count names g.elements g.known g.goes.below in
      let few = few_nodes 0 (size old.nodes) ((length under, c) ∷ []) (first_within 0 (size old.nodes) (length under) c [] passes) g.few in
      subst (λ u. Grown after others ts u source) same
      (record {
        elements = under ++ opened old.next role;
        known = subst (λ ns. AreOpen ns (under ++ opened old.next role)) (sym (a old.next)) known.0;
        numbered =
            o ∙ ap (λ ns. ns ++ element_numbers (opened old.next role)) (numbers_front numbers g.elements count g.numbered)
            ∙ sym (map-append (λ (o : OpenElement). o.number) under (opened old.next role));
        goes = goes-next role old.next under old.nodes c goes;
        hold = hold-next t.piece old.next under old.nodes c e hold;
        next = omega (arith, g.next, sized);
        few = omega (arith, sized, few);
        tree = ap (λ x. with_nodes x rest) (sym grows) ∙ ap (with_nodes old) (sym made) ∙ g.tree;
        within =
            ap (λ s. limit_passed 0 s (map by_depth rest)) sized ∙ sym (first_within 0 (size old.nodes) (length under) c (map by_depth rest) passes)
            ∙ ap (λ ns. limit_passed 0 (size old.nodes) (map by_depth ns)) (sym made) ∙ g.within;
      })

-- behind the last token
pub grown_page : (names : List (List ℕ)) (numbers : List ℕ) (t : Tree) (source : List ℕ) → Grown names numbers [] t source → t ≡ page source
grown_page names numbers t source g = g.tree

pub grown_within : (names : List (List ℕ)) (numbers : List ℕ) (t : Tree) (source : List ℕ) → Grown names numbers [] t source → limit_passed 0 0 (fragment source) ≡ None
grown_within names numbers t source g = sym g.within

-- what a token makes is kept as nodes of a tree are
pub content_ordinary : (p : Piece) (c : Content) → content_of p ≡ Some c → IsOrdinary c
content_ordinary (Start name attrs self_closing) c e = subst IsOrdinary (some_is (element (str_to_ascii_lowercase name) (element_attributes attrs)) c e) (lower_twice name, element_attributes_are attrs)
content_ordinary (End name) c e = cc
content_ordinary (Chars bytes raw) c e = subst IsOrdinary (some_is (text (cond raw bytes (resolved 0 bytes))) c e) tt
content_ordinary (Comment bytes) c e = subst IsOrdinary (some_is (comment bytes) c e) tt
content_ordinary Doctype c e = cc
content_ordinary Cut c e = cc

-- what putting a node in answers, where a limit or none is passed
pub put_done : (o : Option Limit) (r : Result ℕ PageError) (n : ℕ) → MatchOption (option_map past_limit o) (IsOkUnless r NoMemory) (λ refusal. r ≡ Err (error_of (dom_error refusal))) → r ≡ Ok n → o ≡ None
put_done None r n m e = refl
put_done (Some TooDeep) r n m e = cc
put_done (Some TooManyNodes) r n m e = cc

pub put_failed : (o : Option Limit) (r : Result ℕ PageError) (f : PageError) → MatchOption (option_map past_limit o) (IsOkUnless r NoMemory) (λ refusal. r ≡ Err (error_of (dom_error refusal))) → r ≡ Err f
    → (f ≡ NoMemory) ⊎ ((l : Limit) × (o ≡ Some l) × (f ≡ page_error l))
put_failed None r f m e = inl (subst (λ x. IsOkUnless x NoMemory) e m)
put_failed (Some TooDeep) r f m e = inr (TooDeep, refl, cc)
put_failed (Some TooManyNodes) r f m e = inr (TooManyNodes, refl, cc)
