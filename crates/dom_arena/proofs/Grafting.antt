-- A whole fragment in its place: how the slots begin, and what they stand for in the end.
use Rattle.std.proofs.Common.{◌≡◌, ℕ, zero, suc, ◌+◌, ◌≤◌, true, List, [], ◌∷◌, ◌++◌, Option, Some, None, length, refl, sym, ◌∙◌, ap, subst, inl, inr, arith}
use Rattle.std.proofs.Math.ListN.{replicate}
use Rattle.std.proofs.lemmas.Bool.{cases_eq}
use Rattle.std.proofs.lemmas.List.{length-map}
use Rattle.page_tree.specs.Forest.{Content, Forest, empty, node, Tree, rooted, count, size, depth_in, head, tops, find, children}
use Rattle.page_tree.specs.Edits.{insert_at, with_children}
use Rattle.page_tree.specs.Fragments.{hung, with_nodes_at, fragment_nodes, with_fragment, AreNodesFrom, IsFragment, limit_passed}
use Rattle.page_tree.proofs.Finding.{same_cases, find-none, or_else-empty}
use Rattle.page_tree.proofs.Totals.{with_children-none, size-joined}
use Rattle.dom_arena.specs.declared.fragments.Tail.{Tail}
use Rattle.dom_arena.specs.declared.kinds.NewNode.{NewNode}
use Rattle.dom_arena.specs.declared.table.Slot.{Slot}
use Rattle.dom_arena.specs.Contents.{may_hold, new_content, new_nodes}
use Rattle.dom_arena.specs.Hanging.{CanHang, parent_behind, hung_in, tail_behind}
use Rattle.dom_arena.specs.Slots.{free, slot_at, IsUsed}
use Rattle.dom_arena.specs.Linked.{Stands, IsArena, tree_of, before_place, from_place}
use Rattle.page_tree.specs.Refusals.{limits_refused}
use Rattle.dom_arena.proofs.Writes.{slot_at-free, length-free, Stands-free}
use Rattle.dom_arena.proofs.Added.{tree_of-stands, Stands-viewed}
use Rattle.dom_arena.proofs.Limits.{none_passed}
use Rattle.dom_arena.proofs.Hangings.{Grafting, nodes_with, can_hang, hung_next}

-- children in their own place change nothing
with_children-same : (p : ℕ) (x f : Forest) → count p f ≤ 1 → x ≡ children (find p f) → with_children p x f ≡ f
with_children-same p x empty h e = refl
with_children-same p x (node n c kids later) h e =
    elim (same_cases p n) [
      | inl q ↦
          let mine : x ≡ kids = rw q.2 at e in
          rw (q.2, with_children-none p x later (omega arith)) (ap (λ k. node n c k later) mine)
      | inr q ↦ elim (cases_eq (count p kids) 0) [
        | inl z ↦
            let further : x ≡ children (find p later) = rw (q.2, find-none p kids z) at e in
            rw (q.2, with_children-none p x kids z) (ap (λ l. node n c kids l) (with_children-same p x later (omega arith) further))
        | inr z ↦
            let below : x ≡ children (find p kids) = rw (q.2, find-none p later (omega arith), or_else-empty (find p kids)) at e in
            rw (q.2, with_children-none p x later (omega arith)) (ap (λ k. node n c k later) (with_children-same p x kids (omega arith) below))
      ]
    ]

-- nor does putting in nothing
insert-empty : (i : ℕ) (f : Forest) → insert_at i empty f ≡ f
insert-empty i empty = refl
insert-empty zero (node n c kids later) = refl
insert-empty (suc i) (node n c kids later) = ap (λ rest. node n c kids rest) (insert-empty i later)

-- so at the beginning the tree is what it was
nodes_with-empty : (f : Forest) (p place : ℕ) → count p (rooted f) ≤ 1 → nodes_with f p place empty ≡ f
nodes_with-empty f p place h =
    ap (λ (k : Forest). children (with_children p k (rooted f))) (insert-empty place (children (find p (rooted f))))
    ∙ ap children (with_children-same p (children (find p (rooted f))) (rooted f) h refl)

-- the size of what hangs together
size-hung : (d : ℕ) (new f : Forest) → size (hung d new f) ≡ size f + size new
size-hung zero new f = size-joined f new
size-hung (suc d) new empty = omega arith
size-hung (suc d) new (node n c kids empty) = omega (arith, size-hung d new kids)
size-hung (suc d) new (node n c kids (node m e inner later)) = omega (arith, size-hung (suc d) new (node m e inner later))

-- each node counts once
size-with_nodes_at : (n : ℕ) (part : List (ℕ × Content)) (f : Forest) → size (with_nodes_at n part f) ≡ size f + length part
size-with_nodes_at n [] f = omega arith
size-with_nodes_at n (x ∷ part) f = omega (arith, size-with_nodes_at (suc n) part (hung x.0 (node n x.1 empty empty) f), size-hung x.0 (node n x.1 empty empty) f)

-- a fragment has as many nodes as its list
pub length-new_nodes : (xs : List (ℕ × NewNode)) → length (new_nodes xs) ≡ length xs
length-new_nodes xs = length-map xs (λ (y : ℕ × NewNode). (y.0, new_content y.1))

-- the slots before the first node
pub begun : (slots : List Slot) (nodes p place base b n m : ℕ) (xs ys : List (ℕ × NewNode)) (made : List Slot) → IsArena slots nodes → IsUsed slots p → may_hold (slot_at slots p).payload ≡ true
    → IsFragment (new_nodes xs) → depth_in p 0 (rooted (tree_of slots).nodes) ≡ Some base → limits_refused (depth_in p 0 (rooted (tree_of slots).nodes)) nodes (new_nodes xs) ≡ None
    → b ≡ before_place 0 place (children (find p (rooted (tree_of slots).nodes)))
    → n ≡ length slots → m ≡ length xs → ys ≡ xs → made ≡ slots ++ replicate m free
    → Grafting (tree_of slots).nodes p place base (length slots + length (new_nodes xs)) (nodes + length (new_nodes xs)) (fragment_nodes (length slots) (new_nodes xs)) made empty n
    (record { inner = p; level = 0; top = b }) (new_nodes ys)
begun slots nodes p place base b n m xs ys made arena used holds fragment deep allowed eb en em ey ed =
    let f : Forest = (tree_of slots).nodes in
    let part : List (ℕ × Content) = new_nodes xs in
    let same_nodes : nodes_with f p place empty ≡ f = nodes_with-empty f p place (arena.stands.tree.once p) in
    let refused : limits_refused (Some base) nodes part ≡ None = ap (λ (o : Option ℕ). limits_refused o nodes part) (sym deep) ∙ allowed in
    let same_part : part ≡ new_nodes ys = ap new_nodes (sym ey) in
    let size_ys : length (new_nodes ys) ≡ length part = ap (λ (l : List (ℕ × NewNode)). length (new_nodes l)) ey in
    record {
      stands =
          subst (λ (l : List Slot). Stands l (nodes_with f p place empty)) (sym ed)
          (subst (λ (t : Forest). Stands (slots ++ replicate m free) t) (sym same_nodes) (Stands-free slots m f arena.stands));
      holds = ap (λ (l : List Slot). may_hold (slot_at l p).payload) ed ∙ ap (λ (s : Slot). may_hold s.payload) (slot_at-free slots m p) ∙ holds;
      unused = λ k le. ap (λ (t : Forest). count k (rooted t)) same_nodes ∙ arena.stands.tree.below k (omega arith);
      long = omega (arith, ap length ed, length-free slots m, length-new_nodes xs);
      counted = omega (arith, ap size same_nodes, arena.counted);
      inside = omega arith;
      way = tt;
      inner = refl;
      top = eb;
      nodes = subst (λ (l : List (ℕ × Content)). AreNodesFrom 0 l) same_part fragment;
      allowed =
          subst (λ (l : List (ℕ × Content)). limit_passed base (size (nodes_with f p place empty)) l ≡ None) same_part
          (ap (λ (l : ℕ). limit_passed base l part) (ap size same_nodes ∙ sym arena.counted) ∙ none_passed base nodes part refused);
      made = ap (λ (k : ℕ). with_nodes_at k (new_nodes ys) empty) en ∙ ap (λ (l : List (ℕ × Content)). with_nodes_at (length slots) l empty) (sym same_part);
    }

-- the slots behind the last one
pub ended : (slots : List Slot) (p place base n many all : ℕ) (g : Forest) (tail : Tail) (part rest : List (ℕ × Content)) (made : List Slot)
    → many ≡ length slots + length part → rest ≡ []
    → Grafting (tree_of slots).nodes p place base many all (fragment_nodes (length slots) part) made g n tail rest
    → IsArena made all × (tree_of made ≡ with_fragment p place part (tree_of slots))
ended slots p place base n many all g tail part rest made em er last =
    let f : Forest = (tree_of slots).nodes in
    let whole : Forest = fragment_nodes (length slots) part in
    let same : g ≡ whole = ap (λ (r : List (ℕ × Content)). with_nodes_at n r g) (sym er) ∙ last.made in
    let stands : Stands made (nodes_with f p place whole) = subst (λ (h : Forest). Stands made (nodes_with f p place h)) same last.stands in
    let tree : tree_of made ≡ record { nodes = nodes_with f p place whole; next = length made } = tree_of-stands made (nodes_with f p place whole) stands in
    let long : length made ≡ length slots + size whole = omega (arith, last.long, em, size-with_nodes_at (length slots) part empty) in (
      record {
        stands = Stands-viewed made (nodes_with f p place whole) stands;
        counted = omega (arith, last.counted, ap length er, ap (λ (h : Forest). size (nodes_with f p place h)) same, ap (λ (t : Tree). size t.nodes) tree);
      },
      tree ∙ ap (λ (k : ℕ). record { nodes = nodes_with f p place whole; next = k }) long,
    )

-- the count of what is left falls with it, and where it is none nothing is left
pub fewer_left : (ys zs : List (ℕ × NewNode)) (x : ℕ × NewNode) (m l : ℕ) → ys ≡ x ∷ zs → l + 1 ≡ m → m ≡ length ys → l ≡ length zs
fewer_left ys zs x m l e le all = omega (arith, ap length e)

pub none_left : (ys : List (ℕ × NewNode)) (m : ℕ) → m ≡ 0 → m ≡ length ys → new_nodes ys ≡ []
none_left [] m z e = refl
none_left (y ∷ ys) m z e = absurd (omega arith)

-- one turn: the next node, x, is hung
module _ (slots : List Slot) (nodes p place : ℕ) (arena : IsArena slots nodes) (used : IsUsed slots p)
    (within : place ≤ length (tops (children (find p (rooted (tree_of slots).nodes))))) (base : ℕ) (deep : depth_in p 0 (rooted (tree_of slots).nodes) ≡ Some base)
    (xs ys zs : List (ℕ × NewNode)) (x : ℕ × NewNode) (split : ys ≡ x ∷ zs) (whole : Forest) (now : List Slot) (g : Forest) (n : ℕ) (tail : Tail)
    (here : Grafting (tree_of slots).nodes p place base (length slots + length (new_nodes xs)) (nodes + length (new_nodes xs)) whole now g n tail (new_nodes ys)) (after : ℕ) (behind : after ≡ head (from_place place (children (find p (rooted (tree_of slots).nodes))))) where
  abbrev many : ℕ
  many = length (new_nodes xs)

  abbrev c : Content
  c = new_content x.1

  abbrev rest : List (ℕ × Content)
  rest = new_nodes zs

  front : Grafting (tree_of slots).nodes p place base (length slots + many) (nodes + many) whole now g n tail ((x.0, c) ∷ rest)
  front = subst (λ (l : List (ℕ × Content)). Grafting (tree_of slots).nodes p place base (length slots + many) (nodes + many) whole now g n tail l) (ap new_nodes split) here

  room : nodes + many ≤ length slots + many
  room = omega (arith, arena.counted, arena.stands.fits)

  pub can_turn : CanHang tail after n x.0 now
  can_turn =
      subst (λ (a : ℕ). CanHang tail a n x.0 now) (sym behind)
      (can_hang slots (tree_of slots).nodes arena.stands p place used within base deep (length slots + many) (nodes + many) room whole now g n tail (x.0, c) rest front)

  pub number_fits : n + 1 ≤ length slots + length xs
  number_fits = omega (arith, front.inside, length-new_nodes xs)

  pub turned : (then : List Slot) (next : Tail) → then ≡ hung_in tail after n x.0 c now → next ≡ tail_behind tail (parent_behind tail x.0 now) n x.0 c
      → Grafting (tree_of slots).nodes p place base (length slots + many) (nodes + many) whole then (hung x.0 (node n c empty empty) g) (n + 1) next rest
  turned then next et en =
      subst (λ (l : List Slot). Grafting (tree_of slots).nodes p place base (length slots + many) (nodes + many) whole l (hung x.0 (node n c empty empty) g) (n + 1) next rest)
      (ap (λ (a : ℕ). hung_in tail a n x.0 c now) (sym behind) ∙ sym et)
      (subst (λ (t : Tail). Grafting (tree_of slots).nodes p place base (length slots + many) (nodes + many) whole
      (hung_in tail (head (from_place place (children (find p (rooted (tree_of slots).nodes))))) n x.0 c now) (hung x.0 (node n c empty empty) g) (n + 1) t rest) (sym en)
      (hung_next slots (tree_of slots).nodes arena.stands p place used within base deep (length slots + many) (nodes + many) room whole now g n tail (x.0, c) rest front))
