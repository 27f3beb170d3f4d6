-- The slots with a new node linked in stand for the tree with that node.
use Rattle.std.proofs.Common.{◌≡◌, ℕ, ◌+◌, ◌<◌, ◌≤◌, List, [], ◌∷◌, ◌++◌, Some, None, true, length, refl, sym, ◌∙◌, ap, subst, inl, inr, arith}
use Rattle.std.proofs.Math.ListN.{replicate}
use Rattle.page_tree.specs.Forest.{Content, Forest, empty, node, Tree, rooted, same, count, size, depth_in, head, tops, find, children}
use Rattle.page_tree.specs.Edits.{insert_at, with_children, added}
use Rattle.page_tree.specs.Trees.{MayHave, IsOrdinary}
use Rattle.page_tree.proofs.Finding.{same_cases}
use Rattle.dom_arena.specs.declared.table.Slot.{Slot}
use Rattle.dom_arena.specs.Contents.{may_hold}
use Rattle.dom_arena.specs.Slots.{free, slot_at, IsUsed, last_behind, cell, put}
use Rattle.dom_arena.specs.Linked.{Stands, IsArena, tree_of, forest_of, from_place, before_place}
use Rattle.page_tree.specs.Refusals.{limits_refused}
use Rattle.dom_arena.proofs.Links.{forest_of-linked, stands_used}
use Rattle.dom_arena.proofs.Limits.{limits_allow}
use Rattle.dom_arena.proofs.Placed.{StandsBeside, Stands-placed_by, total as all_counted, size_nodes as all_sized}
use Rattle.dom_arena.proofs.Writes.{length-placed, slot_at-free, length-free, Stands-free}

-- the view gives back the forest that the slots stand for
pub tree_of-stands : (slots : List Slot) (f : Forest) → Stands slots f → tree_of slots ≡ record { nodes = f; next = length slots }
tree_of-stands slots f stands =
    let first : (slot_at slots 0).first_child ≡ head f = ap (λ (x : Slot). x.first_child) stands.linked.0 in
    let back : forest_of (length slots) (slot_at slots) (head f) ≡ f =
    forest_of-linked (slot_at slots) f (length slots) 0 0 stands.linked.1 (omega (arith, stands.tree.once 0)) stands.fits in
    ap (λ (g : Forest). record { nodes = g; next = length slots }) (ap (forest_of (length slots) (slot_at slots)) first ∙ back)

-- slots that stand for a forest stand for the one that they are seen as
pub Stands-viewed : (slots : List Slot) (f : Forest) → Stands slots f → Stands slots (tree_of slots).nodes
Stands-viewed slots f stands = subst (λ (t : Tree). Stands slots t.nodes) (sym (tree_of-stands slots f stands)) stands

module _ (slots : List Slot) (f : Forest) (stands : Stands slots f) (n : ℕ) (n_in : n < length slots) (unused : count n (rooted f) ≡ 0) (room : size f < length slots) (p i : ℕ) (c : Content)
    (used : IsUsed slots p) (holds : may_hold (slot_at slots p).payload ≡ true) (childless : MayHave c empty) (ordinary : IsOrdinary c)
    (le : i ≤ length (tops (children (find p (rooted f))))) (e : ℕ) (deep : depth_in p 0 (rooted f) ≡ Some e) (shallow : e < 512) (few : size f < 1000000) where
  abbrev kids : Forest
  kids = children (find p (rooted f))

  abbrev new_nodes : Forest
  new_nodes = children (with_children p (insert_at i (node n c empty empty) kids) (rooted f))

  -- nothing is below a new node
  alone : StandsBeside slots f n empty
  alone = record {
    linked = stands.linked;
    others = λ k z other none. stands.others k z;
    tree = stands.tree;
    held = tt;
    apart = λ k. elim (same_cases k n) [
      | inl q ↦ omega (arith, ap (λ (j : ℕ). count j (rooted f)) q.0, unused)
      | inr q ↦ omega (arith, stands.tree.once k)
    ];
    inside = λ k h. elim (same_cases k n) [ inl q ↦ absurd (omega (arith, n_in, q.0)) | inr q ↦ omega arith ];
    grown = tt;
    ordinary = tt;
    fits = omega (arith, room);
  }

  -- each number stands as often as before, and the new one once more
  pub total : (k : ℕ) → count k (with_children p (insert_at i (node n c empty empty) kids) (rooted f)) ≡ count k (rooted f) + same k n
  total k = omega (arith, all_counted slots f n empty alone p i c (stands_used slots f stands p used) holds childless ordinary le e deep (omega arith) (omega arith) k)

  pub size_nodes : size new_nodes ≡ size f + 1
  size_nodes = omega (arith, all_sized slots f n empty alone p i c (stands_used slots f stands p used) holds childless ordinary le e deep (omega arith) (omega arith))

  -- the slots stand for the tree with the new node, from what a body says of its writes
  pub Stands-put : (b a : ℕ) → b ≡ before_place 0 i kids → a ≡ head (from_place i kids) → Stands (put n p b a c slots) new_nodes
  Stands-put b a eb ea =
      Stands-placed_by slots f n empty alone p i c (stands_used slots f stands p used) holds childless ordinary le e deep (omega arith) (omega arith) b a (cell p empty a b c) eb ea refl

-- all of it, from what a body says of its writes
pub added_arena : (slots : List Slot) (nodes p i b a : ℕ) (c : Content) (made : List Slot) → IsArena slots nodes
    → IsUsed slots p → may_hold (slot_at slots p).payload ≡ true → MayHave c empty → IsOrdinary c
    → i ≤ length (tops (children (find p (rooted (tree_of slots).nodes))))
    → (e : ℕ) → depth_in p 0 (rooted (tree_of slots).nodes) ≡ Some e → ((d : Content) → limits_refused (Some e) nodes ((0, d) ∷ []) ≡ None)
    → b ≡ before_place 0 i (children (find p (rooted (tree_of slots).nodes))) → a ≡ head (from_place i (children (find p (rooted (tree_of slots).nodes))))
    → made ≡ put (length slots) p b a c (slots ++ replicate 1 free)
    → IsArena made (nodes + 1) × (tree_of made ≡ added p i (node (length slots) c empty empty) (tree_of slots))
added_arena slots nodes p i b a c made arena used holds childless ordinary le e deep allowed eb ea em =
    let f : Forest = (tree_of slots).nodes in
    let n : ℕ = length slots in
    let more : List Slot = slots ++ replicate 1 free in
    let long : length more ≡ length slots + 1 = length-free slots 1 in
    let stands : Stands more f = Stands-free slots 1 f arena.stands in
    let n_in : n < length more = omega arith in
    let unused : count n (rooted f) ≡ 0 = arena.stands.tree.below n (omega arith) in
    let room : size f < length more = omega (arith, arena.stands.fits) in
    let same_p : slot_at more p ≡ slot_at slots p = slot_at-free slots 1 p in
    let used' : IsUsed more p = λ e. used (ap (λ (x : Slot). x.payload) (sym same_p) ∙ e) in
    let holds' : may_hold (slot_at more p).payload ≡ true = ap (λ (x : Slot). may_hold x.payload) same_p ∙ holds in
    let limits : (e < 512) × (nodes < 1000000) = limits_allow e nodes c (allowed c) in
    let few : size f < 1000000 = omega (arith, arena.counted, limits.1) in
    let nodes' : Forest = new_nodes more f stands n n_in unused room p i c used' holds' childless ordinary le e deep limits.0 few in
    let grown : size nodes' ≡ size f + 1 = size_nodes more f stands n n_in unused room p i c used' holds' childless ordinary le e deep limits.0 few in
    let after : Stands made nodes' =
    subst (λ (l : List Slot). Stands l nodes') (sym em) (Stands-put more f stands n n_in unused room p i c used' holds' childless ordinary le e deep limits.0 few b a eb ea) in
    let same_tree : tree_of made ≡ added p i (node (length slots) c empty empty) (tree_of slots) =
    tree_of-stands made nodes' after ∙ ap (λ (k : ℕ). record { nodes = nodes'; next = k }) (ap length em ∙ length-placed n p b a (cell p empty a b c) more ∙ long) in (
      record {
        stands = Stands-viewed made nodes' after;
        counted = omega (arith, arena.counted, grown, ap (λ (t : Tree). size t.nodes) same_tree);
      },
      same_tree,
    )

-- the place behind the last child
pub before_place-end : (b : ℕ) (f : Forest) → before_place b (length (tops f)) f ≡ last_behind b f
before_place-end b empty = refl
before_place-end b (node n c ks later) = before_place-end n later

-- no node stands behind the last child
pub from_place-end : (f : Forest) → head (from_place (length (tops f)) f) ≡ 0
from_place-end empty = refl
from_place-end (node n c ks later) = from_place-end later
