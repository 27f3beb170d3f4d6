-- A node moved with all that is below it: where it may go, and what the slots stand for then.
use Rattle.std.proofs.Common.{◌≡◌, ℕ, suc, ◌+◌, ◌<◌, ◌≤◌, List, Some, true, length, refl, sym, ◌∙◌, ap, subst, inl, inr, arith}
use Rattle.std.proofs.lemmas.Bool.{cases_eq}
use Rattle.page_tree.specs.Forest.{Content, Forest, empty, node, Tree, rooted, same, count, size, height, head, tops, find, children, depth_in}
use Rattle.page_tree.specs.Edits.{insert_at, with_children, without, subtree, alone, moved}
use Rattle.page_tree.specs.Trees.{MayHave, IsGrown, IsOrdinary, AreOrdinary}
use Rattle.page_tree.proofs.Finding.{find-rooted, same_cases, count-find, count-parts, same-eq}
use Rattle.dom_arena.specs.declared.table.Slot.{Slot}
use Rattle.dom_arena.specs.Contents.{payload_of, content_of, may_hold}
use Rattle.dom_arena.specs.Slots.{slot_at, IsUsed, last, cell, with_link, past, placed}
use Rattle.dom_arena.specs.Linked.{Stands, IsArena, tree_of, kids_of, from_place, before_place}
use Rattle.dom_arena.specs.Moves.{CanMove}
use Rattle.dom_arena.specs.Parts.{part_from, HoldPart}
use Rattle.dom_arena.proofs.Parting.{part_from-linked}
use Rattle.dom_arena.proofs.Links.{content_of-payload_of, stands_used, no_zero, IsCell, IsCell-find}
use Rattle.dom_arena.proofs.Siblings.{before_place-in, from_place-in}
use Rattle.dom_arena.proofs.Family.{Family, family, found_node, counted_used}
use Rattle.page_tree.proofs.Keeps.{Named, Every-find}
use Rattle.page_tree.proofs.Depths.{depth_in-without}
use Rattle.dom_arena.proofs.Added.{tree_of-stands, Stands-viewed}
use Rattle.dom_arena.proofs.Placed.{StandsBeside, Stands-placed_by, size_nodes}
use Rattle.dom_arena.proofs.Unlinked.{count_tops-le, IsChild, child_of}
use Rattle.dom_arena.proofs.Without.{count-without_le, children-without}
use Rattle.dom_arena.proofs.Detached.{linked_unique, kids_of_cell, without-rooted, total, sizes, slot_kept, stands_beside, length_made}
use Rattle.dom_arena.proofs.Writes.{payload-with_link, payload-with_back_link, length-placed}

-- what the slot of a node says of it and of what is below it
pub record IsPart (slot : Slot) (n : ℕ) (found : Forest) : Type 0 where
  pub whole : alone found ≡ node n (content_of slot.payload) (children found) empty
  pub payload : slot.payload ≡ payload_of (content_of slot.payload)
  pub may : MayHave (content_of slot.payload) (children found)
  pub ordinary : IsOrdinary (content_of slot.payload)

part_of_cell : (s : ℕ → Slot) (n : ℕ) (g : Forest) → IsCell s n g → IsGrown g → AreOrdinary g → IsPart (s n) n g
part_of_cell s n empty h a o = absurd h
part_of_cell s n (node m c kids later) h a o =
    let e : content_of (s n).payload ≡ c = ap content_of h.3 ∙ content_of-payload_of c in
    record {
      whole = ap (λ (j : ℕ). node j c kids empty) (sym h.0) ∙ ap (λ (x : Content). node n x kids empty) (sym e);
      payload = h.3 ∙ ap payload_of (sym e);
      may = subst (λ (x : Content). MayHave x kids) (sym e) a.0;
      ordinary = subst IsOrdinary (sym e) o.0;
    }

module _ (slots : List Slot) (f : Forest) (stands : Stands slots f) (n : ℕ) (used : IsUsed slots n) (nz : n ≡ 0 → ⊥) where
  abbrev under : Forest
  under = children (find n (rooted f))

  abbrev c : Content
  c = content_of (slot_at slots n).payload

  part : IsPart (slot_at slots n) n (find n f)
  part = part_of_cell (slot_at slots) n (find n f) (subst (IsCell (slot_at slots) n) (find-rooted n f nz) (found_node slots f stands n used)) (Every-find MayHave n f stands.tree.grown) (Every-find Named n f stands.tree.ordinary)

  same_under : children (find n f) ≡ under
  same_under = ap children (sym (find-rooted n f nz))

  -- the part that is moved
  pub whole : subtree n f ≡ node n c under empty
  whole = part.whole ∙ ap (λ (g : Forest). node n c g empty) same_under

  -- how often a number stands in it, and how high it is
  pub count-subtree : (j : ℕ) → count j (subtree n f) ≡ same j n + count j under
  count-subtree j = omega (arith, ap (count j) whole)

  pub height-subtree : height (subtree n f) ≡ suc (height under)
  height-subtree = omega (arith, ap height whole)

  own : Family slots n under
  own = family slots f stands n used

  -- what is below it is a part of the slots
  pub part_under : (first : ℕ) → first ≡ (slot_at slots n).first_child → HoldPart slots (part_from slots first) first × (part_from slots first ≡ under)
  part_under first e =
      let headed : first ≡ head under = e ∙ own.first in
      let all : size (without n f) + suc (size under) ≡ size f = sizes slots f stands n used nz in
      let fits : size under ≤ length slots = omega (arith, all, stands.fits) in
      let same_part : part_from slots first ≡ under = part_from-linked slots under first n 0 own.linked headed own.no_zero fits in (
        subst (λ (g : Forest). HoldPart slots g first) (sym same_part)
            (record {
              parent = n;
              previous = 0;
              linked = own.linked;
              headed = sym headed;
              once = own.once;
              no_zero = own.no_zero;
              fits = fits;
              few = omega (arith, all, stands.tree.few);
            }),
        same_part,
      )

  -- on the way up from a node, it is as much below n as its parent
  module _ (j : ℕ) (used_j : IsUsed slots j) (other : j ≡ n → ⊥) (nz_j : j ≡ 0 → ⊥) where
    abbrev q : ℕ
    q = (slot_at slots j).parent

    child : IsChild j q (rooted f)
    child = elim (child_of (slot_at slots) j (rooted f) 0 0 stands.linked stands.tree.once (stands_used slots f stands j used_j)) [
      | inl r ↦ absurd (elim (same_cases j 0) [ inl x ↦ nz_j x.0 | inr x ↦ omega (arith, r.1, x.1) ])
      | inr r ↦ r
    ]

    -- its parent is a node
    pub parent_counted : 0 < count q (rooted f)
    parent_counted = child.there

    kids_there : 0 < count j (children (find q (rooted f)))
    kids_there = omega (arith, child.child, count_tops-le j (children (find q (rooted f))))

    pub within_up : 0 < count q (subtree n f) → 0 < count j (subtree n f)
    within_up h = elim (cases_eq q n) [
      | inl e ↦ omega (arith, count-subtree j, kids_there, ap (λ (i : ℕ). count j (children (find i (rooted f)))) e)
      | inr ne ↦
          let inside : 0 < count q under = elim (same_cases q n) [ inl x ↦ absurd (ne x.0) | inr x ↦ omega (arith, count-subtree q, h, x.1) ] in
          let found = kids_of_cell (slot_at slots) q (find q under) (IsCell-find (slot_at slots) q under n 0 own.linked inside) in
          let whole_found = kids_of_cell (slot_at slots) q (find q (rooted f)) (IsCell-find (slot_at slots) q (rooted f) 0 0 stands.linked child.there) in
          let zero_under : count 0 (children (find q under)) ≡ 0 = omega (arith, count-find 0 q under, count-parts 0 (find q under), own.no_zero) in
          let zero_whole : count 0 (children (find q (rooted f))) ≡ 0 = (no_zero q f (stands.tree.once 0)).0 in
          let e : children (find q (rooted f)) ≡ children (find q under) =
          linked_unique (slot_at slots) (children (find q (rooted f))) (children (find q under)) q 0 q 0 whole_found.1 found.1 (sym whole_found.0 ∙ found.0) zero_whole zero_under in
          omega (arith, count-subtree j, kids_there, ap (count j) e, count-find j q under, count-parts j (find q under))
    ]

    pub within_down : 0 < count j (subtree n f) → 0 < count q (subtree n f)
    within_down h =
        let inside : 0 < count j under = elim (same_cases j n) [ inl x ↦ absurd (other x.0) | inr x ↦ omega (arith, count-subtree j, h, x.1) ] in
        elim (child_of (slot_at slots) j under n 0 own.linked own.once inside) [
          | inl r ↦ omega (arith, count-subtree q, same-eq q n r.0)
          | inr r ↦ omega (arith, count-subtree q, r.there)
        ]

  -- the node itself is within, and the document isn't
  pub within_self : (j : ℕ) → j ≡ n → 0 < count j (subtree n f)
  within_self j e = omega (arith, count-subtree j, same-eq j n e)

  pub document_apart : (j : ℕ) → j ≡ 0 → count j (subtree n f) ≡ 0
  document_apart j e = elim (same_cases j n) [
    | inl x ↦ absurd (nz (sym x.0 ∙ e))
    | inr x ↦ omega (arith, count-subtree j, x.1, own.no_zero, ap (λ (i : ℕ). count i under) e)
  ]

module _ (slots : List Slot) (f : Forest) (stands : Stands slots f) (n : ℕ) (used : IsUsed slots n) (nz : n ≡ 0 → ⊥) (p : ℕ) (used_p : IsUsed slots p) (apart : count p (subtree n f) ≡ 0) where
  -- another node stays
  pub stays : 0 < count p (rooted (without n f))
  stays =
      let out : same p n + count p (children (find n (rooted f))) ≡ 0 = omega (arith, apart, count-subtree slots f stands n used nz p) in
      omega (arith, total slots f stands n used nz p, out, stands_used slots f stands p used_p)

  stays_rooted : 0 < count p (without n (rooted f))
  stays_rooted = rw (without-rooted n f nz) stays

  -- with its other children
  pub others_same : children (find p (rooted (without n f))) ≡ without n (children (find p (rooted f)))
  others_same =
      ap (λ (x : Forest). children (find p x)) (sym (without-rooted n f nz)) ∙ children-without n p (rooted f) (stands.tree.once p) (stands.tree.once n) stays_rooted

  -- and its depth
  pub depth_same : depth_in p 0 (rooted (without n f)) ≡ depth_in p 0 (rooted f)
  depth_same =
      elim (same_cases p 0) [
        | inl q ↦ rw q.2 refl
        | inr q ↦ rw (q.2, depth_in-without p n 1 f (omega (arith, stands.tree.once n)) apart) refl
      ]

-- the slot of a node with another place
placed_cell : (x : Slot) (p a b : ℕ) (c : Content) (under : Forest) → x.first_child ≡ head under → x.last_child ≡ last under → x.payload ≡ payload_of c
    → (let y : Slot = record x { parent = p; next = a; previous = b } in y) ≡ cell p under a b c
placed_cell x p a b c under e1 e2 e3 = rw (e1, e2, e3) refl

-- links keep what each slot holds
payload-past : (k j : ℕ) (slots : List Slot) → (slot_at (past k slots) j).payload ≡ (slot_at slots j).payload
payload-past k j slots =
    payload-with_back_link (slot_at slots k).previous (slot_at slots k).parent (slot_at slots k).next j (with_link (slot_at slots k).next (slot_at slots k).parent (slot_at slots k).previous slots)
    ∙ payload-with_link (slot_at slots k).next (slot_at slots k).parent (slot_at slots k).previous j slots

-- the numbers of nodes stay used
pub used-past : (k j : ℕ) (slots : List Slot) → IsUsed slots j → IsUsed (past k slots) j
used-past k j slots used h = used (sym (payload-past k j slots) ∙ h)

-- the slots where a node was taken out of its place and put to another stand for the tree where it is moved
pub moved_arena : (slots : List Slot) (nodes n p i b a : ℕ) (made : List Slot) → IsArena slots nodes → CanMove slots n p i b a
    → made ≡ placed n p b a (record (slot_at (past n slots) n) { parent = p; next = a; previous = b }) (past n slots)
    → IsArena made nodes × (tree_of made ≡ moved n p i (tree_of slots))
moved_arena slots nodes n p i b a made arena can em =
    let f : Forest = (tree_of slots).nodes in
    let g : Forest = without n f in
    let kk : Forest = children (find n (rooted f)) in
    let mid : List Slot = past n slots in
    let stands : Stands slots f = arena.stands in
    let d : Content = content_of (slot_at slots n).payload in
    let fam : Family slots n kk = family slots f stands n can.node in
    let is_part : IsPart (slot_at slots n) n (find n f) = part slots f stands n can.node can.not_document in
    let whole' : subtree n f ≡ node n d kk empty = whole slots f stands n can.node can.not_document in
    let beside' : StandsBeside mid g n kk = stands_beside slots f stands n can.node can.not_document in
    let kept : slot_at mid n ≡ slot_at slots n = slot_kept slots f stands n can.node can.not_document in
    let there : 0 < count p (rooted g) = stays slots f stands n can.node can.not_document p can.used can.apart in
    let kids_same : children (find p (rooted g)) ≡ without n (children (find p (rooted f))) = others_same slots f stands n can.node can.not_document p can.used can.apart in
    let deep : depth_in p 0 (rooted g) ≡ Some can.depth = depth_same slots f stands n can.node can.not_document p can.used can.apart ∙ can.deep in
    let holds : may_hold (slot_at mid p).payload ≡ true = ap may_hold (payload-past n p slots) ∙ can.holds in
    let may : MayHave d kk = subst (MayHave d) (same_under slots f stands n can.node can.not_document) is_part.may in
    let le : i ≤ length (tops (children (find p (rooted g)))) = rw kids_same can.within in
    let low : can.depth + suc (height kk) ≤ 512 = omega (arith, can.low, height-subtree slots f stands n can.node can.not_document) in
    let sum : size g + suc (size kk) ≡ size f = sizes slots f stands n can.node can.not_document in
    let few : size g + suc (size kk) ≤ 1000000 = omega (arith, sum, stands.tree.few) in
    let slot : Slot = record (slot_at mid n) { parent = p; next = a; previous = b } in
    let slot_is : slot ≡ cell p kk a b d =
    placed_cell (slot_at mid n) p a b d kk (ap (λ (x : Slot). x.first_child) kept ∙ fam.first) (ap (λ (x : Slot). x.last_child) kept ∙ fam.last) (ap (λ (x : Slot). x.payload) kept ∙ is_part.payload) in
    let nodes' : Forest = children (with_children p (insert_at i (node n d kk empty) (children (find p (rooted g)))) (rooted g)) in
    let after : Stands (placed n p b a slot mid) nodes' =
    Stands-placed_by mid g n kk beside' p i d there holds may is_part.ordinary le can.depth deep low few b a slot
    (can.left ∙ ap (before_place 0 i) (sym kids_same)) (can.right ∙ ap (λ (x : Forest). head (from_place i x)) (sym kids_same)) slot_is in
    let after' : Stands made nodes' = subst (λ (l : List Slot). Stands l nodes') (sym em) after in
    let long : length made ≡ length slots =
    ap length em ∙ length-placed n p b a slot mid ∙ length_made slots f stands n can.node can.not_document in
    let grown : size nodes' ≡ size g + suc (size kk) = size_nodes mid g n kk beside' p i d there holds may is_part.ordinary le can.depth deep low few in
    let same_tree : tree_of made ≡ moved n p i (tree_of slots) =
    tree_of-stands made nodes' after' ∙ ap (λ (k : ℕ). record { nodes = nodes'; next = k }) long
    ∙ ap (λ (x : Forest). record { nodes = children (with_children p (insert_at i x (children (find p (rooted g)))) (rooted g)); next = length slots }) (sym whole') in (
      record {
        stands = Stands-viewed made nodes' after';
        counted = omega (arith, arena.counted, sum, grown, ap size (ap (λ (t : Tree). t.nodes) (tree_of-stands made nodes' after')));
      },
      same_tree,
    )

-- the siblings beside the new place are nodes, and stay so where the node leaves its old place
module _ (slots : List Slot) (stands : Stands slots (tree_of slots).nodes) (n p i b a : ℕ) (can : CanMove slots n p i b a) where
  among_used : (k : ℕ) → 0 < count k (without n (kids_of p (tree_of slots))) → IsUsed (past n slots) k
  among_used k h =
      used-past n k slots
      (counted_used slots (tree_of slots).nodes stands k
      (omega (arith, count-without_le k n (kids_of p (tree_of slots)), count-find k p (rooted (tree_of slots).nodes), count-parts k (find p (rooted (tree_of slots).nodes)))))

  pub before_used_then : (b ≡ 0 → ⊥) → IsUsed (past n slots) b
  before_used_then ne = elim (before_place-in 0 i (without n (kids_of p (tree_of slots)))) [
    | inl e ↦ absurd (ne (can.left ∙ e))
    | inr h ↦ among_used b (rw can.left h)
  ]

  pub after_used_then : (a ≡ 0 → ⊥) → IsUsed (past n slots) a
  after_used_then ne = elim (from_place-in i (without n (kids_of p (tree_of slots)))) [
    | inl e ↦ absurd (ne (can.right ∙ e))
    | inr h ↦ among_used a (rw can.right h)
  ]
