-- An element with other attributes, in the forest and in the slots.
use Rattle.std.proofs.Common.{◌≡◌, ℕ, true, false, List, None, length, refl, sym, ◌∙◌, ap, subst, inl, inr, arith, length-set}
use Rattle.std.specs.Prelude.{unwrap_or}
use Rattle.page_tree.specs.Forest.{Content, document, element, text, comment, Forest, empty, node, Tree, rooted, count, size, head, find, content, name_of, attrs_of}
use Rattle.page_tree.specs.Edits.{with_content, rewritten, with_attr, without_attr, content_at, with_attr_set, with_attr_dropped, with_text}
use Rattle.page_tree.specs.Trees.{IsTree, MayHave, IsOrdinary, AreOrdinary, AreAttributes, IsLowerCase}
use Rattle.page_tree.specs.Refusals.{text_refused}
use Rattle.page_tree.proofs.Totals.{count-with_content, size-with_content}
use Rattle.page_tree.proofs.Keeps.{Named, AtFirst, Every-find, IsTree-rewritten, IsTree-with_text}
use Rattle.page_tree.proofs.Finding.{same_cases, or_else-empty}
use Rattle.dom_arena.specs.declared.kinds.Payload.{Payload}
use Rattle.dom_arena.specs.declared.table.Slot.{Slot}
use Rattle.dom_arena.specs.Contents.{payload_of}
use Rattle.dom_arena.specs.Slots.{slot_at, IsUsed, last_behind, cell, with_payload}
use Rattle.dom_arena.specs.Linked.{Linked, Stands, IsArena, tree_of}
use Rattle.dom_arena.specs.Attributes.{is_element, attrs_in, with_attrs}
use Rattle.dom_arena.proofs.Links.{IsCell, used_inside, stands_used}
use Rattle.dom_arena.proofs.Grafts.{slot_at-set_same, slot_at-set_other}
use Rattle.dom_arena.proofs.Family.{found_node}
use Rattle.dom_arena.proofs.Added.{tree_of-stands, Stands-viewed}
use Rattle.dom_arena.proofs.Attributes.{AreAttributes-with_attr, AreAttributes-without_attr}

-- ---- in the forest only contents change

module _ (k : ℕ) (new : Content) where
  -- numbers stay
  head-with_content : (f : Forest) → head (with_content k new f) ≡ head f
  head-with_content empty = refl
  head-with_content (node n c kids later) = refl

  last_behind-with_content : (b : ℕ) (f : Forest) → last_behind b (with_content k new f) ≡ last_behind b f
  last_behind-with_content b empty = refl
  last_behind-with_content b (node n c kids later) = last_behind-with_content n later

  cell-with_content : (parent : ℕ) (kids later : Forest) (previous : ℕ) (c : Content) → cell parent (with_content k new kids) (head (with_content k new later)) previous c ≡ cell parent kids (head later) previous c
  cell-with_content parent kids later previous c = rw (head-with_content kids, head-with_content later, last_behind-with_content 0 kids) refl

-- slots that differ in what one of them holds
Linked-with_content : (s s' : ℕ → Slot) (k : ℕ) (new : Content) (f : Forest) (parent previous : ℕ) → Linked s parent previous f
    → s' k ≡ record (s k) { payload = payload_of new } → ((j : ℕ) → (j ≡ k → ⊥) → s' j ≡ s j) → Linked s' parent previous (with_content k new f)
Linked-with_content s s' k new empty parent previous l at keep = tt
Linked-with_content s s' k new (node n c kids later) parent previous l at keep =
    elim (same_cases k n) [
      | inl q ↦
          let e : s' n ≡ cell parent (with_content k new kids) (head (with_content k new later)) previous new =
          ap s' (sym q.0) ∙ at ∙ ap (λ (x : Slot). record x { payload = payload_of new }) (ap s q.0 ∙ l.0) ∙ sym (cell-with_content k new parent kids later previous new) in
          rw q.2 (e, Linked-with_content s s' k new kids n 0 l.1 at keep, Linked-with_content s s' k new later parent n l.2 at keep)
      | inr q ↦
          let e : s' n ≡ cell parent (with_content k new kids) (head (with_content k new later)) previous c =
          keep n (λ e. q.0 (sym e)) ∙ l.0 ∙ sym (cell-with_content k new parent kids later previous c) in
          rw q.2 (e, Linked-with_content s s' k new kids n 0 l.1 at keep, Linked-with_content s s' k new later parent n l.2 at keep)
    ]

-- ---- the element of a slot

-- what the slot of an element holds, beside what the tree has
pub record HoldsElement (slots : List Slot) (k : ℕ) (c : Content) : Type 0 where
  pub payload : (slot_at slots k).payload ≡ payload_of (element (name_of c) (attrs_of c))
  pub ordinary : IsOrdinary (element (name_of c) (attrs_of c))

module _ (slots : List Slot) (f : Forest) (stands : Stands slots f) (k : ℕ) (used : IsUsed slots k) (nz : k ≡ 0 → ⊥) (is : is_element (slot_at slots k).payload ≡ true) where
  -- the slot of an element holds its name and its attributes, which are kept well
  pub holds_element : HoldsElement slots k (content_at k (record { nodes = f; next = length slots }))
  holds_element = of_found (find k (rooted f)) (found_node slots f stands k used) found_ordinary
    where
      below : find k (rooted f) ≡ find k f
      below = elim (same_cases k 0) [ inl q ↦ absurd (nz q.0) | inr q ↦ rw q.2 (or_else-empty (find k f)) ]

      found_ordinary : AreOrdinary (find k (rooted f))
      found_ordinary = subst AreOrdinary (sym below) (Every-find Named k f stands.tree.ordinary)

      of_found : (g : Forest) → IsCell (slot_at slots) k g → AreOrdinary g → HoldsElement slots k (unwrap_or (content g) document)
      of_found empty h o = absurd h
      of_found (node n document kids later) h o = absurd o.0
      of_found (node n (element name attrs) kids later) h o = record { payload = h.3; ordinary = o.0 }
      of_found (node n (text bytes) kids later) h o = let e : false ≡ true = ap is_element (sym h.3) ∙ is in cc
      of_found (node n (comment bytes) kids later) h o = let e : false ≡ true = ap is_element (sym h.3) ∙ is in cc

-- ---- the slots with other attributes stand for the tree with them

module _ (slots : List Slot) (f : Forest) (stands : Stands slots f) (k : ℕ) (used : IsUsed slots k) (nz : k ≡ 0 → ⊥) (new : Content) (tree : IsTree (rewritten k new (record { nodes = f; next = length slots }))) where
  abbrev new_slots : List Slot
  new_slots = with_payload k (payload_of new) slots

  -- one slot is written
  at_k : slot_at new_slots k ≡ record (slot_at slots k) { payload = payload_of new }
  at_k = slot_at-set_same slots k _ (used_inside slots k used)

  kept : (j : ℕ) → (j ≡ k → ⊥) → slot_at new_slots j ≡ slot_at slots j
  kept j ne = slot_at-set_other slots k j _ ne

  -- the slots are linked as before
  root_kept : Linked (slot_at new_slots) 0 0 (rooted (with_content k new f))
  root_kept =
      elim (same_cases k 0) [
        | inl q ↦ absurd (nz q.0)
        | inr q ↦ let l = Linked-with_content (slot_at slots) (slot_at new_slots) k new (rooted f) 0 0 stands.linked at_k kept in rw q.2 at l
      ]

  counted : (j : ℕ) → count j (rooted (with_content k new f)) ≡ count j (rooted f)
  counted j = rw (count-with_content j k new f) refl

  length_new : length new_slots ≡ length slots
  length_new = length-set slots k _

  -- so they stand for the tree with the new content
  pub Stands-rewritten : Stands new_slots (with_content k new f)
  Stands-rewritten = record {
    linked = root_kept;
    others = λ j z. kept j (λ e. omega (arith, counted j, stands_used slots f stands k used, ap (λ (i : ℕ). count i (rooted f)) e)) ∙ stands.others j (omega (arith, counted j));
    tree = subst (λ (n : ℕ). IsTree (record { nodes = with_content k new f; next = n })) (sym length_new) tree;
    fits = omega (arith, size-with_content k new f, length_new, stands.fits);
  }

-- all of it, from what a body says of its write
pub rewritten_arena : (slots : List Slot) (nodes k : ℕ) (new : Content) (made : List Slot) → IsArena slots nodes → IsUsed slots k → (k ≡ 0 → ⊥)
    → IsTree (rewritten k new (tree_of slots)) → made ≡ with_payload k (payload_of new) slots
    → IsArena made nodes × (tree_of made ≡ rewritten k new (tree_of slots))
rewritten_arena slots nodes k new made arena used nz tree e =
    let f : Forest = (tree_of slots).nodes in
    let stands : Stands (with_payload k (payload_of new) slots) (with_content k new f) = Stands-rewritten slots f arena.stands k used nz new tree in
    let same_tree : tree_of made ≡ rewritten k new (tree_of slots) =
    ap tree_of e ∙ tree_of-stands _ _ stands ∙ ap (λ (n : ℕ). record { nodes = with_content k new f; next = n }) (length-set slots k _) in (
      record {
        stands = subst (λ (l : List Slot). Stands l (tree_of l).nodes) (sym e) (Stands-viewed _ _ stands);
        counted = arena.counted ∙ sym (ap (λ (t : Tree). size t.nodes) same_tree ∙ size-with_content k new f);
      },
      same_tree,
    )

-- an element may have the children of any node
element_fits : (name : List ℕ) (attrs : List (List ℕ × List ℕ)) (f : Forest) → AtFirst (λ c kids. MayHave (element name attrs) kids) f
element_fits name attrs empty = tt
element_fits name attrs (node n c kids later) = tt

-- an attribute set and one dropped, from what the table says of its write
module _ (slots : List Slot) (nodes k : ℕ) (arena : IsArena slots nodes) (used : IsUsed slots k) (nz : k ≡ 0 → ⊥) (is : is_element (slot_at slots k).payload ≡ true) where
  abbrev here : Content
  here = content_at k (tree_of slots)

  held : HoldsElement slots k here
  held = holds_element slots (tree_of slots).nodes arena.stands k used nz is

  -- the attributes that a slot holds are kept well
  pub attrs_kept : AreAttributes (attrs_in (slot_at slots k).payload)
  attrs_kept = subst (λ (p : Payload). AreAttributes (attrs_in p)) (sym held.payload) held.ordinary.1

  -- an attribute set
  pub set_arena : (name value : List ℕ) (made : List Slot) → IsLowerCase name
      → made ≡ with_payload k (with_attrs (with_attr name value (attrs_in (slot_at slots k).payload)) (slot_at slots k).payload) slots
      → IsArena made nodes × (tree_of made ≡ with_attr_set k name value (tree_of slots))
  set_arena name value made low e =
      rewritten_arena slots nodes k (element (name_of here) (with_attr name value (attrs_of here))) made arena used nz
      (IsTree-rewritten (tree_of slots) arena.stands.tree k (element (name_of here) (with_attr name value (attrs_of here))) (held.ordinary.0, AreAttributes-with_attr name value (attrs_of here) low held.ordinary.1) (element_fits (name_of here) (with_attr name value (attrs_of here)) (find k (tree_of slots).nodes)))
      (e ∙ ap (λ (p : Payload). with_payload k (with_attrs (with_attr name value (attrs_in p)) p) slots) held.payload)

  -- an attribute dropped
  pub drop_arena : (name : List ℕ) (made : List Slot)
      → made ≡ with_payload k (with_attrs (without_attr name (attrs_in (slot_at slots k).payload)) (slot_at slots k).payload) slots
      → IsArena made nodes × (tree_of made ≡ with_attr_dropped k name (tree_of slots))
  drop_arena name made e =
      rewritten_arena slots nodes k (element (name_of here) (without_attr name (attrs_of here))) made arena used nz
      (IsTree-rewritten (tree_of slots) arena.stands.tree k (element (name_of here) (without_attr name (attrs_of here))) (held.ordinary.0, AreAttributes-without_attr name (attrs_of here) held.ordinary.1) (element_fits (name_of here) (without_attr name (attrs_of here)) (find k (tree_of slots).nodes)))
      (e ∙ ap (λ (p : Payload). with_payload k (with_attrs (without_attr name (attrs_in p)) p) slots) held.payload)

-- ---- a text with other bytes

pub text_arena : (slots : List Slot) (nodes k : ℕ) (bytes : List ℕ) (made : List Slot) → IsArena slots nodes → IsUsed slots k → (k ≡ 0 → ⊥) → text_refused k (tree_of slots) ≡ None
    → made ≡ with_payload k (payload_of (text bytes)) slots → IsArena made nodes × (tree_of made ≡ with_text k bytes (tree_of slots))
text_arena slots nodes k bytes made arena used nz accepted e =
    rewritten_arena slots nodes k (text bytes) made arena used nz (IsTree-with_text (tree_of slots) arena.stands.tree k bytes accepted) e
