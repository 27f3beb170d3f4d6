-- The slots with a node linked in, and all that is below it, stand for the tree with it.
use Rattle.std.proofs.Common.{◌≡◌, ℕ, zero, suc, ◌+◌, ◌<◌, ◌≤◌, List, Some, None, true, length, refl, sym, ◌∙◌, ap, subst, inl, inr, arith}
use Rattle.std.proofs.lemmas.Bool.{cases_lt}
use Rattle.page_tree.specs.Forest.{Content, Forest, empty, node, Tree, rooted, same, count, size, height, depth_in, head, tops, find, children}
use Rattle.page_tree.specs.Edits.{insert_at, with_children}
use Rattle.page_tree.specs.Trees.{IsTree, MayHave, IsGrown, IsOrdinary, AreOrdinary}
use Rattle.page_tree.proofs.Finding.{count-find, count-parts, same-same, same-eq, counted_apart}
use Rattle.page_tree.proofs.Totals.{count-with_children, count-insert}
use Rattle.dom_arena.specs.declared.table.Slot.{Slot}
use Rattle.dom_arena.specs.Contents.{may_hold}
use Rattle.dom_arena.specs.Slots.{free, slot_at, last_behind, last, cell, placed}
use Rattle.dom_arena.specs.Linked.{Linked, Stands, from_place, before_place}
use Rattle.page_tree.specs.Refusals.{parent_refused}
use Rattle.page_tree.proofs.Keeps.{IsTree-placed, size-placed}
use Rattle.dom_arena.proofs.Links.{IsCell-find}
use Rattle.dom_arena.proofs.Siblings.{Linked-frame, before_place-in, from_place-in, head-insert_first, Linked-insert}
use Rattle.dom_arena.proofs.Grafts.{Linked-rooted, after-parent, before-parent}
use Rattle.dom_arena.proofs.Family.{Family, family_of}
use Rattle.dom_arena.proofs.Refused.{is_parent}
use Rattle.dom_arena.proofs.Writes.{kept, at_new, at_parent, at_before, at_after, length-placed}

-- the slots stand for a forest, and beside it they hold what is below a node n that is not in the forest. The slot of n
-- itself may hold anything.
pub record StandsBeside (slots : List Slot) (f : Forest) (n : ℕ) (under : Forest) : Type 0 where
  pub linked : Linked (slot_at slots) 0 0 (rooted f)
  pub others : (k : ℕ) → count k (rooted f) ≡ 0 → (k ≡ n → ⊥) → count k under ≡ 0 → slot_at slots k ≡ free
  pub tree : IsTree (record { nodes = f; next = length slots })
  pub held : Linked (slot_at slots) n 0 under
  pub apart : (k : ℕ) → count k (rooted f) + (same k n + count k under) ≤ 1
  pub inside : (k : ℕ) → length slots ≤ k → same k n + count k under ≡ 0
  pub grown : IsGrown under
  pub ordinary : AreOrdinary under
  pub fits : size f + suc (size under) ≤ length slots

-- the first child after an insertion
head_after : (i n : ℕ) (c : Content) (under kids : Forest) → i ≤ length (tops kids) → count 0 kids ≡ 0
    → (before_place 0 i kids ≡ 0 → head (insert_at i (node n c under empty) kids) ≡ n) × ((before_place 0 i kids ≡ 0 → ⊥) → head (insert_at i (node n c under empty) kids) ≡ head kids)
head_after zero n c under kids le z = (λ e. head-insert_first n c under kids, λ ne. absurd (ne refl))
head_after (suc i) n c under empty le z = absurd (omega arith)
head_after (suc i) n c under (node m d ks ls) le z = (
  λ e. absurd (elim (before_place-in m i ls) [
    | inl q ↦ omega (arith, same-eq 0 m (sym e ∙ q))
    | inr h ↦ counted_apart (before_place m i ls) 0 ls h (omega arith) e
  ]),
  λ ne. refl,
)

-- the last child after an insertion
last_after : (i b n : ℕ) (c : Content) (under kids : Forest) → i ≤ length (tops kids) → count 0 kids ≡ 0
    → (head (from_place i kids) ≡ 0 → last_behind b (insert_at i (node n c under empty) kids) ≡ n)
    × ((head (from_place i kids) ≡ 0 → ⊥) → last_behind b (insert_at i (node n c under empty) kids) ≡ last_behind b kids)
last_after zero b n c under empty le z = (λ _. refl, λ ne. absurd (ne refl))
last_after (suc i) b n c under empty le z = absurd (omega arith)
last_after zero b n c under (node m d ks ls) le z = (λ e. absurd (omega (arith, same-eq 0 m (sym e))), λ _. refl)
last_after (suc i) b n c under (node m d ks ls) le z = last_after i m n c under ls (omega arith) (omega arith)

-- the sibling behind a place is none of those before it
after_not_before : (i b : ℕ) (kids : Forest) → ((k : ℕ) → count k kids ≤ 1) → count b kids ≡ 0 → count 0 kids ≡ 0 → (head (from_place i kids) ≡ 0 → ⊥) → head (from_place i kids) ≡ before_place b i kids → ⊥
after_not_before zero b empty once nb z ne e = ne refl
after_not_before zero b (node m d ks ls) once nb z ne e = counted_apart m b (node m d ks ls) (omega (arith, same-same m)) nb e
after_not_before (suc i) b empty once nb z ne e = ne refl
after_not_before (suc i) b (node m d ks ls) once nb z ne e =
    after_not_before i m ls (λ k. omega (arith, once k)) (omega (arith, once m, same-same m)) (omega arith) ne e

module _ (slots : List Slot) (f : Forest) (n : ℕ) (under : Forest) (stands : StandsBeside slots f n under) (p i : ℕ) (c : Content)
    (counted : 0 < count p (rooted f)) (holds : may_hold (slot_at slots p).payload ≡ true) (may : MayHave c under) (ordinary : IsOrdinary c)
    (le : i ≤ length (tops (children (find p (rooted f))))) (e : ℕ) (deep : depth_in p 0 (rooted f) ≡ Some e) (shallow : e + suc (height under) ≤ 512) (few : size f + suc (size under) ≤ 1000000) where
  -- the children before, the numbers beside the place, and what there is after
  abbrev kids : Forest
  kids = children (find p (rooted f))

  abbrev before : ℕ
  before = before_place 0 i kids

  abbrev after : ℕ
  after = head (from_place i kids)

  abbrev new_slots : List Slot
  new_slots = placed n p before after (cell p under after before c) slots

  abbrev grown_kids : Forest
  grown_kids = insert_at i (node n c under empty) kids

  abbrev new_nodes : Forest
  new_nodes = children (with_children p grown_kids (rooted f))

  -- what the slots say of the children, and that the numbers beside the place differ from each other and from the parent
  fam : Family slots p kids
  fam = family_of slots f stands.linked stands.tree p counted

  kids_inside : (k : ℕ) → count k kids ≤ count k (rooted f)
  kids_inside k = omega (arith, count-find k p (rooted f), count-parts k (find p (rooted f)))

  p_counted : count p (rooted f) ≡ 1
  p_counted = omega (arith, counted, stands.tree.once p)

  -- the node's number is not in the forest, and below the number of slots
  unused : count n (rooted f) ≡ 0
  unused = omega (arith, stands.apart n, same-same n)

  n_in : n < length slots
  n_in = elim (cases_lt n (length slots)) [ inl lt ↦ lt | inr ge ↦ absurd (omega (arith, stands.inside n ge, same-same n)) ]

  before_counted : (before ≡ 0 → ⊥) → 0 < count before kids
  before_counted ne = elim (before_place-in 0 i kids) [ inl e ↦ absurd (ne e) | inr h ↦ h ]

  after_counted : (after ≡ 0 → ⊥) → 0 < count after kids
  after_counted ne = elim (from_place-in i kids) [ inl e ↦ absurd (ne e) | inr h ↦ h ]

  b_in : (before ≡ 0 → ⊥) → before < length slots
  b_in ne = fam.inside before (before_counted ne)

  a_in : (after ≡ 0 → ⊥) → after < length slots
  a_in ne = fam.inside after (after_counted ne)

  b_not_p : (before ≡ 0 → ⊥) → before ≡ p → ⊥
  b_not_p ne = counted_apart before p kids (before_counted ne) fam.no_parent

  a_not_p : (after ≡ 0 → ⊥) → after ≡ p → ⊥
  a_not_p ne = counted_apart after p kids (after_counted ne) fam.no_parent

  a_not_b : (after ≡ 0 → ⊥) → after ≡ before → ⊥
  a_not_b ne = after_not_before i 0 kids fam.once fam.no_zero fam.no_zero ne

  -- the new number is of no node yet
  not_new : (k : ℕ) → 0 < count k (rooted f) → k ≡ n → ⊥
  not_new k h e = counted_apart k n (rooted f) h unused e

  p_not_n : p ≡ n → ⊥
  p_not_n = not_new p (omega (arith, p_counted))

  b_not_n : (before ≡ 0 → ⊥) → before ≡ n → ⊥
  b_not_n ne = not_new before (omega (arith, before_counted ne, kids_inside before))

  a_not_n : (after ≡ 0 → ⊥) → after ≡ n → ⊥
  a_not_n ne = not_new after (omega (arith, after_counted ne, kids_inside after))

  -- a slot beside those written stays
  stay : (k : ℕ) → (k ≡ n → ⊥) → (k ≡ p → ⊥) → ((before ≡ 0 → ⊥) → k ≡ before → ⊥) → ((after ≡ 0 → ⊥) → k ≡ after → ⊥) → slot_at new_slots k ≡ slot_at slots k
  stay = kept slots n (cell p under after before c) p before after n_in fam.present b_in a_in p_not_n b_not_n a_not_n b_not_p a_not_p a_not_b

  -- what is below the node stays
  held : Linked (slot_at new_slots) n 0 under
  held = Linked-frame (slot_at slots) (slot_at new_slots) under n 0 (λ k h.
      stay k (λ e. omega (arith, stands.apart k, same-eq k n e, h))
      (λ e. let w : count p under ≡ 0 = omega (arith, stands.apart p, counted) in counted_apart k p under h w e)
      (λ ne e. let w : count before under ≡ 0 = omega (arith, stands.apart before, before_counted ne, kids_inside before) in counted_apart k before under h w e)
      (λ ne e. let w : count after under ≡ 0 = omega (arith, stands.apart after, after_counted ne, kids_inside after) in counted_apart k after under h w e))
      stands.held

  -- the node's children
  below : Linked (slot_at new_slots) p 0 grown_kids
  below =
      Linked-insert (slot_at slots) (slot_at new_slots) n p c under held i 0 kids fam.linked fam.once fam.no_zero fam.no_zero le
      (at_new slots n (cell p under after before c) p before after n_in fam.present b_in a_in p_not_n b_not_n a_not_n b_not_p a_not_p a_not_b)
      (λ k h nb na. stay k (not_new k (omega (arith, kids_inside k))) (counted_apart k p kids h fam.no_parent) (λ _. nb) (λ _. na))
      (λ h. at_before slots n (cell p under after before c) p before after n_in fam.present b_in a_in p_not_n b_not_n a_not_n b_not_p a_not_p a_not_b (counted_apart before 0 kids h fam.no_zero))
      (λ h. at_after slots n (cell p under after before c) p before after n_in fam.present b_in a_in p_not_n b_not_n a_not_n b_not_p a_not_p a_not_b (counted_apart after 0 kids h fam.no_zero))

  -- the node itself
  parent_slot : slot_at new_slots p ≡ record (slot_at slots p) { first_child = head grown_kids; last_child = last grown_kids }
  parent_slot =
      let heads = head_after i n c under kids le fam.no_zero in
      let lasts = last_after i 0 n c under kids le fam.no_zero in
      at_parent slots n (cell p under after before c) p before after n_in fam.present b_in a_in p_not_n b_not_n a_not_n b_not_p a_not_p a_not_b (head grown_kids) (last grown_kids)
      heads.0 (λ ne. heads.1 ne ∙ sym fam.first) lasts.0 (λ ne. lasts.1 ne ∙ sym fam.last)

  -- the whole tree
  linked : Linked (slot_at new_slots) 0 0 (with_children p grown_kids (rooted f))
  linked = Linked-rooted (slot_at slots) (slot_at new_slots) p grown_kids f stands.linked parent_slot below (λ k h np parent.
      stay k (not_new k h) np
      (λ nb e. parent (ap (λ (j : ℕ). (slot_at slots j).parent) e ∙ before-parent (slot_at slots) p i 0 kids fam.linked nb))
      (λ na e. parent (ap (λ (j : ℕ). (slot_at slots j).parent) e ∙ after-parent (slot_at slots) p i 0 kids fam.linked na)))

  -- each number stands as often as before, and those of the node and of what is below it once more
  pub total : (k : ℕ) → count k (with_children p grown_kids (rooted f)) ≡ count k (rooted f) + (same k n + count k under)
  total k = omega (arith, count-with_children k p grown_kids (rooted f) p_counted, count-insert k i (node n c under empty) kids)

  -- the other slots are free
  others : (k : ℕ) → count k (with_children p grown_kids (rooted f)) ≡ 0 → slot_at new_slots k ≡ free
  others k z =
      let gone : count k (rooted f) ≡ 0 = omega (arith, total k) in
      let not_n : k ≡ n → ⊥ = λ e. omega (arith, total k, same-eq k n e) in
      stay k not_n (λ e. counted_apart p k (rooted f) counted gone (sym e))
      (λ nb e. counted_apart before k (rooted f) (omega (arith, before_counted nb, kids_inside before)) gone (sym e))
      (λ na e. counted_apart after k (rooted f) (omega (arith, after_counted na, kids_inside after)) gone (sym e))
      ∙ stands.others k gone not_n (omega (arith, total k))

  length_new : length new_slots ≡ length slots
  length_new = length-placed n p before after (cell p under after before c) slots

  -- it is a tree
  abbrev old : Tree
  old = record { nodes = f; next = length slots }

  parent_there : parent_refused p old ≡ None
  parent_there = is_parent (slot_at slots) p (find p (rooted f)) (IsCell-find (slot_at slots) p (rooted f) 0 0 stands.linked counted) holds

  pub size_nodes : size new_nodes ≡ size f + suc (size under)
  size_nodes = omega (arith, size-placed old stands.tree p i (length new_slots) e (node n c under empty) parent_there deep)

  tree_new : IsTree (record { nodes = new_nodes; next = length new_slots })
  tree_new =
      IsTree-placed old stands.tree p i (length new_slots) e (node n c under empty) parent_there deep
      (may, stands.grown, tt)
      (ordinary, stands.ordinary, tt)
      (λ k. omega (arith, stands.apart k))
      (λ k h. omega (arith, stands.tree.below k (omega (arith, length_new)), stands.inside k (omega (arith, length_new))))
      (omega (arith, few))
      (omega (arith, shallow))

  -- so the slots stand for the tree with the node
  pub Stands-placed : Stands new_slots new_nodes
  Stands-placed = record {
    linked = linked;
    others = others;
    tree = tree_new;
    fits = omega (arith, size_nodes, length_new, stands.fits);
  }

  -- the same, from what a body says of its writes
  pub Stands-placed_by : (b a : ℕ) (v : Slot) → b ≡ before → a ≡ after → v ≡ cell p under a b c → Stands (placed n p b a v slots) new_nodes
  Stands-placed_by b a v eb ea ev =
      subst (λ (x : Slot). Stands (placed n p b a x slots) new_nodes) (sym ev)
      (subst (λ (x : ℕ). Stands (placed n p x a (cell p under a x c) slots) new_nodes) (sym eb)
      (subst (λ (y : ℕ). Stands (placed n p before y (cell p under y before c) slots) new_nodes) (sym ea) Stands-placed))
