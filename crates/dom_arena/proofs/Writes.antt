-- The slots after a new node was written and linked in between two siblings.
use Rattle.std.proofs.Common.{◌≡◌, ℕ, ◌+◌, ◌-◌, ◌<◌, ◌≤◌, eqb, List, ◌++◌, length, set, refl, sym, ◌∙◌, ap, inl, inr, arith, length-set, length-append}
use Rattle.std.proofs.lemmas.Bool.{cases_eq, cases_lt, cond-true, cond-false, eq-eqb, ne_eqb}
use Rattle.std.proofs.Math.ListN.{replicate}
use Rattle.std.proofs.lemmas.List.{get_or_past, get_or_append_left, get_or-append_right, get_or-replicate, length-replicate}
use Rattle.page_tree.specs.Forest.{Content, Forest, empty, rooted}
use Rattle.dom_arena.specs.declared.kinds.Payload.TheVariants.{Free}
use Rattle.dom_arena.specs.declared.table.Slot.{Slot}
use Rattle.dom_arena.specs.Slots.{free, slot_at, IsUsed, cell, with_link, with_back_link, placed, put}
use Rattle.dom_arena.specs.Linked.{Stands}
use Rattle.dom_arena.proofs.Links.{used_inside}
use Rattle.dom_arena.proofs.Siblings.{Linked-frame}
use Rattle.dom_arena.proofs.Grafts.{slot_at-set_same, slot_at-set_other}

-- a link keeps how many slots there are
pub length-with_link : (n p b : ℕ) (slots : List Slot) → length (with_link n p b slots) ≡ length slots
length-with_link n p b slots =
    elim (cases_eq b 0) [
      | inl z ↦ rw (eq-eqb b 0 z) (length-set slots p _)
      | inr ne ↦ rw (ne_eqb b 0 ne) (length-set slots b _)
    ]

pub length-with_back_link : (n p a : ℕ) (slots : List Slot) → length (with_back_link n p a slots) ≡ length slots
length-with_back_link n p a slots =
    elim (cases_eq a 0) [
      | inl z ↦ rw (eq-eqb a 0 z) (length-set slots p _)
      | inr ne ↦ rw (ne_eqb a 0 ne) (length-set slots a _)
    ]

-- so does a node that is placed
pub length-placed : (n p b a : ℕ) (v : Slot) (slots : List Slot) → length (placed n p b a v slots) ≡ length slots
length-placed n p b a v slots = length-with_back_link n p a (with_link n p b (set slots n v)) ∙ length-with_link n p b (set slots n v) ∙ length-set slots n v

-- the siblings beside a place, or their parent, get new links: forwards to x, and backwards to y
module _ (slots : List Slot) (p b a x y : ℕ) (p_in : p < length slots) (b_in : (b ≡ 0 → ⊥) → b < length slots) (a_in : (a ≡ 0 → ⊥) → a < length slots)
    (b_not_p : (b ≡ 0 → ⊥) → b ≡ p → ⊥) (a_not_p : (a ≡ 0 → ⊥) → a ≡ p → ⊥) (a_not_b : (a ≡ 0 → ⊥) → a ≡ b → ⊥) where
  -- the slots after the first link, and after both
  abbrev mid : List Slot
  mid = with_link x p b slots

  abbrev done : List Slot
  done = with_back_link y p a mid

  -- which slot a link is written to
  mid_first : b ≡ 0 → mid ≡ set slots p (record (slot_at slots p) { first_child = x })
  mid_first z = cond-true (eqb b 0) _ _ (eq-eqb b 0 z)

  mid_next : (b ≡ 0 → ⊥) → mid ≡ set slots b (record (slot_at slots b) { next = x })
  mid_next ne = cond-false (eqb b 0) _ _ (ne_eqb b 0 ne)

  done_last : a ≡ 0 → done ≡ set mid p (record (slot_at mid p) { last_child = y })
  done_last z = cond-true (eqb a 0) _ _ (eq-eqb a 0 z)

  done_previous : (a ≡ 0 → ⊥) → done ≡ set mid a (record (slot_at mid a) { previous = y })
  done_previous ne = cond-false (eqb a 0) _ _ (ne_eqb a 0 ne)

  -- how many there are then
  length-mid : length mid ≡ length slots
  length-mid = length-with_link x p b slots

  -- the other slots stay
  mid_kept : (k : ℕ) → (b ≡ 0 → k ≡ p → ⊥) → ((b ≡ 0 → ⊥) → k ≡ b → ⊥) → slot_at mid k ≡ slot_at slots k
  mid_kept k np nb =
      elim (cases_eq b 0) [
        | inl z ↦ ap (λ (l : List Slot). slot_at l k) (mid_first z) ∙ slot_at-set_other slots p k _ (np z)
        | inr ne ↦ ap (λ (l : List Slot). slot_at l k) (mid_next ne) ∙ slot_at-set_other slots b k _ (nb ne)
      ]

  done_kept : (k : ℕ) → (a ≡ 0 → k ≡ p → ⊥) → ((a ≡ 0 → ⊥) → k ≡ a → ⊥) → slot_at done k ≡ slot_at mid k
  done_kept k np na =
      elim (cases_eq a 0) [
        | inl z ↦ ap (λ (l : List Slot). slot_at l k) (done_last z) ∙ slot_at-set_other mid p k _ (np z)
        | inr ne ↦ ap (λ (l : List Slot). slot_at l k) (done_previous ne) ∙ slot_at-set_other mid a k _ (na ne)
      ]

  pub linked_kept : (k : ℕ) → (k ≡ p → ⊥) → ((b ≡ 0 → ⊥) → k ≡ b → ⊥) → ((a ≡ 0 → ⊥) → k ≡ a → ⊥) → slot_at done k ≡ slot_at slots k
  linked_kept k np nb na = done_kept k (λ _. np) na ∙ mid_kept k (λ _. np) nb

  mid_parent : (first : ℕ) → (b ≡ 0 → first ≡ x) → ((b ≡ 0 → ⊥) → first ≡ (slot_at slots p).first_child) → slot_at mid p ≡ record (slot_at slots p) { first_child = first }
  mid_parent first new old =
      elim (cases_eq b 0) [
        | inl z ↦
            ap (λ (l : List Slot). slot_at l p) (mid_first z)
            ∙ slot_at-set_same slots p _ p_in
            ∙ ap (λ (k : ℕ). record (slot_at slots p) { first_child = k }) (sym (new z))
        | inr ne ↦
            mid_kept p (λ z. absurd (ne z)) (λ _ e. b_not_p ne (sym e))
            ∙ ap (λ (k : ℕ). record (slot_at slots p) { first_child = k }) (sym (old ne))
      ]

  -- the parent has new ends of its children where the place is at one
  pub linked_parent : (first last : ℕ) → (b ≡ 0 → first ≡ x) → ((b ≡ 0 → ⊥) → first ≡ (slot_at slots p).first_child)
      → (a ≡ 0 → last ≡ y) → ((a ≡ 0 → ⊥) → last ≡ (slot_at slots p).last_child)
      → slot_at done p ≡ record (slot_at slots p) { first_child = first; last_child = last }
  linked_parent first last new_first old_first new_last old_last =
      elim (cases_eq a 0) [
        | inl z ↦
            ap (λ (l : List Slot). slot_at l p) (done_last z)
            ∙ slot_at-set_same mid p _ (omega (arith, length-mid))
            ∙ ap (λ (s : Slot). record s { last_child = y }) (mid_parent first new_first old_first)
            ∙ ap (λ (k : ℕ). record (slot_at slots p) { first_child = first; last_child = k }) (sym (new_last z))
        | inr ne ↦
            done_kept p (λ z. absurd (ne z)) (λ _ e. a_not_p ne (sym e)) ∙ mid_parent first new_first old_first
            ∙ ap (λ (k : ℕ). record (slot_at slots p) { first_child = first; last_child = k }) (sym (old_last ne))
      ]

  -- the sibling before
  pub linked_before : (b ≡ 0 → ⊥) → slot_at done b ≡ record (slot_at slots b) { next = x }
  linked_before ne =
      done_kept b (λ _. b_not_p ne) (λ na e. a_not_b na (sym e))
      ∙ ap (λ (l : List Slot). slot_at l b) (mid_next ne)
      ∙ slot_at-set_same slots b _ (b_in ne)

  -- the sibling behind
  pub linked_after : (a ≡ 0 → ⊥) → slot_at done a ≡ record (slot_at slots a) { previous = y }
  linked_after ne =
      ap (λ (l : List Slot). slot_at l a) (done_previous ne)
      ∙ slot_at-set_same mid a _ (omega (arith, length-mid, a_in ne))
      ∙ ap (λ (s : Slot). record s { previous = y }) (mid_kept a (λ _. a_not_p ne) (λ nb e. a_not_b ne e))

-- the same where a node's slot is written before
module _ (slots : List Slot) (n : ℕ) (v : Slot) (p b a : ℕ) (n_in : n < length slots) (p_in : p < length slots) (b_in : (b ≡ 0 → ⊥) → b < length slots) (a_in : (a ≡ 0 → ⊥) → a < length slots)
    (p_not_n : p ≡ n → ⊥) (b_not_n : (b ≡ 0 → ⊥) → b ≡ n → ⊥) (a_not_n : (a ≡ 0 → ⊥) → a ≡ n → ⊥)
    (b_not_p : (b ≡ 0 → ⊥) → b ≡ p → ⊥) (a_not_p : (a ≡ 0 → ⊥) → a ≡ p → ⊥) (a_not_b : (a ≡ 0 → ⊥) → a ≡ b → ⊥) where
  -- the slots after the node's is written, and after both links
  abbrev start : List Slot
  start = set slots n v

  abbrev placed_slots : List Slot
  placed_slots = with_back_link n p a (with_link n p b start)

  p_in_start : p < length start
  p_in_start = omega (arith, length-set slots n v)

  b_in_start : (b ≡ 0 → ⊥) → b < length start
  b_in_start ne = omega (arith, length-set slots n v, b_in ne)

  a_in_start : (a ≡ 0 → ⊥) → a < length start
  a_in_start ne = omega (arith, length-set slots n v, a_in ne)

  -- beside the node, its parent and its neighbours each slot stays
  pub kept : (k : ℕ) → (k ≡ n → ⊥) → (k ≡ p → ⊥) → ((b ≡ 0 → ⊥) → k ≡ b → ⊥) → ((a ≡ 0 → ⊥) → k ≡ a → ⊥) → slot_at placed_slots k ≡ slot_at slots k
  kept k nn np nb na = linked_kept start p b a n n p_in_start b_in_start a_in_start b_not_p a_not_p a_not_b k np nb na ∙ slot_at-set_other slots n k v nn

  -- the node
  pub at_new : slot_at placed_slots n ≡ v
  at_new =
      linked_kept start p b a n n p_in_start b_in_start a_in_start b_not_p a_not_p a_not_b n (λ e. p_not_n (sym e)) (λ ne e. b_not_n ne (sym e)) (λ ne e. a_not_n ne (sym e))
      ∙ slot_at-set_same slots n v n_in

  -- the parent
  parent_started : slot_at start p ≡ slot_at slots p
  parent_started = slot_at-set_other slots n p v p_not_n

  pub at_parent : (first last : ℕ) → (b ≡ 0 → first ≡ n) → ((b ≡ 0 → ⊥) → first ≡ (slot_at slots p).first_child)
      → (a ≡ 0 → last ≡ n) → ((a ≡ 0 → ⊥) → last ≡ (slot_at slots p).last_child)
      → slot_at placed_slots p ≡ record (slot_at slots p) { first_child = first; last_child = last }
  at_parent first last new_first old_first new_last old_last =
      linked_parent start p b a n n p_in_start b_in_start a_in_start b_not_p a_not_p a_not_b first last
      new_first (λ ne. old_first ne ∙ sym (ap (λ (s : Slot). s.first_child) parent_started))
      new_last (λ ne. old_last ne ∙ sym (ap (λ (s : Slot). s.last_child) parent_started))
      ∙ ap (λ (s : Slot). record s { first_child = first; last_child = last }) parent_started

  -- the sibling before
  pub at_before : (b ≡ 0 → ⊥) → slot_at placed_slots b ≡ record (slot_at slots b) { next = n }
  at_before ne =
      linked_before start p b a n n p_in_start b_in_start a_in_start b_not_p a_not_p a_not_b ne
      ∙ ap (λ (s : Slot). record s { next = n }) (slot_at-set_other slots n b v (b_not_n ne))

  -- the sibling behind
  pub at_after : (a ≡ 0 → ⊥) → slot_at placed_slots a ≡ record (slot_at slots a) { previous = n }
  at_after ne =
      linked_after start p b a n n p_in_start b_in_start a_in_start b_not_p a_not_p a_not_b ne
      ∙ ap (λ (s : Slot). record s { previous = n }) (slot_at-set_other slots n a v (a_not_n ne))

-- a write that keeps what its slot holds keeps which numbers are used
payload-set : (slots : List Slot) (i k : ℕ) (v : Slot) → v.payload ≡ (slot_at slots i).payload → (slot_at (set slots i v) k).payload ≡ (slot_at slots k).payload
payload-set slots i k v same =
    elim (cases_eq k i) [
      | inr ne ↦ ap (λ (x : Slot). x.payload) (slot_at-set_other slots i k v ne)
      | inl e ↦ elim (cases_lt i (length slots)) [
        | inl lt ↦ ap (λ (j : ℕ). (slot_at (set slots i v) j).payload) e ∙ ap (λ (x : Slot). x.payload) (slot_at-set_same slots i v lt) ∙ same ∙ ap (λ (j : ℕ). (slot_at slots j).payload) (sym e)
        | inr le ↦ ap (λ (x : Slot). x.payload) (get_or_past (set slots i v) k free (omega (arith, length-set slots i v)) ∙ sym (get_or_past slots k free (omega arith)))
      ]
    ]

-- a link keeps what each slot holds
pub payload-with_link : (n p b k : ℕ) (slots : List Slot) → (slot_at (with_link n p b slots) k).payload ≡ (slot_at slots k).payload
payload-with_link n p b k slots =
    elim (cases_eq b 0) [
      | inl z ↦ rw (eq-eqb b 0 z) (payload-set slots p k _ refl)
      | inr ne ↦ rw (ne_eqb b 0 ne) (payload-set slots b k _ refl)
    ]

-- nor does one back
pub payload-with_back_link : (n p a k : ℕ) (slots : List Slot) → (slot_at (with_back_link n p a slots) k).payload ≡ (slot_at slots k).payload
payload-with_back_link n p a k slots =
    elim (cases_eq a 0) [
      | inl z ↦ rw (eq-eqb a 0 z) (payload-set slots p k _ refl)
      | inr ne ↦ rw (ne_eqb a 0 ne) (payload-set slots a k _ refl)
    ]

-- a new node changes what no other slot holds
pub payload-put : (n p b a k : ℕ) (c : Content) (slots : List Slot) → (k ≡ n → ⊥) → (slot_at (put n p b a c slots) k).payload ≡ (slot_at slots k).payload
payload-put n p b a k c slots ne =
    payload-with_back_link n p a k (with_link n p b (set slots n (cell p empty a b c)))
    ∙ payload-with_link n p b k (set slots n (cell p empty a b c))
    ∙ ap (λ (x : Slot). x.payload) (slot_at-set_other slots n k (cell p empty a b c) ne)

-- a slot that gets a node keeps which numbers are used
pub used-set : (slots : List Slot) (n : ℕ) (v : Slot) (k : ℕ) → (v.payload ≡ Free → ⊥) → IsUsed slots k → IsUsed (set slots n v) k
used-set slots n v k full used h =
    elim (cases_eq k n) [
      | inr ne ↦ used (sym (ap (λ (x : Slot). x.payload) (slot_at-set_other slots n k v ne)) ∙ h)
      | inl e ↦
          let inside : n < length slots = rw (← e) (used_inside slots k used) in
          full (sym (ap (λ (j : ℕ). (slot_at (set slots n v) j).payload) e ∙ ap (λ (x : Slot). x.payload) (slot_at-set_same slots n v inside)) ∙ h)
    ]

-- a link keeps which numbers are used
pub used-with_link : (n p b k : ℕ) (slots : List Slot) → IsUsed slots k → IsUsed (with_link n p b slots) k
used-with_link n p b k slots used h = used (sym (payload-with_link n p b k slots) ∙ h)

-- ---- free slots behind the others

-- they change no slot
pub slot_at-free : (slots : List Slot) (m k : ℕ) → slot_at (slots ++ replicate m free) k ≡ slot_at slots k
slot_at-free slots m k =
    elim (cases_lt k (length slots)) [
      | inl lt ↦ get_or_append_left slots (replicate m free) free k lt
      | inr le ↦ past le ∙ sym (get_or_past slots k free le)
    ]
  where
    past : length slots ≤ k → slot_at (slots ++ replicate m free) k ≡ free
    past le =
        get_or-append_right slots (replicate m free) (length slots) k free refl le
        ∙ elim (cases_lt (k - length slots) m) [
          | inl lt ↦ get_or-replicate m (k - length slots) free free lt
          | inr ge ↦ get_or_past (replicate m free) (k - length slots) free (omega (arith, length-replicate m free))
        ]

-- how many slots there are then
pub length-free : (slots : List Slot) (m : ℕ) → length (slots ++ replicate m free) ≡ length slots + m
length-free slots m = omega (arith, length-append slots (replicate m free), length-replicate m free)

-- so the slots stand for what they stood for
pub Stands-free : (slots : List Slot) (m : ℕ) (f : Forest) → Stands slots f → Stands (slots ++ replicate m free) f
Stands-free slots m f stands = record {
  linked = Linked-frame (slot_at slots) (slot_at (slots ++ replicate m free)) (rooted f) 0 0 (λ k h. slot_at-free slots m k) stands.linked;
  others = λ k z. slot_at-free slots m k ∙ stands.others k z;
  tree = record {
    once = stands.tree.once;
    below = λ k h. stands.tree.below k (omega (arith, length-free slots m));
    grown = stands.tree.grown;
    ordinary = stands.tree.ordinary;
    few = stands.tree.few;
    low = stands.tree.low;
  };
  fits = omega (arith, stands.fits, length-free slots m);
}
