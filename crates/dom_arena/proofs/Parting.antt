-- Siblings in the slots, one after the other, and their slots made free.
use Rattle.std.proofs.Common.{◌≡◌, ℕ, ◌+◌, ◌<◌, ◌≤◌, max, List, length, set, refl, sym, ◌∙◌, ap, subst, inl, inr, arith, length-set}
use Rattle.std.proofs.lemmas.Bool.{cases_eq, cases_lt}
use Rattle.std.proofs.lemmas.List.{get_or_past}
use Rattle.page_tree.specs.Forest.{Forest, empty, node, same, count, size, height, head}
use Rattle.page_tree.proofs.Finding.{same_cases, same-eq}
use Rattle.dom_arena.specs.declared.table.Slot.{Slot}
use Rattle.dom_arena.specs.Slots.{free, slot_at, cell}
use Rattle.dom_arena.specs.Linked.{Linked, forest_of}
use Rattle.dom_arena.specs.Numbering.{cleared}
use Rattle.dom_arena.specs.Parts.{part_from, HoldPart, AreCleared}
use Rattle.dom_arena.proofs.Links.{forest_of-linked}
use Rattle.dom_arena.proofs.Siblings.{Linked-frame}
use Rattle.dom_arena.proofs.Grafts.{slot_at-set_same, slot_at-set_other}

-- the part from the first of linked siblings on is them
pub part_from-linked : (slots : List Slot) (part : Forest) (first parent previous : ℕ) → Linked (slot_at slots) parent previous part → first ≡ head part → count 0 part ≡ 0 → size part ≤ length slots → part_from slots first ≡ part
part_from-linked slots part first parent previous l e z fits = ap (forest_of (length slots) (slot_at slots)) e ∙ forest_of-linked (slot_at slots) part (length slots) parent previous l z fits

-- no part is higher than it has nodes
pub height-size : (f : Forest) → height f ≤ size f
height-size empty = omega arith
height-size (node n c kids later) = omega (arith, height-size kids, height-size later)

-- a free slot in place of another
pub free_at : (slots : List Slot) (n : ℕ) → slot_at (cleared n slots) n ≡ free
free_at slots n =
    elim (cases_lt n (length slots)) [
      | inl lt ↦ slot_at-set_same slots n free lt
      | inr le ↦ get_or_past (set slots n free) n free (omega (arith, length-set slots n free))
    ]

-- what is below the first of the siblings, and those behind it
pub record IsOpened (slots : List Slot) (part : Forest) (at below next : ℕ) : Type 0 where
  pub held_below : HoldPart slots (part_from slots below) below
  pub fewer_below : size (part_from slots below) < size part
  pub held_behind : HoldPart slots (part_from slots next) next
  pub fewer : size (part_from slots next) < size part
  pub high : max (1 + height (part_from slots below)) (height (part_from slots next)) ≡ height part
  pub counted : (k : ℕ) → same k at + (count k (part_from slots below) + count k (part_from slots next)) ≡ count k part
  pub sized : 1 + (size (part_from slots below) + size (part_from slots next)) ≡ size part

pub opened : (slots : List Slot) (part : Forest) (at below next : ℕ) → HoldPart slots part at → (at ≡ 0 → ⊥) → below ≡ (slot_at slots at).first_child → next ≡ (slot_at slots at).next → IsOpened slots part at below next
opened slots empty at below next h ne eb en = absurd (ne (sym h.headed))
opened slots (node n c kids later) at below next h ne eb en =
    let e : slot_at slots at ≡ cell h.parent kids (head later) h.previous c = ap (slot_at slots) (sym h.headed) ∙ h.linked.0 in
    let eb' : below ≡ head kids = eb ∙ ap (λ (x : Slot). x.first_child) e in
    let en' : next ≡ head later = en ∙ ap (λ (x : Slot). x.next) e in
    let pb : part_from slots below ≡ kids = part_from-linked slots kids below n 0 h.linked.1 eb' (omega (arith, h.no_zero)) (omega (arith, h.fits)) in
    let pn : part_from slots next ≡ later = part_from-linked slots later next h.parent n h.linked.2 en' (omega (arith, h.no_zero)) (omega (arith, h.fits)) in
    let of_below : HoldPart slots kids below = record {
      parent = n;
      previous = 0;
      linked = h.linked.1;
      headed = sym eb';
      once = λ k. omega (arith, h.once k);
      no_zero = omega (arith, h.no_zero);
      fits = omega (arith, h.fits);
      few = omega (arith, h.few);
    } in
    let of_behind : HoldPart slots later next = record {
      parent = h.parent;
      previous = n;
      linked = h.linked.2;
      headed = sym en';
      once = λ k. omega (arith, h.once k);
      no_zero = omega (arith, h.no_zero);
      fits = omega (arith, h.fits);
      few = omega (arith, h.few);
    } in
    let same_at : (k : ℕ) → same k at ≡ same k n = λ k. ap (same k) (sym h.headed) in
    record {
      held_below = subst (λ (g : Forest). HoldPart slots g below) (sym pb) of_below;
      fewer_below = subst (λ (g : Forest). size g < size (node n c kids later)) (sym pb) (omega arith);
      held_behind = subst (λ (g : Forest). HoldPart slots g next) (sym pn) of_behind;
      fewer = subst (λ (g : Forest). size g < size (node n c kids later)) (sym pn) (omega arith);
      high = omega (arith, ap height pb, ap height pn);
      counted = λ k. omega (arith, ap (count k) pb, ap (count k) pn, same_at k);
      sized = omega (arith, ap size pb, ap size pn);
    }

-- a part is held as before by slots that agree on it
part-frame : (old new : List Slot) (part : Forest) (first : ℕ) → HoldPart old part first → ((k : ℕ) → 0 < count k part → slot_at new k ≡ slot_at old k) → length new ≡ length old
    → HoldPart new part first × (part_from new first ≡ part)
part-frame old new part first h keep long =
    let l : Linked (slot_at new) h.parent h.previous part = Linked-frame (slot_at old) (slot_at new) part h.parent h.previous keep h.linked in (
      record {
        parent = h.parent;
        previous = h.previous;
        linked = l;
        headed = h.headed;
        once = h.once;
        no_zero = h.no_zero;
        fits = omega (arith, h.fits, long);
        few = h.few;
      },
      part_from-linked new part first h.parent h.previous l (sym h.headed) h.no_zero (omega (arith, h.fits, long)),
    )

-- the siblings up to one are cleared, with all below them: so many nodes of a part
pub record AreClearedTo (part : Forest) (old now : List Slot) (at count_gone : ℕ) : Type 0 where
  pub rest : HoldPart now (part_from now at) at
  pub inside : (k : ℕ) → count k (part_from now at) ≤ count k part
  pub kept : (k : ℕ) → count k part ≡ 0 → slot_at now k ≡ slot_at old k
  pub gone : (k : ℕ) → 0 < count k part → count k (part_from now at) ≡ 0 → slot_at now k ≡ free
  pub long : length now ≡ length old
  pub counted : count_gone + size (part_from now at) ≡ size part

-- at first none is
pub none_cleared : (slots : List Slot) (first : ℕ) → HoldPart slots (part_from slots first) first → AreClearedTo (part_from slots first) slots slots first 0
none_cleared slots first h = record {
  rest = h;
  inside = λ k. omega arith;
  kept = λ k z. refl;
  gone = λ k h z. absurd (omega arith);
  long = refl;
  counted = omega arith;
}

-- the part as it was is wholly cleared
pub all_cleared : (part : Forest) (old now : List Slot) (at gone : ℕ) → AreClearedTo part old now at gone → at ≡ 0 → AreCleared part old now × (gone ≡ size part)
all_cleared part old now at gone h z =
    let nothing : part_from now at ≡ empty = none (part_from now at) h.rest.headed h.rest.no_zero in (
      record {
        kept = h.kept;
        gone = λ k i. h.gone k i (ap (count k) nothing);
        long = h.long;
      },
      omega (arith, h.counted, ap size nothing),
    )
  where
    none : (g : Forest) → head g ≡ at → count 0 g ≡ 0 → g ≡ empty
    none empty e z' = refl
    none (node n c kids later) e z' = absurd (omega (arith, same-eq 0 n (sym (e ∙ z))))

-- one sibling more
pub cleared_step : (part : Forest) (old now mid : List Slot) (at below next gone more : ℕ) → AreClearedTo part old now at gone → (at ≡ 0 → ⊥)
    → below ≡ (slot_at now at).first_child → next ≡ (slot_at now at).next → AreCleared (part_from now below) now mid → more ≡ size (part_from now below)
    → AreClearedTo part old (cleared at mid) next (gone + (more + 1))
cleared_step part old now mid at below next gone more h ne eb en under em =
    let o : IsOpened now (part_from now at) at below next = opened now (part_from now at) at below next h.rest ne eb en in
    let other : (k : ℕ) → (k ≡ at → ⊥) → slot_at (cleared at mid) k ≡ slot_at mid k = λ k nk. slot_at-set_other mid at k free nk in
    let long : length (cleared at mid) ≡ length now = length-set mid at free ∙ under.long in
    let apart : (k : ℕ) → 0 < count k (part_from now next) → (k ≡ at → ⊥) × (count k (part_from now below) ≡ 0) =
    λ k i. (λ e. omega (arith, o.counted k, h.rest.once k, same-eq k at e), omega (arith, o.counted k, h.rest.once k)) in
    let rest = part-frame now (cleared at mid) (part_from now next) next o.held_behind (λ k i. other k (apart k i).0 ∙ under.kept k (apart k i).1) long in
    let within : (k : ℕ) → same k at + (count k (part_from now below) + count k (part_from now next)) ≤ count k part = λ k. omega (arith, o.counted k, h.inside k) in
    record {
      rest = subst (λ (g : Forest). HoldPart (cleared at mid) g next) (sym rest.1) rest.0;
      inside = λ k. omega (arith, ap (count k) rest.1, within k);
      kept = λ k z.
          other k (λ e. omega (arith, within k, same-eq k at e)) ∙ under.kept k (omega (arith, within k)) ∙ h.kept k z;
      gone = λ k i z. elim (cases_eq k at) [
        | inl e ↦ ap (slot_at (cleared at mid)) e ∙ free_at mid at
        | inr nk ↦ other k nk ∙ elim (cases_eq (count k (part_from now below)) 0) [
          | inl b ↦ under.kept k b ∙ h.gone k i (none_left k nk b z)
          | inr b ↦ under.gone k (omega arith)
        ]
      ];
      long = long ∙ h.long;
      counted = omega (arith, h.counted, o.sized, em, ap size rest.1);
    }
  where
    none_left : (k : ℕ) → (k ≡ at → ⊥) → count k (part_from now below) ≡ 0 → count k (part_from (cleared at mid) next) ≡ 0 → count k (part_from now at) ≡ 0
    none_left k nk b z =
        let o : IsOpened now (part_from now at) at below next = opened now (part_from now at) at below next h.rest ne eb en in
        let long : length (cleared at mid) ≡ length now = length-set mid at free ∙ under.long in
        let rest = part-frame now (cleared at mid) (part_from now next) next o.held_behind
        (λ j i. slot_at-set_other mid at j free (λ e. omega (arith, o.counted j, h.rest.once j, same-eq j at e)) ∙ under.kept j (omega (arith, o.counted j, h.rest.once j))) long in
        elim (same_cases k at) [
          | inl q ↦ absurd (nk q.0)
          | inr q ↦ omega (arith, o.counted k, ap (count k) rest.1)
        ]
