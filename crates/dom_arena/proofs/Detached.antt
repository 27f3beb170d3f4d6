-- The slots where a node is taken out, with all that is below it.
use Rattle.std.proofs.Common.{◌≡◌, ℕ, suc, ◌+◌, ◌<◌, ◌≤◌, List, length, refl, sym, ◌∙◌, ap, subst, inl, inr, arith, length-set}
use Rattle.std.proofs.lemmas.Bool.{cases_eq, ne_eqb}
use Rattle.page_tree.specs.Forest.{Forest, empty, node, rooted, same, count, size, head, find, children}
use Rattle.page_tree.specs.Edits.{without, alone, subtree}
use Rattle.page_tree.specs.Trees.{IsTree, MayHave, AreOrdinary}
use Rattle.page_tree.proofs.Totals.{count-without, size-without}
use Rattle.page_tree.proofs.Keeps.{Named, Every-find, Every-children, IsTree-detached}
use Rattle.page_tree.proofs.Finding.{find-rooted, same_cases, count-find, count-parts, same-eq, counted_apart}
use Rattle.dom_arena.specs.declared.table.Slot.{Slot}
use Rattle.dom_arena.specs.Slots.{free, slot_at, IsUsed, last, with_link, past}
use Rattle.dom_arena.specs.Linked.{Linked, Stands, forest_of}
use Rattle.dom_arena.specs.Numbering.{cleared}
use Rattle.dom_arena.specs.Parts.{part_from, HoldPart, AreCleared}
use Rattle.dom_arena.proofs.Links.{forest_of-linked, stands_used, IsCell, IsCell-find}
use Rattle.dom_arena.proofs.Siblings.{Linked-frame}
use Rattle.dom_arena.proofs.Grafts.{Linked-rooted, slot_at-set_other}
use Rattle.dom_arena.proofs.Family.{Family, family_of}
use Rattle.dom_arena.proofs.Parting.{part_from-linked, free_at}
use Rattle.dom_arena.proofs.Placed.{StandsBeside}
use Rattle.dom_arena.proofs.Unlinked.{count_tops, count_tops-le, count_tops-below, parent_top, AreBeside, beside, first_without, last_without, Linked-without, IsChild, child_of}
use Rattle.dom_arena.proofs.Writes.{length-with_link, length-with_back_link, linked_kept, linked_parent, linked_before, linked_after}

-- links from one number lead through one forest
pub linked_unique : (s : ℕ → Slot) (f g : Forest) (p b p' b' : ℕ) → Linked s p b f → Linked s p' b' g → head f ≡ head g → count 0 f ≡ 0 → count 0 g ≡ 0 → f ≡ g
linked_unique s f g p b p' b' l l' e z z' =
    sym (forest_of-linked s f (size f + size g) p b l z (omega arith)) ∙ ap (forest_of (size f + size g) s) e ∙ forest_of-linked s g (size f + size g) p' b' l' z' (omega arith)

-- what a node's slot says of its children
pub kids_of_cell : (s : ℕ → Slot) (k : ℕ) (g : Forest) → IsCell s k g → ((s k).first_child ≡ head (children g)) × Linked s k 0 (children g)
kids_of_cell s k empty c = absurd c
kids_of_cell s k (node n c kids later) h = (h.1, h.4)

-- how many nodes a node is with those below it
part_counts : (s : ℕ → Slot) (k j : ℕ) (g : Forest) → IsCell s k g → (count j (alone g) ≡ same j k + count j (children g)) × (size (alone g) ≡ suc (size (children g)))
part_counts s k j empty c = absurd c
part_counts s k j (node n c kids later) h = (omega (arith, ap (same j) h.0), omega arith)

-- the document stays
pub without-rooted : (k : ℕ) (f : Forest) → (k ≡ 0 → ⊥) → without k (rooted f) ≡ rooted (without k f)
without-rooted k f nz = rw (ne_eqb k 0 nz) refl

module _ (slots : List Slot) (f : Forest) (stands : Stands slots f) (k : ℕ) (used : IsUsed slots k) (nz : k ≡ 0 → ⊥) where
  -- its parent and the siblings beside it, the children of the parent, and what is below it
  abbrev q : ℕ
  q = (slot_at slots k).parent

  abbrev b : ℕ
  b = (slot_at slots k).previous

  abbrev a : ℕ
  a = (slot_at slots k).next

  abbrev made : List Slot
  made = past k slots

  abbrev kids : Forest
  kids = children (find q (rooted f))

  abbrev under : Forest
  under = children (find k (rooted f))

  pub counted : count k (rooted f) ≡ 1
  counted = omega (arith, stands_used slots f stands k used, stands.tree.once k)

  child : IsChild k q (rooted f)
  child = elim (child_of (slot_at slots) k (rooted f) 0 0 stands.linked stands.tree.once (omega (arith, counted))) [
    | inl r ↦ absurd (elim (same_cases k 0) [ inl x ↦ nz x.0 | inr x ↦ omega (arith, r.1, x.1) ])
    | inr r ↦ r
  ]

  fam : Family slots q kids
  fam = family_of slots f stands.linked stands.tree q child.there

  own : Family slots k under
  own = family_of slots f stands.linked stands.tree k (omega (arith, counted))

  near : AreBeside (slot_at slots) k 0 kids
  near = beside (slot_at slots) k q 0 kids fam.linked child.child fam.once fam.no_zero

  k_in : 0 < count k kids
  k_in = omega (arith, child.child, count_tops-le k kids)

  kids_in : (j : ℕ) → count j kids ≤ count j (rooted f)
  kids_in j = omega (arith, count-find j q (rooted f), count-parts j (find q (rooted f)))

  before_top : (b ≡ 0 → ⊥) → 0 < count_tops b kids
  before_top ne = elim near.before [ inl e ↦ absurd (ne e) | inr h ↦ h ]

  after_top : (a ≡ 0 → ⊥) → 0 < count_tops a kids
  after_top ne = elim near.after [ inl e ↦ absurd (ne e) | inr h ↦ h ]

  before_in : (b ≡ 0 → ⊥) → 0 < count b kids
  before_in ne = omega (arith, before_top ne, count_tops-le b kids)

  after_in : (a ≡ 0 → ⊥) → 0 < count a kids
  after_in ne = omega (arith, after_top ne, count_tops-le a kids)

  b_below : (b ≡ 0 → ⊥) → b < length slots
  b_below ne = fam.inside b (before_in ne)

  a_below : (a ≡ 0 → ⊥) → a < length slots
  a_below ne = fam.inside a (after_in ne)

  b_not_q : (b ≡ 0 → ⊥) → b ≡ q → ⊥
  b_not_q ne = counted_apart b q kids (before_in ne) fam.no_parent

  a_not_q : (a ≡ 0 → ⊥) → a ≡ q → ⊥
  a_not_q ne = counted_apart a q kids (after_in ne) fam.no_parent

  -- the parent and the siblings beside it are nodes
  pub parent_counted : 0 < count q (rooted f)
  parent_counted = child.there

  pub before_counted : (b ≡ 0 → ⊥) → 0 < count b (rooted f)
  before_counted ne = omega (arith, before_in ne, kids_in b)

  pub after_counted : (a ≡ 0 → ⊥) → 0 < count a (rooted f)
  after_counted ne = omega (arith, after_in ne, kids_in a)

  -- beside them each slot stays
  kept : (j : ℕ) → (j ≡ q → ⊥) → ((b ≡ 0 → ⊥) → j ≡ b → ⊥) → ((a ≡ 0 → ⊥) → j ≡ a → ⊥) → slot_at made j ≡ slot_at slots j
  kept = linked_kept slots q b a a b fam.present b_below a_below b_not_q a_not_q near.apart

  parent_slot : slot_at made q ≡ record (slot_at slots q) { first_child = head (without k kids); last_child = last (without k kids) }
  parent_slot =
      let firsts = first_without (slot_at slots) k q 0 kids fam.linked child.child fam.once fam.no_zero in
      let lasts = last_without (slot_at slots) k q 0 kids fam.linked child.child in
      linked_parent slots q b a a b fam.present b_below a_below b_not_q a_not_q near.apart (head (without k kids)) (last (without k kids))
      (λ z. elim firsts [ inl r ↦ r.1 | inr r ↦ absurd (counted_apart b 0 kids r.0 fam.no_zero z) ])
      (λ ne. elim firsts [ inl r ↦ absurd (ne r.0) | inr r ↦ r.1 ∙ sym fam.first ])
      (λ z. elim lasts [ inl r ↦ r.1 | inr r ↦ absurd (counted_apart a 0 kids r.0 fam.no_zero z) ])
      (λ ne. elim lasts [ inl r ↦ absurd (ne r.0) | inr r ↦ r.1 ∙ sym fam.last ])

  -- the children of the parent without it
  kids_linked : Linked (slot_at made) q 0 (without k kids)
  kids_linked =
      Linked-without (slot_at slots) (slot_at made) k q 0 kids fam.linked child.child fam.once fam.no_zero fam.no_zero
      (λ j h nk np nn. kept j (counted_apart j q kids h fam.no_parent) (λ _. np) (λ _. nn))
      (λ h. linked_before slots q b a a b fam.present b_below a_below b_not_q a_not_q near.apart (counted_apart b 0 kids h fam.no_zero))
      (λ h. linked_after slots q b a a b fam.present b_below a_below b_not_q a_not_q near.apart (counted_apart a 0 kids h fam.no_zero))

  -- the whole tree without it
  linked : Linked (slot_at made) 0 0 (rooted (without k f))
  linked =
      subst (Linked (slot_at made) 0 0) (sym child.taken ∙ without-rooted k f nz)
      (Linked-rooted (slot_at slots) (slot_at made) q (without k kids) f stands.linked parent_slot kids_linked (λ j h nq parent.
      kept j nq
      (λ ne e. parent (ap (λ (i : ℕ). (slot_at slots i).parent) e ∙ parent_top (slot_at slots) b q 0 kids fam.linked (before_top ne)))
      (λ ne e. parent (ap (λ (i : ℕ). (slot_at slots i).parent) e ∙ parent_top (slot_at slots) a q 0 kids fam.linked (after_top ne)))))

  -- its own slot stays, and what is below it
  pub slot_kept : slot_at made k ≡ slot_at slots k
  slot_kept = kept k (counted_apart k q kids k_in fam.no_parent) (λ _ e. near.before_other (sym e)) (λ ne e. near.after_other ne (sym e))

  same_under : under ≡ children (find k kids)
  same_under =
      let cell = kids_of_cell (slot_at slots) k (find k kids) (IsCell-find (slot_at slots) k kids q 0 fam.linked k_in) in
      linked_unique (slot_at slots) under (children (find k kids)) k 0 k 0 own.linked cell.1 (sym own.first ∙ cell.0) own.no_zero
      (omega (arith, count-find 0 k kids, count-parts 0 (find k kids), fam.no_zero))

  apart_under : (j : ℕ) → count_tops j kids + count j under ≤ count j kids
  apart_under j = omega (arith, ap (count j) same_under, count_tops-below k j kids child.child (fam.once k))

  held : Linked (slot_at made) k 0 under
  held = Linked-frame (slot_at slots) (slot_at made) under k 0 (λ j h. kept j
      (counted_apart j q under h (omega (arith, apart_under q, fam.no_parent)))
      (λ ne. counted_apart j b under h (omega (arith, apart_under b, before_top ne, fam.once b)))
      (λ ne. counted_apart j a under h (omega (arith, apart_under a, after_top ne, fam.once a)))) own.linked

  -- the part that goes
  of_part : (j : ℕ) → (count j (subtree k (rooted f)) ≡ same j k + count j under) × (size (subtree k (rooted f)) ≡ suc (size under))
  of_part j = part_counts (slot_at slots) k j (find k (rooted f)) (IsCell-find (slot_at slots) k (rooted f) 0 0 stands.linked (omega (arith, counted)))

  -- what stays and what goes make up the tree
  pub total : (j : ℕ) → count j (rooted (without k f)) + (same j k + count j under) ≡ count j (rooted f)
  total j = omega (arith, count-without j k (rooted f) (omega (arith, counted)), ap (count j) (without-rooted k f nz), (of_part j).0)

  pub sizes : size (without k f) + suc (size under) ≡ size f
  sizes = omega (arith, size-without k (rooted f) (omega (arith, counted)), ap size (without-rooted k f nz), (of_part 0).1)

  pub length_made : length made ≡ length slots
  length_made = length-with_back_link b q a (with_link a q b slots) ∙ length-with_link a q b slots

  -- so the slots stand for the tree without it, and beside it hold what is below it
  pub stands_beside : StandsBeside made (without k f) k under
  stands_beside = record {
    linked = linked;
    others = λ j z other none.
        let gone : count j (rooted f) ≡ 0 = elim (same_cases j k) [ inl x ↦ absurd (other x.0) | inr x ↦ omega (arith, total j, z, none) ] in
        kept j (λ e. counted_apart q j (rooted f) child.there gone (sym e))
        (λ ne e. counted_apart b j (rooted f) (before_counted ne) gone (sym e))
        (λ ne e. counted_apart a j (rooted f) (after_counted ne) gone (sym e))
        ∙ stands.others j gone;
    tree = subst (λ (n : ℕ). IsTree (record { nodes = without k f; next = n })) (sym length_made) (IsTree-detached (record { nodes = f; next = length slots }) stands.tree k);
    held = held;
    apart = λ j. omega (arith, total j, stands.tree.once j);
    inside = λ j h. omega (arith, total j, stands.tree.below j (omega (arith, length_made)));
    grown = Every-children MayHave (find k (rooted f)) (Every-find MayHave k (rooted f) (tt, stands.tree.grown, tt));
    ordinary = subst (λ (g : Forest). AreOrdinary (children g)) (sym (find-rooted k f nz)) (Every-children Named (find k f) (Every-find Named k f stands.tree.ordinary));
    fits = omega (arith, sizes, stands.fits, length_made);
  }

  -- what is below it is a part of the slots
  pub part_below : (first : ℕ) → first ≡ (slot_at made k).first_child → HoldPart made (part_from made first) first × (part_from made first ≡ under)
  part_below first e =
      let headed : first ≡ head under = e ∙ ap (λ (x : Slot). x.first_child) slot_kept ∙ own.first in
      let fits : size under ≤ length made = omega (arith, sizes, stands.fits, length_made) in
      let same_part : part_from made first ≡ under = part_from-linked made under first k 0 held headed own.no_zero fits in (
        subst (λ (g : Forest). HoldPart made g first) (sym same_part)
            (record {
              parent = k;
              previous = 0;
              linked = held;
              headed = sym headed;
              once = own.once;
              no_zero = own.no_zero;
              fits = fits;
              few = omega (arith, sizes, stands.tree.few);
            }),
        same_part,
      )

  -- once these slots are free, and its own, the slots stand for the tree without it
  pub Stands-detached : (mid : List Slot) → AreCleared under made mid → Stands (cleared k mid) (without k f)
  Stands-detached mid gone =
      let other : (j : ℕ) → (j ≡ k → ⊥) → slot_at (cleared k mid) j ≡ slot_at mid j = λ j ne. slot_at-set_other mid k j free ne in
      let long : length (cleared k mid) ≡ length made = length-set mid k free ∙ gone.long in
      record {
        linked = Linked-frame (slot_at made) (slot_at (cleared k mid)) (rooted (without k f)) 0 0
            (λ j h. other j (λ e. omega (arith, stands_beside.apart j, same-eq j k e)) ∙ gone.kept j (omega (arith, stands_beside.apart j))) linked;
        others = λ j z. elim (cases_eq j k) [
          | inl e ↦ ap (slot_at (cleared k mid)) e ∙ free_at mid k
          | inr ne ↦ other j ne ∙ elim (cases_eq (count j under) 0) [
            | inl none ↦ gone.kept j none ∙ stands_beside.others j z ne none
            | inr some ↦ gone.gone j (omega arith)
          ]
        ];
        tree = record {
          once = stands_beside.tree.once;
          below = λ j h. stands_beside.tree.below j (omega (arith, long));
          grown = stands_beside.tree.grown;
          ordinary = stands_beside.tree.ordinary;
          few = stands_beside.tree.few;
          low = stands_beside.tree.low;
        };
        fits = omega (arith, stands_beside.fits, long);
      }
