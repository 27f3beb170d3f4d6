-- The children of a node, one after another, and those that came with a fragment.
use Rattle.std.proofs.Common.{◌≡◌, ℕ, zero, suc, ◌+◌, ◌-◌, ◌≤◌, List, [], ◌∷◌, ◌++◌, Option, Some, None, length, take, drop, refl, sym, ap, ap₂, ◌∙◌, inl, inr, arith, append_assoc}
use Rattle.std.proofs.lemmas.Bool.{cases_lt, lt-ltb}
use Rattle.std.proofs.Math.Seq.{take-append_seam}
use Rattle.page_tree.specs.Forest.{Forest, empty, node, Tree, rooted, count, first, find, later_of, children, tops}
use Rattle.page_tree.specs.Edits.{joined, insert_at, children_of, added}
use Rattle.page_tree.specs.Fragments.{fragment_nodes, with_fragment}
use Rattle.page_tree.specs.Refusals.{BadPlace, parent_refused, place_past, place_refused, graft_refused}
use Rattle.page_tree.specs.Trees.{IsTree}
use Rattle.page_tree.proofs.Keeps.{no_refusal, parent_there}
use Rattle.page_tree.proofs.Parts.{siblings_from, from_first_child, from_next}
use Rattle.page_tree.proofs.Regrafts.{children-given}
use Rattle.page_tree.proofs.Totals.{tops-insert}

-- ---- one child after another

pub record Walks (t : Tree) (n : ℕ) (at : Option ℕ) (found : List ℕ) : Type 0 where
  -- those found and those from here on are all children
  pub all : found ++ tops (siblings_from at (rooted t.nodes)) ≡ tops (children (find n (rooted t.nodes)))
  pub there : first (siblings_from at (rooted t.nodes)) ≡ at

module _ (t : Tree) (tree : IsTree t) (n : ℕ) where
  pub walk_start : (at : Option ℕ) → at ≡ first (children (find n (rooted t.nodes))) → Walks t n at []
  walk_start at e =
      let r = from_first_child n (rooted t.nodes) tree.once at e in
      record { all = ap tops r; there = ap first r ∙ sym e }

  split : (f : Forest) (m : ℕ) → first f ≡ Some m → tops f ≡ m ∷ tops (later_of f)
  split empty m h = absurd (let no : None ≡ Some m = h in cc)
  split (node k c kids later) m h = let e : k ≡ m = cc (h) in ap (λ j. j ∷ tops later) e

  pub walk_more : (at next : Option ℕ) (m : ℕ) (found : List ℕ) → at ≡ Some m → next ≡ first (later_of (find m (rooted t.nodes))) → Walks t n at found → Walks t n next (found ++ m ∷ [])
  walk_more at next m found e on w =
      let here : siblings_from at (rooted t.nodes) ≡ find m (rooted t.nodes) = ap (λ o. siblings_from o (rooted t.nodes)) e in
      let rest = from_next m (rooted t.nodes) tree.once next on in
      record {
        all =
            append_assoc found (m ∷ []) (tops (siblings_from next (rooted t.nodes)))
            ∙ ap (λ (l : List ℕ). found ++ m ∷ l) (ap tops rest)
            ∙ ap (λ (l : List ℕ). found ++ l) (sym (split (find m (rooted t.nodes)) m (ap first (sym here) ∙ w.there ∙ e)))
            ∙ ap (λ (f : Forest). found ++ tops f) (sym here)
            ∙ w.all;
        there = ap first rest ∙ sym on;
      }

  append_nil : (l : List ℕ) → l ++ [] ≡ l
  append_nil [] = refl
  append_nil (x ∷ l) = ap (λ (r : List ℕ). x ∷ r) (append_nil l)

  pub walk_end : (at : Option ℕ) (found : List ℕ) → at ≡ None → Walks t n at found → found ≡ tops (children (find n (rooted t.nodes)))
  walk_end at found e w =
      sym (ap (λ (o : Option ℕ). found ++ tops (siblings_from o (rooted t.nodes))) e ∙ append_nil found) ∙ w.all

-- ---- what came

joined_tops : (f g : Forest) → tops (joined f g) ≡ tops f ++ tops g
joined_tops empty g = refl
joined_tops (node n c kids later) g = ap (λ (l : List ℕ). n ∷ l) (joined_tops later g)

append_none : (l : List ℕ) → l ≡ l ++ []
append_none [] = refl
append_none (x ∷ l) = ap (λ (r : List ℕ). x ∷ r) (append_none l)

inserted_tops : (i : ℕ) (new f : Forest) → i ≤ length (tops f) → (rest : List ℕ) × (drop i (tops (insert_at i new f)) ≡ tops new ++ rest)
inserted_tops zero new empty le = ([], append_none (tops new))
inserted_tops (suc i) new empty le = absurd (omega arith)
inserted_tops zero new (node n c kids later) le = (n ∷ tops later, joined_tops new (node n c kids later))
inserted_tops (suc i) new (node n c kids later) le = inserted_tops i new later (omega arith)

module _ (t : Tree) (tree : IsTree t) (p place : ℕ) (new : Forest) (parent : parent_refused p t ≡ None) (fits : place ≤ children_of p t) where
  kids : Forest
  kids = children (find p (rooted t.nodes))

  now : children (find p (rooted (added p place new t).nodes)) ≡ insert_at place new (children (find p (rooted t.nodes)))
  now = children-given p (insert_at place new (children (find p (rooted t.nodes)))) (rooted t.nodes) (omega (arith, parent_there t p parent, tree.once p))

  pub came : take (children_of p (added p place new t) - children_of p t) (drop place (tops (children (find p (rooted (added p place new t).nodes))))) ≡ tops new
  came =
      let r = inserted_tops place new (children (find p (rooted t.nodes))) fits in
      let more : children_of p (added p place new t) ≡ length (tops new) + children_of p t =
      ap (λ (f : Forest). length (tops f)) now ∙ tops-insert place new (children (find p (rooted t.nodes))) in
      ap₂ (λ (k : ℕ) (l : List ℕ). take k l) (less _ _ _ more) (ap (λ (f : Forest). drop place (tops f)) now ∙ r.1)
      ∙ take-append_seam (tops new) r.0
    where
      less : (a b c : ℕ) → a ≡ b + c → a - c ≡ b
      less a b c e = omega arith

-- a place that isn't refused
within : (place count : ℕ) → place_past place count ≡ None → place ≤ count
within place count h = elim (cases_lt count place) [
  | inl lt ↦ absurd (let no : Some (BadPlace place) ≡ None = rw (lt-ltb count place lt) at h in cc)
  | inr le ↦ le
]

pub fragment_came : (t : Tree) → IsTree t → (p place : ℕ) (part : List (ℕ × Rattle.page_tree.specs.Forest.Content)) → graft_refused p place part t ≡ None →
    take (children_of p (with_fragment p place part t) - children_of p t) (drop place (tops (children (find p (rooted (with_fragment p place part t).nodes)))))
    ≡ tops (fragment_nodes t.next part)
fragment_came t tree p place part h =
    let parts = no_refusal (place_refused p place t) _ h in
    let causes = no_refusal (parent_refused p t) _ parts.0 in
    came t tree p place (fragment_nodes t.next part) causes.0 (within place (children_of p t) causes.1)
