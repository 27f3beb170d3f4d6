-- The node behind another and all below it in document order.
use Rattle.std.proofs.Common.{◌≡◌, ℕ, ◌<◌, [], Option, None, refl, sym, ◌∙◌, ap, inl, inr, arith}
use Rattle.std.proofs.lemmas.Bool.{cases_eq}
use Rattle.std.proofs.lemmas.List.{append-nil}
use Rattle.page_tree.specs.Forest.{Forest, empty, node, count, numbers, first, or_some, behind}
use Rattle.page_tree.specs.Edits.{with_children, behind_subtree}
use Rattle.page_tree.proofs.Finding.{same_cases, count-below_itself}
use Rattle.page_tree.proofs.Totals.{with_children-none, count-with_children}
use Rattle.page_tree.proofs.Regrafts.{children-given}
use Rattle.page_tree.proofs.Below.{beyond, beyond-kids, beyond-later, behind-skip, behind-numbers}

-- children make no difference to what is beyond a node
beyond-childless : (k : ℕ) (f : Forest) (rest : Option ℕ) → count k f ≡ 1 → beyond k (with_children k empty f) rest ≡ beyond k f rest
beyond-childless k empty rest h = absurd (omega arith)
beyond-childless k (node n c kids later) rest h =
    elim (same_cases k n) [
      | inl q ↦ rw (q.2, with_children-none k empty later (omega arith)) refl
      | inr q ↦ elim (cases_eq (count k kids) 0) [
        | inl z ↦
            let childless : with_children k empty (node n c kids later) ≡ node n c kids (with_children k empty later) = rw (q.2, with_children-none k empty kids z) refl in
            ap (λ (g : Forest). beyond k g rest) childless ∙ beyond-later k n c kids (with_children k empty later) rest q.0 z
            ∙ beyond-childless k later rest (omega arith) ∙ sym (beyond-later k n c kids later rest q.0 z)
        | inr z ↦
            let childless : with_children k empty (node n c kids later) ≡ node n c (with_children k empty kids) later = rw (q.2, with_children-none k empty later (omega arith)) refl in
            ap (λ (g : Forest). beyond k g rest) childless ∙ beyond-kids k n c (with_children k empty kids) later rest q.0 (still (omega arith))
            ∙ beyond-childless k kids (or_some (first later) rest) (omega arith) ∙ sym (beyond-kids k n c kids later rest q.0 (omega arith))
      ]
    ]
  where
    still : count k kids ≡ 1 → 0 < count k (with_children k empty kids)
    still one = omega (arith, count-with_children k k empty kids one, count-below_itself k kids one)

-- it is the one beyond the node
pub behind_subtree-beyond : (k : ℕ) (f : Forest) → count k f ≡ 1 → behind_subtree k f ≡ beyond k f None
behind_subtree-beyond k f h =
    ap (behind k) (sym (append-nil (numbers (with_children k empty f))))
    ∙ behind-numbers k (with_children k empty f) [] (omega (arith, count-with_children k k empty f h, count-below_itself k f h))
    ∙ ap (λ (g : Forest). or_some (first g) (beyond k (with_children k empty f) None)) (children-given k empty f h)
    ∙ beyond-childless k f None h

-- and there is none behind what is no node
pub behind_subtree-none : (k : ℕ) (f : Forest) → count k f ≡ 0 → behind_subtree k f ≡ None
behind_subtree-none k f z =
    ap (λ (g : Forest). behind k (numbers g)) (with_children-none k empty f z) ∙ ap (behind k) (sym (append-nil (numbers f))) ∙ behind-skip k f [] z
