-- The elements that go with a node.
use Rattle.std.proofs.Common.{◌≡◌, ℕ, Bool, true, false, ◌&&◌, ◌==◌, not, [], ◌∷◌, Some, refl, sym, ap, ◌∙◌, inl, inr, arith}
use Rattle.std.proofs.lemmas.Bool.{eqb-true, ne_eqb}
use Rattle.page_tree.specs.Forest.{Forest, Tree, parent_in}
use Rattle.page_tree.specs.Trees.{IsTree}
use Rattle.page_tree.specs.Edits.{detached}
use Rattle.page_tree.specs.Standings.{all, above}
use Rattle.page_tree.specs.Directions.{is_in}
use Rattle.page_tree.proofs.Finding.{same-same}
use Rattle.sensor_meaning.specs.declared.change.Change.TheVariants.{Went}
use Rattle.sensor_meaning.specs.Dirty.{is_under}
use Rattle.sensor_laws.proofs.Any.{here, any-found, or_parts, same_by_iff}
use Rattle.sensor_laws.proofs.Relations.{cases, alone}
use Rattle.sensor_laws.proofs.Events.{cut}
use Rattle.sensor_laws.proofs.PartFrames.{in_left, went_frame}
use Rattle.sensor_laws.proofs.Completeness.{under}
use Rattle.sensor_laws.proofs.Tops.{numbered, nodes_once, goes_with, is_part, without_part, cut_one, parent_counted}
use Rattle.sensor_laws.proofs.EditFacts.{without-pruned}
use Rattle.change_laws.specs.Made.{GoesWithNode}
use Rattle.change_laws.proofs.Came.{only, one_child, clash, off}
use Rattle.change_laws.proofs.Made.{well_formed}

module _ (t : Tree) (n p : ℕ) (tree : IsTree t) (held : parent_in n 0 t.nodes ≡ Some p) where
  gone : ℕ → Bool
  gone = goes_with (only n) t.nodes

  -- the node itself goes
  itself : gone n ≡ true
  unfolding gone
  itself =
      let a = well_formed t tree in
      let counted = cut_one n n t.nodes (nodes_once t a) (parent_counted n p 0 t.nodes held) in
      ap not (ne_eqb _ 0 (λ z. omega (arith, counted, z, same-same n)))

  at_or_below : (x : ℕ) → is_in (all t) x ≡ true → gone x ≡ is_under (n ∷ []) t x
  unfolding gone
  at_or_below x there =
      let a = well_formed t tree in
      let part = is_part (only n) t a gone (λ x. refl) p (one_child n p t held) in
      same_by_iff (gone x) (is_under (n ∷ []) t x)
      (under (only n) gone p t (numbered t a) part (n ∷ []) (λ x h. ap (is_in (n ∷ [])) (eqb-true x n h) ∙ here n []) x there)
      (λ h. cases (gone x) (λ g. g) (λ stays.
      let r = any-found (λ y. is_in (n ∷ []) y) (x ∷ above t x) h in
      let z_is : n ≡ r.0 = alone n r.0 r.2 in
      elim (or_parts (x == r.0) (is_in (above t x) r.0) r.1) [
        | inl e ↦ ap gone (eqb-true x r.0 e ∙ sym z_is) ∙ itself
        | inr i ↦ clash (gone r.0)
            ((went_frame t.next (only n) gone p t (numbered t a) part (Went p) refl refl []).stays_above x r.0 stays there i)
            (ap gone (sym z_is) ∙ itself)
      ]))

  pub goes_with_node : (x : ℕ) → is_in (all (detached n t)) x ≡ (is_in (all t) x && not (is_under (n ∷ []) t x))
  unfolding gone
  goes_with_node x =
      let a = well_formed t tree in
      let part = is_part (only n) t a gone (λ x. refl) p (one_child n p t held) in
      let is : cut t.next gone t ≡ detached n t = ap (λ (f : Forest). record { nodes = f; next = t.next })
      (sym (without-pruned n t.nodes (nodes_once t a) ∙ without_part (only n) t a gone (λ x. refl))) in
      let left : is_in (all (detached n t)) x ≡ (not (gone x) && is_in (all t) x) =
      sym (ap (λ (w : Tree). is_in (all w) x) is) ∙ in_left t.next (only n) gone p t (numbered t a) part x in
      cases (is_in (all t) x)
      (λ there. left ∙ ap (λ d. not (gone x) && d) there ∙ right (not (gone x)) ∙ ap not (at_or_below x there)
      ∙ sym (ap (λ d. d && not (is_under (n ∷ []) t x)) there))
      (λ out. left ∙ ap (λ d. not (gone x) && d) out ∙ off (not (gone x)) ∙ sym (ap (λ d. d && not (is_under (n ∷ []) t x)) out))
    where
      right : (b : Bool) → (b && true) ≡ b
      right true = refl
      right false = refl

pub goes : GoesWithNode
goes t n p tree held x = goes_with_node t n p tree held x
