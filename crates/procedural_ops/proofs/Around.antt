-- What `:others()` finds out, from what is around an element alone.
use Rattle.std.proofs.Common.{◌≡◌, ℕ, ◌==◌, ◌||◌, ◌&&◌, Bool, true, false, not, List, [], ◌∷◌, inl, inr, refl, sym, ap, ◌∙◌}
use Rattle.std.proofs.Math.Bool as bool
use Rattle.std.specs.Prelude.{unwrap_or}
use Rattle.std.proofs.lemmas.List.Folds.{list_any-append}
use Rattle.std.proofs.lemmas.Bool.{eq-eqb, eqb-true, or_cases, or_left, or_right, and_from, and_parts}
use Rattle.std.specs.List.{list_any}
use Rattle.page_tree.specs.Forest.{Tree, first_in}
use Rattle.page_tree.specs.Standings.{all, above}
use Rattle.page_tree.specs.Directions.{is_in, holders}
use Rattle.page_tree.specs.Trees.{IsTree}
use Rattle.selector_tree.specs.declared.selector.Place.TheVariants.{Descendant}
use Rattle.selector_tree.specs.declared.selector.Step.{Step}
use Rattle.selector_meaning.specs.Texts.{Bytes}
use Rattle.selector_meaning.specs.Meaning.{is_other, is_apart, is_beside, is_shown, parent}
use Rattle.procedural_ops.specs.Others.{leads_below}
use Rattle.selector_match.specs.Asked.{IsElement}
use Rattle.selector_match.proofs.SiblingLaws.{not_document}
use Rattle.procedural_ops.specs.Reaching.{reached}
use Rattle.procedural_ops.specs.Search.{some_target}
use Rattle.selector_match.specs.Walks.{targets}
use Rattle.procedural_ops.proofs.Any.{same_by_iff, any-made, any-found}
use Rattle.procedural_ops.proofs.Chains.{beside_element}
use Rattle.procedural_ops.proofs.Duals.{is_in-targets}
use Rattle.procedural_ops.proofs.Linear.{reached_elements}
use Rattle.procedural_ops.proofs.Steps.{others_by}

some_of_three : (a b c : Bool) → not (not a && not b && not c) ≡ (a || (b || c))
some_of_three true b c = refl
some_of_three false true c = refl
some_of_three false false true = refl
some_of_three false false false = refl

module _ (t : Tree) (tree : IsTree t) (path : Bytes) (before : List Step) (x : ℕ) (x_is : is_in (all t) x ≡ true) where
  abbrev Reached : ℕ → Bool
  Reached = is_in (reached t path before)

  abbrev Hits : ℕ → Bool
  Hits y = Reached y && not (is_apart t y x)

  abbrev Beside : ℕ → Bool
  Beside y = Reached y && is_beside t y x

  touches : (y : ℕ) → not (is_apart t y x) ≡ ((y == x) || (is_in (above t y) x || is_in (above t x) y))
  touches y = some_of_three (y == x) (is_in (above t y) x) (is_in (above t x) y)

  -- what isn't apart from x is x, above x or below x
  hits_around : list_any Hits (all t) ≡ (list_any Reached (x ∷ above t x) || list_any Reached (targets t Descendant x))
  hits_around =
      same_by_iff (list_any Hits (all t)) (list_any Reached (x ∷ above t x) || list_any Reached (targets t Descendant x))
      (λ h.
      let r = any-found Hits (all t) h in
      let p = and_parts (Reached r.0) (not (is_apart t r.0 x)) r.2 in
      elim (or_cases (r.0 == x) (is_in (above t r.0) x || is_in (above t x) r.0) (sym (touches r.0) ∙ p.1)) [
        | inl same ↦ or_left (list_any Reached (x ∷ above t x)) (list_any Reached (targets t Descendant x))
            (any-made Reached (x ∷ above t x) r.0 (or_left (x == r.0) (is_in (above t x) r.0) (eq-eqb x r.0 (sym (eqb-true r.0 x same)))) p.0)
        | inr apart ↦ elim (or_cases (is_in (above t r.0) x) (is_in (above t x) r.0) apart) [
          | inl low ↦ or_right (list_any Reached (x ∷ above t x)) (list_any Reached (targets t Descendant x))
              (any-made Reached (targets t Descendant x) r.0
              (is_in-targets t tree Descendant x r.0 x_is ∙ and_from (is_in (all t) r.0) (is_in (above t r.0) x) r.1 low) p.0)
          | inr high ↦ or_left (list_any Reached (x ∷ above t x)) (list_any Reached (targets t Descendant x))
              (any-made Reached (x ∷ above t x) r.0 (or_right (x == r.0) (is_in (above t x) r.0) high) p.0)
        ]
      ])
      (λ h. elim (or_cases (list_any Reached (x ∷ above t x)) (list_any Reached (targets t Descendant x)) h) [
        | inl up ↦
            let r = any-found Reached (x ∷ above t x) up in
            any-made Hits (all t) r.0 (reached_elements t path before r.0 r.2)
            (and_from (Reached r.0) (not (is_apart t r.0 x)) r.2 (touches r.0 ∙ elim (or_cases (x == r.0) (is_in (above t x) r.0) r.1) [
              | inl same ↦ or_left (r.0 == x) (is_in (above t r.0) x || is_in (above t x) r.0) (eq-eqb r.0 x (sym (eqb-true x r.0 same)))
              | inr high ↦ or_right (r.0 == x) (is_in (above t r.0) x || is_in (above t x) r.0) (or_right (is_in (above t r.0) x) (is_in (above t x) r.0) high)
            ]))
        | inr down ↦
            let r = any-found Reached (targets t Descendant x) down in
            let low = and_parts (is_in (all t) r.0) (is_in (above t r.0) x) (sym (is_in-targets t tree Descendant x r.0 x_is) ∙ r.1) in
            any-made Hits (all t) r.0 low.0
            (and_from (Reached r.0) (not (is_apart t r.0 x)) r.2 (touches r.0 ∙ or_right (r.0 == x) (is_in (above t r.0) x || is_in (above t x) r.0) (or_left (is_in (above t r.0) x) (is_in (above t x) r.0) low.1)))
      ])

  -- what is beside x stands below its parent
  beside_below : (p : ℕ) (ps : List ℕ) → IsElement t p → above t x ≡ p ∷ ps → list_any Beside (all t) ≡ list_any Reached (targets t Descendant p)
  beside_below p ps p_is e =
      same_by_iff (list_any Beside (all t)) (list_any Reached (targets t Descendant p))
      (λ h.
      let r = any-found Beside (all t) h in
      let q = and_parts (Reached r.0) (is_beside t r.0 x) r.2 in
      any-made Reached (targets t Descendant p) r.0
      (is_in-targets t tree Descendant p r.0 p_is ∙ and_from (is_in (all t) r.0) (is_in (above t r.0) p) r.1 (under r.0 ∙ q.1)) q.0)
      (λ h.
      let r = any-found Reached (targets t Descendant p) h in
      let low = and_parts (is_in (all t) r.0) (is_in (above t r.0) p) (sym (is_in-targets t tree Descendant p r.0 p_is) ∙ r.1) in
      any-made Beside (all t) r.0 low.0 (and_from (Reached r.0) (is_beside t r.0 x) r.2 (sym (under r.0) ∙ low.1)))
    where
      under : (y : ℕ) → is_in (above t y) p ≡ is_beside t y x
      under y = beside_element t y x p ps (not_document t tree p p_is) e

  -- of an element below the document it is all
  beside_all : above t x ≡ [] → list_any Beside (all t) ≡ list_any Reached (all t)
  beside_all e =
      same_by_iff (list_any Beside (all t)) (list_any Reached (all t))
      (λ h. let r = any-found Beside (all t) h in any-made Reached (all t) r.0 r.1 (and_parts (Reached r.0) (is_beside t r.0 x) r.2).0)
      (λ h. let r = any-found Reached (all t) h in any-made Beside (all t) r.0 r.1 (and_from (Reached r.0) (is_beside t r.0 x) r.2 (on_top r.0)))
    where
      on_top : (y : ℕ) → is_beside t y x ≡ true
      on_top y =
          ap (λ (l : List ℕ). is_in (holders t y) (unwrap_or (first_in l) 0)) e ∙ list_any-append (λ n. n == 0) (above t y) (0 ∷ [])
          ∙ or_right (is_in (above t y) 0) true refl

  pub not_shown : is_shown t x ≡ false → false ≡ is_other t (reached t path before) x
  not_shown h =
      sym (others_by t path before x ∙ ap (λ b. not (list_any Hits (all t)) && list_any Beside (all t) && b) h
      ∙ bool.and-false (not (list_any Hits (all t)) && list_any Beside (all t)))

  hit : list_any Hits (all t) ≡ true → false ≡ is_other t (reached t path before) x
  hit h = sym (others_by t path before x ∙ ap (λ b. not b && list_any Beside (all t) && is_shown t x) h)

  pub hit_above : list_any Reached (x ∷ above t x) ≡ true → false ≡ is_other t (reached t path before) x
  hit_above h = hit (hits_around ∙ or_left (list_any Reached (x ∷ above t x)) (list_any Reached (targets t Descendant x)) h)

  pub hit_below : some_target t Descendant Reached x ≡ true → false ≡ is_other t (reached t path before) x
  hit_below h = hit (hits_around ∙ or_right (list_any Reached (x ∷ above t x)) (list_any Reached (targets t Descendant x)) h)

  -- whether something is below the parent, in the words of what is remembered
  pub below_parent : (p : ℕ) (ps : List ℕ) → IsElement t p → above t x ≡ p ∷ ps → some_target t Descendant Reached p ≡ leads_below t path before (parent t x)
  unfolding leads_below
  below_parent p ps p_is e = sym (beside_below p ps p_is e)

  pub below_document : above t x ≡ [] → list_any Reached (all t) ≡ leads_below t path before (parent t x)
  unfolding leads_below
  below_document e = sym (beside_all e)

  -- nothing around x is reached: then that says it all
  module _ (high : list_any Reached (x ∷ above t x) ≡ false) (low : some_target t Descendant Reached x ≡ false) (shown : is_shown t x ≡ true) where
    pub beside_is_other : leads_below t path before (parent t x) ≡ is_other t (reached t path before) x
    unfolding leads_below
    beside_is_other =
        sym (others_by t path before x
        ∙ ap (λ b. not b && list_any Beside (all t) && is_shown t x) (hits_around ∙ ap (λ b. b || list_any Reached (targets t Descendant x)) high ∙ low)
        ∙ ap (λ b. list_any Beside (all t) && b) shown ∙ bool.and-true (list_any Beside (all t)))
