-- Steps that come to a `~` lead to nothing from all later siblings of an element from which they lead to nothing.
use Rattle.std.proofs.Common.{◌≡◌, ◌==◌, ◌++◌, ℕ, true, false, inl, inr, List, [], ◌∷◌, All, take, refl, sym, ap, ◌∙◌}
use Rattle.std.specs.List.{list_any}
use Rattle.std.proofs.lemmas.Bool.{or_left, eq-eqb, and_from, and_parts, both_ways, false_from_ne_true}
use Rattle.std.proofs.lemmas.List.Elements.{All-head, All-tail}
use Rattle.cos_patterns.specs.declared.written.Written.{Written}
use Rattle.cos_patterns.specs.Found.{pattern_found}
use Rattle.page_tree.specs.Forest.{Tree}
use Rattle.page_tree.specs.Standings.{all, before, after}
use Rattle.page_tree.specs.Directions.{is_in, numbers_of}
use Rattle.page_tree.specs.Trees.{IsTree}
use Rattle.selector_tree.specs.declared.selector.Place.{Place}
use Rattle.selector_tree.specs.declared.selector.Place.TheVariants.{Child, Descendant, Next, After}
use Rattle.selector_tree.specs.declared.selector.Step.{Step}
use Rattle.selector_tree.specs.declared.selector.Step.TheVariants as step
use Rattle.selector_meaning.specs.Texts.{Bytes}
use Rattle.selector_meaning.specs.Meaning.{holds, is_there}
use Rattle.selector_match.specs.Asked.{IsElement}
use Rattle.proper_filters.specs.Proper.{are_inner}
use Rattle.procedural_ops.specs.Reaching.{leads_from}
use Rattle.selector_match.specs.Walks.{targets, targets_behind}
use Rattle.procedural_ops.specs.Blocked.{BlocksBehind, KeepsLevel, LooksLater, is_level}
use Rattle.procedural_ops.proofs.Any.{alone, any-found, any-made}
use Rattle.procedural_ops.proofs.Duals.{is_in-targets, after_turned, later_still, later_next}
use Rattle.procedural_ops.proofs.Steps as laws
use Rattle.procedural_ops.proofs.Weights as weights

module _ (t : Tree) (tree : IsTree t) (path : Bytes) (patterns : List Written) where
  abbrev later : ℕ → List ℕ
  later z = numbers_of (after t z)

  -- what the next sibling and the later ones are
  target_is : (place : Place) (x z : ℕ) → IsElement t x → is_in (targets t place x) z ≡ true → IsElement t z
  target_is place x z x_is h = (and_parts (is_in (all t) z) (is_there t place x z) (sym (is_in-targets t tree place x z x_is) ∙ h)).0

  first_within : (l : List ℕ) (z : ℕ) → is_in (take 1 l) z ≡ true → is_in l z ≡ true
  first_within [] z h = h
  first_within (m ∷ l) z h = or_left (m == z) (is_in l z) (eq-eqb m z (alone m z h))

  -- where the front leads from z, and the steps from a later sibling w, the steps lead from z
  abbrev LeadsToo : List Step → List Step → Type 0
  LeadsToo front s =
      (z w : ℕ) → IsElement t z → IsElement t w → is_in (later z) w ≡ true → leads_from t path front z ≡ true → leads_from t path s w ≡ true → leads_from t path s z ≡ true

  -- one step more in front
  step_leads : (s : Step) (front steps : List Step) → KeepsLevel s → are_inner patterns front ≡ true → are_inner patterns steps ≡ true → LeadsToo front steps → LeadsToo (s ∷ front) (s ∷ steps)
  step_leads s front steps (inl keep) front_inner inner too z w z_is w_is up h g =
      let q = keep.0 in
      let at_z = laws.keep_front t path tree patterns (s ∷ steps) steps s z refl inner z_is q keep.1 in
      let at_w = laws.keep_front t path tree patterns (s ∷ steps) steps s w refl inner w_is q keep.1 in
      let front_z = laws.keep_front t path tree patterns (s ∷ front) front s z refl front_inner z_is q keep.1 in
      let a = and_parts (holds pattern_found t path q z) (leads_from t path front z) (sym front_z ∙ h) in
      let b = and_parts (holds pattern_found t path q w) (leads_from t path steps w) (sym at_w ∙ g) in
      at_z ∙ and_from (holds pattern_found t path q z) (leads_from t path steps z) a.0 (too z w z_is w_is up a.1 b.1)
  step_leads s front steps (inr next) front_inner inner too z w z_is w_is up h g =
      let at_z = laws.leads_moved t path tree patterns (s ∷ steps) steps s z refl inner z_is Next next in
      let at_w = laws.leads_moved t path tree patterns (s ∷ steps) steps s w refl inner w_is Next next in
      let front_z = laws.leads_moved t path tree patterns (s ∷ front) front s z refl front_inner z_is Next next in
      let n = any-found (leads_from t path front) (targets t Next z) (sym front_z ∙ h) in
      let m = any-found (leads_from t path steps) (targets t Next w) (sym at_w ∙ g) in
      let on = later_next t tree z w n.0 m.0 z_is w_is up n.1 (first_within (later w) m.0 m.1) in
      at_z ∙ any-made (leads_from t path steps) (targets t Next z) n.0 n.1 (too n.0 m.0 (target_is Next z n.0 z_is n.1) (target_is Next w m.0 w_is m.1) on n.2 m.2)

  later_leads : (front rest more : List Step) → All KeepsLevel front → rest ≡ step.Move After ∷ more → are_inner patterns (front ++ rest) ≡ true → LeadsToo front (front ++ rest)
  later_leads [] rest more level is inner z w z_is w_is up h g =
      let i = (weights.inner_first patterns rest more (step.Move After) is inner).1 in
      let at_w = laws.leads_moved t path tree patterns rest more (step.Move After) w is i w_is After refl in
      let at_z = laws.leads_moved t path tree patterns rest more (step.Move After) z is i z_is After refl in
      let found = any-found (leads_from t path more) (targets t After w) (sym at_w ∙ g) in
      at_z ∙ any-made (leads_from t path more) (targets t After z) found.0 (later_still t tree z w found.0 z_is w_is up found.1) found.2
  later_leads (s ∷ front) rest more level is inner z w z_is w_is up h g =
      let both = (weights.inner_first patterns (s ∷ (front ++ rest)) (front ++ rest) s refl inner).1 in
      let front_inner = (and_parts (are_inner patterns front) (are_inner patterns rest) (sym (weights.inner-append patterns front rest) ∙ both)).0 in
      step_leads s front (front ++ rest) (All-head KeepsLevel s front level) front_inner both (later_leads front rest more (All-tail KeepsLevel s front level) is both) z w z_is w_is up h g

  none_later : (s : List Step) (z : ℕ) → ((w : ℕ) → is_in (later z) w ≡ true → leads_from t path s w ≡ true → ⊥) → (place : Place) → is_level place ≡ true → BlocksBehind t path place s z
  none_later s z fails place level x = by place level
    where
      none : list_any (leads_from t path s) (later z) ≡ false
      none = false_from_ne_true (list_any (leads_from t path s) (later z)) (λ e. let r = any-found (leads_from t path s) (later z) e in fails r.0 r.1 r.2)

      by : (p : Place) → is_level p ≡ true → list_any (leads_from t path s) (targets_behind t p x z) ≡ false
      by Child h = none
      by Descendant h = absurd (both_ways false refl h)
      by Next h = refl
      by After h = none

  -- where the front leads from z, and the steps lead to nothing from it, they lead to nothing from its later siblings
  pub behind : (s front rest : List Step) → s ≡ front ++ rest → are_inner patterns s ≡ true → LooksLater front rest → (z : ℕ) → IsElement t z
      → leads_from t path front z ≡ true → leads_from t path s z ≡ false → (place : Place) → is_level place ≡ true → BlocksBehind t path place s z
  behind s front rest is inner looks z z_is h fails place level =
      let whole : are_inner patterns (front ++ rest) ≡ true = sym (ap (are_inner patterns) is) ∙ inner in
      none_later s z
      (λ w up g.
      let w_is = (and_parts (is_in (all t) w) (is_in (numbers_of (before t w)) z) (sym (after_turned t tree z w z_is) ∙ up)).0 in
      both_ways false refl (sym fails ∙ ap (λ (l : List Step). leads_from t path l z) is
      ∙ later_leads front rest looks.1.0 looks.0 looks.1.1 whole z w z_is w_is up h (sym (ap (λ (l : List Step). leads_from t path l w) is) ∙ g)))
      place level
