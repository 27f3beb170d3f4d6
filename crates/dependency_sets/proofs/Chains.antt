-- Where many steps lead, from where one does.
use Rattle.std.proofs.Common.{◌≡◌, ℕ, Bool, true, false, not, ◌&&◌, ◌==◌, ◌⊎◌, inl, inr, List, [], ◌∷◌, ◌++◌, cond, refl, sym, ap, ◌∙◌, subst}
use Rattle.std.proofs.lemmas.Bool.{eqb-true, eq-eqb, ne_eqb, or_cases, or_left, or_right, and_from, and_parts}
use Rattle.page_tree.specs.Forest.{Tree}
use Rattle.page_tree.specs.Standings.{before}
use Rattle.page_tree.specs.Directions.{is_in, head_is, numbers_of, holders}
use Rattle.page_tree.specs.Trees.{IsTree}
use Rattle.page_tree.proofs.Around.{above-parent}
use Rattle.page_tree.proofs.Sides.{previous_side}
use Rattle.selector_match.proofs.SiblingLaws.{not_document}
use Rattle.dependency_sets.specs.declared.near.Near.{Near}
use Rattle.dependency_sets.specs.declared.near.Near.TheVariants.{Child, Parent, Next, Previous}
use Rattle.dependency_sets.specs.Reaching.{is_place, IsPlace, leads_to, one_step, all_steps}
use Rattle.dependency_sets.proofs.Members.{never}
use Rattle.dependency_sets.proofs.Nearby.{place_cases, place_element, before_document}

-- many steps: one step, or one more behind many; and what one step keeps, many keep
pub record Follows (ok : ℕ → Bool) (near far : ℕ → ℕ → Bool) : Type 0 where
  pub begins : (y x : ℕ) → ok y ≡ true → near y x ≡ true → far y x ≡ true
  pub goes_on : (y z x : ℕ) → ok y ≡ true → far y z ≡ true → near z x ≡ true → far y x ≡ true
  pub arrives : (has : ℕ → Bool) (y : ℕ) → ok y ≡ true → ((x : ℕ) → near y x ≡ true → has x ≡ true) →
      ((z x : ℕ) → has z ≡ true → near z x ≡ true → has x ≡ true) → (x : ℕ) → far y x ≡ true → has x ≡ true

pub alike : (ok : ℕ → Bool) (n n' f f' : ℕ → ℕ → Bool) → ((y x : ℕ) → n' y x ≡ n y x) → ((y x : ℕ) → f' y x ≡ f y x) → Follows ok n f → Follows ok n' f'
alike ok n n' f f' en ef l = record {
  begins = λ y x o h. ef y x ∙ l.begins y x o (sym (en y x) ∙ h);
  goes_on = λ y z x o g h. ef y x ∙ l.goes_on y z x o (sym (ef y z) ∙ g) (sym (en z x) ∙ h);
  arrives = λ has y o b c x h. l.arrives has y o (λ x h. b x (en y x ∙ h)) (λ z x k h. c z x k (en z x ∙ h)) x (sym (ef y x) ∙ h);
}

pub head_in : (l : List ℕ) (x : ℕ) → head_is l x ≡ true → is_in l x ≡ true
head_in [] x h = never h
head_in (y ∷ ys) x h = or_left (y == x) (is_in ys x) h

-- each place has a line of places, of which each stands before its own line
module _ (ok : ℕ → Bool) (line : ℕ → List ℕ)
    (chained : (x : ℕ) → ok x ≡ true → (line x ≡ []) ⊎ ((p : ℕ) × (ok p ≡ true) × (line x ≡ p ∷ line p))) where
  abbrev near_up : ℕ → ℕ → Bool
  near_up y x = ok x && head_is (line y) x

  abbrev far_up : ℕ → ℕ → Bool
  far_up y x = ok x && is_in (line y) x

  up_arrives : (has : ℕ → Bool) → ((z x : ℕ) → has z ≡ true → near_up z x ≡ true → has x ≡ true) →
      (l : List ℕ) (y : ℕ) → ok y ≡ true → line y ≡ l → ((x : ℕ) → near_up y x ≡ true → has x ≡ true) → (x : ℕ) → is_in l x ≡ true → has x ≡ true
  up_arrives has closed [] y o e first x h = never h
  up_arrives has closed (w ∷ ws) y o e first x h =
      elim (chained y o) [
        | inl none ↦ absurd (let no : [] ≡ w ∷ ws = sym none ∙ e in cc)
        | inr r ↦
            let both : w ∷ ws ≡ r.0 ∷ line r.0 = sym e ∙ r.2 in
            let same : w ≡ r.0 = cc (both) in
            let rest : ws ≡ line r.0 = cc (both) in
            let has_next : has r.0 ≡ true = first r.0 (and_from (ok r.0) (head_is (line y) r.0) r.1 (ap (λ l. head_is l r.0) r.2 ∙ eq-eqb r.0 r.0 refl)) in
            elim (or_cases (w == x) (is_in ws x) h) [
              | inl q ↦ subst (λ (k : ℕ). has k ≡ true) (sym same ∙ eqb-true w x q) has_next
              | inr q ↦ up_arrives has closed ws r.0 r.1 (sym rest) (λ z n. closed r.0 z has_next n) x q
            ]
      ]

  up_goes_on : (l : List ℕ) (y z x : ℕ) → ok y ≡ true → line y ≡ l → is_in l z ≡ true → head_is (line z) x ≡ true → is_in l x ≡ true
  up_goes_on [] y z x o e h n = never h
  up_goes_on (w ∷ ws) y z x o e h n =
      elim (chained y o) [
        | inl none ↦ absurd (let no : [] ≡ w ∷ ws = sym none ∙ e in cc)
        | inr r ↦
            let both : w ∷ ws ≡ r.0 ∷ line r.0 = sym e ∙ r.2 in
            let same : w ≡ r.0 = cc (both) in
            let rest : ws ≡ line r.0 = cc (both) in
            or_right (w == x) (is_in ws x) (elim (or_cases (w == z) (is_in ws z) h) [
              | inl q ↦
                  let at : r.0 ≡ z = sym same ∙ eqb-true w z q in
                  head_in ws x (ap (λ l. head_is l x) (rest ∙ ap line at) ∙ n)
              | inr q ↦ up_goes_on ws r.0 z x r.1 (sym rest) q n
            ])
      ]

  pub up_follows : Follows ok near_up far_up
  up_follows = record {
    begins = λ y x o h. let p = and_parts (ok x) (head_is (line y) x) h in and_from (ok x) (is_in (line y) x) p.0 (head_in (line y) x p.1);
    goes_on = λ y z x o g h.
        let p = and_parts (ok x) (head_is (line z) x) h in
        and_from (ok x) (is_in (line y) x) p.0 (up_goes_on (line y) y z x o refl (and_parts (ok z) (is_in (line y) z) g).1 p.1);
    arrives = λ has y o first closed x h. up_arrives has closed (line y) y o refl first x (and_parts (ok x) (is_in (line y) x) h).1;
  }

  abbrev near_down : ℕ → ℕ → Bool
  near_down y x = ok x && head_is (line x) y

  abbrev far_down : ℕ → ℕ → Bool
  far_down y x = ok x && is_in (line x) y

  down_arrives : (has : ℕ → Bool) (y : ℕ) → ((x : ℕ) → near_down y x ≡ true → has x ≡ true) → ((z x : ℕ) → has z ≡ true → near_down z x ≡ true → has x ≡ true) →
      (l : List ℕ) (x : ℕ) → ok x ≡ true → line x ≡ l → is_in l y ≡ true → has x ≡ true
  down_arrives has y first closed [] x o e h = never h
  down_arrives has y first closed (w ∷ ws) x o e h =
      elim (chained x o) [
        | inl none ↦ absurd (let no : [] ≡ w ∷ ws = sym none ∙ e in cc)
        | inr r ↦
            let both : w ∷ ws ≡ r.0 ∷ line r.0 = sym e ∙ r.2 in
            let same : w ≡ r.0 = cc (both) in
            let rest : ws ≡ line r.0 = cc (both) in
            elim (or_cases (w == y) (is_in ws y) h) [
              | inl q ↦ first x (and_from (ok x) (head_is (line x) y) o (ap (λ l. head_is l y) e ∙ q))
              | inr q ↦
                  closed r.0 x (down_arrives has y first closed ws r.0 r.1 (sym rest) q)
                  (and_from (ok x) (head_is (line x) r.0) o (ap (λ l. head_is l r.0) r.2 ∙ eq-eqb r.0 r.0 refl))
            ]
      ]

  down_goes_on : (y z x : ℕ) → ok x ≡ true → is_in (line z) y ≡ true → head_is (line x) z ≡ true → is_in (line x) y ≡ true
  down_goes_on y z x o h n =
      elim (chained x o) [
        | inl none ↦ never (sym (ap (λ l. head_is l z) none) ∙ n)
        | inr r ↦
            let at : r.0 ≡ z = eqb-true r.0 z (sym (ap (λ l. head_is l z) r.2) ∙ n) in
            ap (λ l. is_in l y) r.2 ∙ or_right (r.0 == y) (is_in (line r.0) y) (ap (λ k. is_in (line k) y) at ∙ h)
      ]

  pub down_follows : Follows ok near_down far_down
  down_follows = record {
    begins = λ y x o h. let p = and_parts (ok x) (head_is (line x) y) h in and_from (ok x) (is_in (line x) y) p.0 (head_in (line x) y p.1);
    goes_on = λ y z x o g h.
        let p = and_parts (ok x) (head_is (line x) z) h in
        and_from (ok x) (is_in (line x) y) p.0 (down_goes_on y z x p.0 (and_parts (ok z) (is_in (line z) y) g).1 p.1);
    arrives = λ has y o first closed x h.
        let p = and_parts (ok x) (is_in (line x) y) h in
        down_arrives has y first closed (line x) x p.0 refl p.1;
  }

cut_head : (b : Bool) (l : List ℕ) (x : ℕ) → (not b && head_is l x) ≡ head_is (cond b [] l) x
cut_head true l x = refl
cut_head false l x = refl

cut_in : (b : Bool) (l : List ℕ) (x : ℕ) → (not b && is_in l x) ≡ is_in (cond b [] l) x
cut_in true l x = refl
cut_in false l x = refl

module _ (t : Tree) (tree : IsTree t) where
  -- what is above a place, the document last
  abbrev over : ℕ → List ℕ
  over x = cond (x == 0) [] (holders t x)

  over_element : (x : ℕ) → (x ≡ 0 → ⊥) → over x ≡ holders t x
  over_element x n = ap (λ b. cond b [] (holders t x)) (ne_eqb x 0 n)

  over_chained : (x : ℕ) → IsPlace t x → (over x ≡ []) ⊎ ((p : ℕ) × IsPlace t p × (over x ≡ p ∷ over p))
  over_chained x h =
      elim (place_cases t tree x h) [
        | inl z ↦ inl (ap (λ b. cond b [] (holders t x)) (eq-eqb x 0 z))
        | inr here ↦
            let r = above-parent t tree x here in
            let own = over_element x (not_document t tree x here) in
            inr (elim r.2 [
              | inl top ↦ (0, refl, own ∙ ap (λ l. l ++ 0 ∷ []) top.1)
              | inr low ↦ (r.0, place_element t tree r.0 low.1, own ∙ ap (λ l. l ++ 0 ∷ []) low.2 ∙ ap (λ l. r.0 ∷ l) (sym (over_element r.0 low.0)))
            ])
      ]

  abbrev back : ℕ → List ℕ
  back x = numbers_of (before t x)

  back_chained : (x : ℕ) → IsPlace t x → (back x ≡ []) ⊎ ((p : ℕ) × IsPlace t p × (back x ≡ p ∷ back p))
  back_chained x h =
      elim (place_cases t tree x h) [
        | inl z ↦ inl (ap back z ∙ ap numbers_of (before_document t tree))
        | inr here ↦ elim (previous_side t tree x here) [
          | inl none ↦ inl (ap numbers_of none)
          | inr r ↦ inr (r.0, place_element t tree r.0 r.1, ap numbers_of r.2)
        ]
      ]

  pub follows : (near : Near) → Follows (is_place t) (leads_to t (one_step near)) (leads_to t (all_steps near))
  follows Child =
      alike (is_place t) _ _ _ _ (λ y x. ap (λ b. is_place t x && b) (cut_head (x == 0) (holders t x) y)) (λ y x. ap (λ b. is_place t x && b) (cut_in (x == 0) (holders t x) y))
      (down_follows (is_place t) over over_chained)
  follows Parent =
      alike (is_place t) _ _ _ _ (λ y x. ap (λ b. is_place t x && b) (cut_head (y == 0) (holders t y) x)) (λ y x. ap (λ b. is_place t x && b) (cut_in (y == 0) (holders t y) x))
      (up_follows (is_place t) over over_chained)
  follows Next = down_follows (is_place t) back back_chained
  follows Previous = up_follows (is_place t) back back_chained
