-- A walk that looks at each number once, and adds where one step leads from it.
use Rattle.std.proofs.Common.{◌≡◌, ℕ, suc, ◌+◌, true, ◌||◌, inl, inr, List, [], ◌∷◌, ◌++◌, take, Some, None, sym, ap, ◌∙◌, subst, arith}
use Rattle.std.specs.Prelude.{slice_get}
use Rattle.std.proofs.lemmas.Bool.{or_cases, or_left, or_right, and_parts}
use Rattle.page_tree.specs.Forest.{Tree}
use Rattle.page_tree.specs.Directions.{is_in}
use Rattle.page_tree.specs.Trees.{IsTree}
use Rattle.dependency_sets.specs.declared.near.Near.{Near}
use Rattle.dependency_sets.specs.Reaching.{is_place, ArePlaces, leads_to, leads_from, one_step, all_steps, Adds, Closes}
use Rattle.dependency_sets.proofs.Members.{never, same_by_iff, any-made, any-found, is_in-get, take-get, take-past, is_in-append, alone}
use Rattle.dependency_sets.proofs.Chains.{Follows, follows}

-- what holds when so many were looked at
pub record Closing (t : Tree) (near : Near) (old now : List ℕ) (turn : ℕ) : Type 0 where
  pub keeps : (x : ℕ) → is_in old x ≡ true → is_in now x ≡ true
  pub places : ArePlaces t now
  pub led : (x : ℕ) → is_in now x ≡ true → (is_in old x || leads_from t (all_steps near) old x) ≡ true
  pub done : (y x : ℕ) → is_in (take turn now) y ≡ true → leads_to t (one_step near) y x ≡ true → is_in now x ≡ true

module _ (t : Tree) (tree : IsTree t) (near : Near) where
  pub closing_start : (old : List ℕ) → ArePlaces t old → Closing t near old old 0
  closing_start old h = record {
    keeps = λ x i. i;
    places = h;
    led = λ x i. or_left (is_in old x) (leads_from t (all_steps near) old x) i;
    done = λ y x i n. never i;
  }

  pub closing_on : (old now new : List ℕ) (turn y : ℕ) → ArePlaces t old → Closing t near old now turn → slice_get now turn ≡ Some y →
      Adds (leads_to t (one_step near) y) now new → Closing t near old new (turn + 1)
  closing_on old now new turn y start c at a =
      let y_in : is_in now y ≡ true = is_in-get now turn y at in
      let l = follows t tree near in record {
        keeps = λ x i. a.members x ∙ or_left (is_in now x) (leads_to t (one_step near) y x) (c.keeps x i);
        places = λ x i. elim (or_cases (is_in now x) (leads_to t (one_step near) y x) (sym (a.members x) ∙ i)) [
          | inl before ↦ c.places x before
          | inr led ↦ (let p = and_parts _ _ led in p.0)
        ];
        led = λ x i. elim (or_cases (is_in now x) (leads_to t (one_step near) y x) (sym (a.members x) ∙ i)) [
          | inl before ↦ c.led x before
          | inr led ↦
              or_right (is_in old x) (leads_from t (all_steps near) old x)
              (elim (or_cases (is_in old y) (leads_from t (all_steps near) old y) (c.led y y_in)) [
                | inl first ↦ any-made (λ z. leads_to t (all_steps near) z x) old y first (l.begins y x (start y first) led)
                | inr far ↦
                    let r = any-found (λ z. leads_to t (all_steps near) z y) old far in
                    any-made (λ z. leads_to t (all_steps near) z x) old r.0 r.1 (l.goes_on r.0 y x (start r.0 r.1) r.2 led)
              ])
        ];
        done = λ z x i n.
            let next : turn + 1 ≡ suc turn = omega arith in
            let split : take (turn + 1) new ≡ take turn now ++ y ∷ [] =
            ap (λ k. take k new) next ∙ ap (take (suc turn)) a.begins.1 ∙ take-get now a.begins.0 turn y at in
            a.members x
            ∙ elim (or_cases (is_in (take turn now) z) (is_in (y ∷ []) z) (sym (is_in-append (take turn now) (y ∷ []) z) ∙ sym (ap (λ ns. is_in ns z) split) ∙ i)) [
              | inl before ↦ or_left (is_in now x) (leads_to t (one_step near) y x) (c.done z x before n)
              | inr last ↦ or_right (is_in now x) (leads_to t (one_step near) y x) (subst (λ k. leads_to t (one_step near) k x ≡ true) (sym (alone y z last)) n)
            ];
      }

  pub closing_end : (old now : List ℕ) (turn : ℕ) → Closing t near old now turn → slice_get now turn ≡ None → Closes t near old now
  closing_end old now turn c past = record {
    keeps = c.keeps;
    places = c.places;
    led = c.led;
    closed = λ y x i n. c.done y x (ap (λ ns. is_in ns y) (take-past now turn past) ∙ i) n;
  }

  -- one step from some, and then all that is behind: that is many steps from them
  pub all_from : (from first all : List ℕ) → ArePlaces t from → ((x : ℕ) → is_in first x ≡ leads_from t (one_step near) from x) → Closes t near first all →
      (x : ℕ) → is_in all x ≡ leads_from t (all_steps near) from x
  all_from from first all start is c x =
      same_by_iff (is_in all x) (leads_from t (all_steps near) from x)
      (λ h. elim (or_cases (is_in first x) (leads_from t (all_steps near) first x) (c.led x h)) [
        | inl one ↦
            let r = any-found (λ y. leads_to t (one_step near) y x) from (sym (is x) ∙ one) in
            any-made (λ y. leads_to t (all_steps near) y x) from r.0 r.1 (l.begins r.0 x (start r.0 r.1) r.2)
        | inr far ↦
            let z = any-found (λ y. leads_to t (all_steps near) y x) first far in
            let r = any-found (λ y. leads_to t (one_step near) y z.0) from (sym (is z.0) ∙ z.1) in
            let ok = start r.0 r.1 in
            let there = l.begins r.0 z.0 ok r.2 in
            any-made (λ y. leads_to t (all_steps near) y x) from r.0 r.1
            (l.arrives (leads_to t (all_steps near) r.0) z.0 (c.places z.0 (c.keeps z.0 z.1)) (λ w n. l.goes_on r.0 z.0 w ok there n) (λ v w k n. l.goes_on r.0 v w ok k n) x z.2)
      ])
      (λ h.
      let r = any-found (λ y. leads_to t (all_steps near) y x) from h in
      l.arrives (is_in all) r.0 (start r.0 r.1)
      (λ w n. c.keeps w (is w ∙ any-made (λ y. leads_to t (one_step near) y w) from r.0 r.1 n))
      (λ v w k n. c.closed v w k n) x r.2)
    where
      l : Follows (is_place t) (leads_to t (one_step near)) (leads_to t (all_steps near))
      l = follows t tree near

  -- some, and all that is behind
  pub with_all : (old all : List ℕ) → ArePlaces t old → Closes t near old all → (x : ℕ) → is_in all x ≡ (is_in old x || leads_from t (all_steps near) old x)
  with_all old all start c x =
      same_by_iff (is_in all x) (is_in old x || leads_from t (all_steps near) old x) (c.led x)
      (λ h. elim (or_cases (is_in old x) (leads_from t (all_steps near) old x) h) [
        | inl first ↦ c.keeps x first
        | inr far ↦
            let r = any-found (λ y. leads_to t (all_steps near) y x) old far in
            l.arrives (is_in all) r.0 (start r.0 r.1) (λ w n. c.closed r.0 w (c.keeps r.0 r.1) n) (λ v w k n. c.closed v w k n) x r.2
      ])
    where
      l : Follows (is_place t) (leads_to t (one_step near)) (leads_to t (all_steps near))
      l = follows t tree near
