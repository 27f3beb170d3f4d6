-- What each function's answer is, from what its calls answered.
use Rattle.std.proofs.Common.{◌≡◌, ℕ, zero, suc, ◌+◌, ◌-◌, ◌<◌, ◌≤◌, Bool, true, false, ◌&&◌, ◌||◌, ◌==◌, not, cond, List, [], ◌∷◌, ◌++◌, map, find, take, drop, length, get_or, Option, Some, None, refl, sym, ap, ap₂, ◌∙◌, arith, add-one, if◌then◌else◌, length-drop}
use Rattle.std.proofs.lemmas.Bool.{eqb-true, both_ways, and_parts, and_from}
use Rattle.std.proofs.lemmas.List.{take_all}
use Rattle.std.proofs.lemmas.List.Folds.{list_any_at}
use Rattle.std.proofs.Math.Bool as bool
use Rattle.std.specs.List.{list_any}
use mathlib.Core.Path.{fun_ext}
use Rattle.selector_tree.specs.declared.selector.Place.{Place}
use Rattle.selector_tree.specs.declared.selector.Step.{Step, out-Step}
use Rattle.selector_tree.specs.declared.selector.Step.TheVariants as step
use Rattle.selector_tree.specs.declared.selector.Step.TheOpen.{Step-F}
use Rattle.selector_tree.specs.declared.selector.Step.TheFolds.{fold_out-Step, map-Step}
use Rattle.selector_tree.specs.declared.selector.Test.{Test}
use Rattle.selector_tree.specs.declared.selector.Test.TheVariants as test
use Rattle.page_tree.specs.Forest.{Tree}
use Rattle.page_tree.specs.Standings.{all, above}
use Rattle.page_tree.specs.Directions.{is_in, head_is}
use Rattle.page_tree.specs.Trees.{IsTree}
use Rattle.page_tree.proofs.Members.{is_in-filter}
use Rattle.cos_patterns.specs.declared.written.Written.{Written}
use Rattle.cos_patterns.specs.Found.{pattern_found}
use Rattle.selector_meaning.specs.Texts.{Bytes}
use Rattle.selector_meaning.specs.Meaning.{StepMeaning, TestMeaning, ChainMeaning, run, front, rest, gives, leads, option_is, ancestor, holds, step_meaning, test_meaning, from_some, is_there, selected_by, selects, is_other, is_apart, is_beside, is_shown}
use Rattle.selector_meaning.proofs.Laws.{step_of-Keep, step_of-Move, step_of-Others, holds-Is, holds-Not, holds-Has}
use Rattle.selector_match.specs.Asked.{below, is_one_step, sources}
use Rattle.selector_match.proofs.SiblingLaws.{is_there-sources}
use Rattle.proper_filters.specs.Proper.{are_inner}
use Rattle.procedural_ops.specs.Reaching.{meaning, chain_meaning, reached, leads_from, chain_gives, some_gives, some_leads, is_selected, goes_up, goes_up_at, first_up_of, lifted, lifted_at}
use Rattle.procedural_ops.specs.Search.{some_source, some_target, some_lifted}
use Rattle.selector_match.specs.Walks.{elements_behind, targets}
use Rattle.procedural_ops.proofs.Any.{same_by_iff, any-made, any-found, any-same_members, any-within, all-any, any-map}
use Rattle.procedural_ops.proofs.Linear.{reached_elements, reached-last, leads-first}
use Rattle.procedural_ops.proofs.Duals.{is_in-targets, is_in-below}

-- one that passes settles it, and none that passes does too
module _ {X : Type 0} (p : X → Bool) (xs : List X) (i : ℕ) where
  pub any_at : (x : X) → i < length xs → x ≡ get_or xs i x → p x ≡ true → list_any p xs ≡ true
  any_at x h is passes = list_any_at p xs i x h (ap p (sym is) ∙ passes)

  pub any_end : list_any p (take i xs) ≡ false → length xs ≤ i → list_any p xs ≡ false
  any_end none h = ap (list_any p) (sym (take_all i xs h)) ∙ none

-- `&xs[k..]`
pub tail_is : (xs : List Step) (k : ℕ) → take (length xs - k) (drop k xs) ≡ drop k xs
tail_is xs k = take_all (length xs - k) (drop k xs) (omega (arith, length-drop k xs))

off : (a : Bool) → (a || false) ≡ a
off true = refl
off false = refl

module _ (t : Tree) (path : Bytes) where
  -- ---- tests

  pub is_is : (q : Test) (l : List (List Step)) (x : ℕ) → q ≡ test.Is l → holds pattern_found t path q x ≡ some_gives t path l x
  unfolding some_gives chain_gives
  is_is q l x is =
      ap (λ (r : Test). holds pattern_found t path r x) is ∙ ap (λ (f : TestMeaning). f x) (holds-Is pattern_found t path l)
      ∙ any-map (map (meaning t path)) (λ chain. gives t chain x) l

  pub not_is : (q : Test) (l : List (List Step)) (x : ℕ) → q ≡ test.Not l → holds pattern_found t path q x ≡ not (some_gives t path l x)
  unfolding some_gives chain_gives
  not_is q l x is =
      ap (λ (r : Test). holds pattern_found t path r x) is ∙ ap (λ (f : TestMeaning). f x) (holds-Not pattern_found t path l)
      ∙ ap not (any-map (map (meaning t path)) (λ chain. gives t chain x) l)

  pub has_is : (q : Test) (l : List (List Step)) (x : ℕ) → q ≡ test.Has l → holds pattern_found t path q x ≡ some_leads t path l x
  unfolding some_leads leads_from
  has_is q l x is =
      ap (λ (r : Test). holds pattern_found t path r x) is ∙ ap (λ (f : TestMeaning). f x) (holds-Has pattern_found t path l)
      ∙ any-map (map (meaning t path)) (λ chain. leads chain x) l

  pub selects_is : (l : List (List Step)) (x : ℕ) → is_selected t path l x ≡ selects pattern_found t path l x
  unfolding is_selected reached
  selects_is l x = sym (any-map (map (meaning t path)) (λ chain. is_in (run chain (all t)) x) l)

  -- ---- chains

  up_layer : (o : Step-F Step Test) → goes_up_at o ≡ (step_meaning pattern_found t path (map-Step Step Test StepMeaning TestMeaning (meaning t path) (holds pattern_found t path) o)).goes_up
  up_layer (Step-F.Keep q) = refl
  up_layer (Step-F.Move place) = refl
  up_layer (Step-F.Upward n) = refl
  up_layer (Step-F.UpwardTo l) = refl
  up_layer Step-F.Others = refl

  up_is : (s : Step) → (meaning t path s).goes_up ≡ goes_up s
  up_is s =
      ap (λ (m : StepMeaning). m.goes_up) (fold_out-Step StepMeaning TestMeaning (step_meaning pattern_found t path) (test_meaning pattern_found t path) s)
      ∙ sym (up_layer (out-Step s))

  step_front : (b : Bool) (m : StepMeaning) (ms : ChainMeaning) → m.goes_up ≡ b → front (m ∷ ms) ≡ cond b [] (m ∷ front ms)
  step_front b m ms e = ap (λ (c : Bool). cond {A = ChainMeaning} c [] (m ∷ front ms)) e

  step_rest : (b : Bool) (m : StepMeaning) (ms : ChainMeaning) → m.goes_up ≡ b → rest (m ∷ ms) ≡ cond b (m ∷ ms) (rest ms)
  step_rest b m ms e = ap (λ (c : Bool). cond {A = ChainMeaning} c (m ∷ ms) (rest ms)) e

  front_by : (b : Bool) (s : Step) (steps : List Step) (k : ℕ) → front (chain_meaning t path steps) ≡ chain_meaning t path (take k steps) →
      cond {A = ChainMeaning} b [] (meaning t path s ∷ front (chain_meaning t path steps)) ≡ chain_meaning t path (take (if b then 0 else k + 1) (s ∷ steps))
  front_by true s steps k e = refl
  front_by false s steps k e = rw add-one (ap (λ (ms : ChainMeaning). meaning t path s ∷ ms) e)

  rest_by : (b : Bool) (s : Step) (steps : List Step) (k : ℕ) → rest (chain_meaning t path steps) ≡ chain_meaning t path (drop k steps) →
      cond {A = ChainMeaning} b (meaning t path s ∷ chain_meaning t path steps) (rest (chain_meaning t path steps)) ≡ chain_meaning t path (drop (if b then 0 else k + 1) (s ∷ steps))
  rest_by true s steps k e = refl
  rest_by false s steps k e = rw add-one e

  front_is : (chain : List Step) → front (chain_meaning t path chain) ≡ chain_meaning t path (take (first_up_of chain) chain)
  unfolding first_up_of
  front_is [] = refl
  front_is (s ∷ steps) = step_front _ _ _ (up_is s) ∙ front_by (goes_up s) s steps (first_up_of steps) (front_is steps)

  rest_is : (chain : List Step) → rest (chain_meaning t path chain) ≡ chain_meaning t path (drop (first_up_of chain) chain)
  unfolding first_up_of
  rest_is [] = refl
  rest_is (s ∷ steps) = step_rest _ _ _ (up_is s) ∙ rest_by (goes_up s) s steps (first_up_of steps) (rest_is steps)

  pub gives_is : (chain : List Step) (x at : ℕ) → at ≡ first_up_of chain →
      chain_gives t path chain x ≡ (is_in (reached t path (take at chain)) x && leads_from t path (drop at chain) x)
  unfolding chain_gives reached leads_from
  gives_is chain x at is =
      ap₂ ◌&&◌
      (ap (λ (ms : ChainMeaning). is_in (run ms (all t)) x) (front_is chain ∙ ap (λ k. chain_meaning t path (take k chain)) (sym is)))
      (ap (λ (ms : ChainMeaning). leads ms x) (rest_is chain ∙ ap (λ k. chain_meaning t path (drop k chain)) (sym is)))

  pub gives_both : (chain : List Step) (x at : ℕ) → at ≡ first_up_of chain → (b c : Bool) → b ≡ is_in (reached t path (take at chain)) x → b ≡ true →
      c ≡ leads_from t path (drop at chain) x → c ≡ chain_gives t path chain x
  gives_both chain x at is b c e h f =
      f ∙ sym (gives_is chain x at is ∙ ap (λ d. d && leads_from t path (drop at chain) x) (sym e ∙ h))

  pub gives_off : (chain : List Step) (x at : ℕ) → at ≡ first_up_of chain → (b : Bool) → b ≡ is_in (reached t path (take at chain)) x → b ≡ false →
      chain_gives t path chain x ≡ false
  gives_off chain x at is b e h = gives_is chain x at is ∙ ap (λ d. d && leads_from t path (drop at chain) x) (sym e ∙ h)

  pub reached_none : (steps : List Step) (x : ℕ) → length steps ≡ 0 → is_in (all t) x ≡ true → true ≡ is_in (reached t path steps) x
  unfolding reached
  reached_none [] x h in_all = sym in_all
  reached_none (s ∷ steps) x h in_all = cc

  pub leads_none : (steps : List Step) (x : ℕ) → length steps ≡ 0 → true ≡ leads_from t path steps x
  unfolding leads_from
  leads_none [] x h = refl
  leads_none (s ∷ steps) x h = cc

  -- ---- one step, from the back

  module _ (steps before : List Step) (last : Step) (x : ℕ) (is : steps ≡ before ++ last ∷ []) where
    by_law : (m : StepMeaning) → meaning t path last ≡ m → is_in (reached t path steps) x ≡ is_in (m.push (reached t path before)) x
    by_law m e = ap (λ (s : List ℕ). is_in s x) (reached-last t path steps before last is ∙ ap (λ (n : StepMeaning). n.push (reached t path before)) e)

    pub keep_law : (q : Test) → last ≡ step.Keep q → is_in (reached t path steps) x ≡ (is_in (reached t path before) x && holds pattern_found t path q x)
    keep_law q e =
        by_law _ (ap (meaning t path) e ∙ step_of-Keep pattern_found t path q) ∙ is_in-filter (holds pattern_found t path q) (reached t path before) x

    module _ (x_is : is_in (all t) x ≡ true) where
      from_law : (r : ℕ → ℕ → Bool) → is_in (from_some t r (reached t path before)) x ≡ list_any (λ y. r y x) (reached t path before)
      from_law r =
          is_in-filter (λ z. list_any (λ y. r y z) (reached t path before)) (all t) x
          ∙ ap (λ b. b && list_any (λ y. r y x) (reached t path before)) x_is

      pub reached_others : last ≡ step.Others → is_in (reached t path steps) x ≡ is_other t (reached t path before) x
      reached_others e =
          by_law _ (ap (meaning t path) e ∙ step_of-Others pattern_found t path)
          ∙ is_in-filter (is_other t (reached t path before)) (all t) x ∙ ap (λ b. b && is_other t (reached t path before) x) x_is

      pub reached_moved : (place : Place) → last ≡ step.Move place → is_in (reached t path steps) x ≡ some_source t place (is_in (reached t path before)) x
      reached_moved place e =
          by_law _ (ap (meaning t path) e ∙ step_of-Move pattern_found t path place) ∙ from_law (is_there t place)
          ∙ same_by_iff (list_any (λ y. is_there t place y x) (reached t path before)) (list_any (is_in (reached t path before)) step_sources)
          (λ h. let r = any-found (λ y. is_there t place y x) (reached t path before) h in
          any-made (is_in (reached t path before)) step_sources r.0 (sym (there_in r.0) ∙ r.2) r.1)
          (λ h. let r = any-found (is_in (reached t path before)) step_sources h in
          any-made (λ y. is_there t place y x) (reached t path before) r.0 r.2 (there_in r.0 ∙ r.1))
        where
          step_sources : List ℕ
          step_sources = if is_one_step place then take 1 (sources t place x) else sources t place x

          first_only : (l : List ℕ) (y : ℕ) → head_is l y ≡ is_in (take 1 l) y
          first_only [] y = refl
          first_only (m ∷ l) y = sym (off (m == y))

          by_one_step : (b : Bool) (l : List ℕ) (y : ℕ) → cond b (head_is l y) (is_in l y) ≡ is_in (if b then take 1 l else l) y
          by_one_step true l y = first_only l y
          by_one_step false l y = refl

          there_in : (y : ℕ) → is_there t place y x ≡ is_in step_sources y
          there_in y = is_there-sources t place y x ∙ by_one_step (is_one_step place) (sources t place x) y

  -- ---- steps that go up

  selected_alike : (l : List (List Step)) → selected_by t (map (map (meaning t path)) l) ≡ is_selected t path l
  unfolding is_selected reached
  selected_alike l = fun_ext (λ z. any-map (map (meaning t path)) (λ chain. is_in (run chain (all t)) z) l)

  push_layer : (o : Step-F Step Test) → goes_up_at o ≡ true → (s : List ℕ) →
      (step_meaning pattern_found t path (map-Step Step Test StepMeaning TestMeaning (meaning t path) (holds pattern_found t path) o)).push s
      ≡ from_some t (λ y x. option_is (lifted_at t path o y) x) s
  push_layer (Step-F.Keep q) h s = absurd (both_ways false refl h)
  push_layer (Step-F.Move place) h s = absurd (both_ways false refl h)
  push_layer (Step-F.Upward n) h s = refl
  push_layer (Step-F.UpwardTo l) h s = ap (λ (p : ℕ → Bool). from_some t (λ y x. option_is (find p (above t y)) x) s) (selected_alike l)
  push_layer Step-F.Others h s = absurd (both_ways false refl h)

  push_up : (s : Step) → goes_up s ≡ true → (xs : List ℕ) → (meaning t path s).push xs ≡ from_some t (λ y x. option_is (lifted t path s y) x) xs
  push_up s h xs =
      ap (λ (m : StepMeaning). m.push xs) (fold_out-Step StepMeaning TestMeaning (step_meaning pattern_found t path) (test_meaning pattern_found t path) s)
      ∙ push_layer (out-Step s) h xs

  ancestor_in : (n : ℕ) (l : List ℕ) (x : ℕ) → option_is (ancestor n l) x ≡ true → is_in l x ≡ true
  ancestor_in zero l x h = absurd (both_ways false refl h)
  ancestor_in (suc n) [] x h = absurd (both_ways false refl h)
  ancestor_in (suc zero) (y ∷ l) x h = ap (λ b. b || is_in l x) h
  ancestor_in (suc (suc n)) (y ∷ l) x h = elim (y == x) as (λ b. (b || is_in l x) ≡ true) [ true ↦ refl | false ↦ ancestor_in (suc n) l x h ]

  find_in : (p : ℕ → Bool) (l : List ℕ) (x : ℕ) → option_is (find p l) x ≡ true → is_in l x ≡ true
  find_in p [] x h = absurd (both_ways false refl h)
  find_in p (y ∷ l) x h = by_test (p y) h (find_in p l x)
    where
      by_test : (b : Bool) → option_is (cond b (Some y) (find p l)) x ≡ true → (option_is (find p l) x ≡ true → is_in l x ≡ true) → (y == x || is_in l x) ≡ true
      by_test true e more = ap (λ b. b || is_in l x) e
      by_test false e more = elim (y == x) as (λ b. (b || is_in l x) ≡ true) [ true ↦ refl | false ↦ more e ]

  lifted_layer : (o : Step-F Step Test) (y x : ℕ) → option_is (lifted_at t path o y) x ≡ true → is_in (above t y) x ≡ true
  lifted_layer (Step-F.Keep q) y x h = absurd (both_ways false refl h)
  lifted_layer (Step-F.Move place) y x h = absurd (both_ways false refl h)
  lifted_layer (Step-F.Upward n) y x h = ancestor_in n (above t y) x h
  lifted_layer (Step-F.UpwardTo l) y x h = find_in (is_selected t path l) (above t y) x h
  lifted_layer Step-F.Others y x h = absurd (both_ways false refl h)

  module _ (tree : IsTree t) where
    pub reached_lifted : (steps before : List Step) (last : Step) (x : ℕ) → steps ≡ before ++ last ∷ [] → is_in (all t) x ≡ true → goes_up last ≡ true →
        is_in (reached t path steps) x ≡ some_lifted t path last (is_in (reached t path before)) x
    reached_lifted steps before last x is x_is up =
        ap (λ (s : List ℕ). is_in s x) (reached-last t path steps before last is ∙ push_up last up (reached t path before))
        ∙ from_law steps before last x is x_is (λ y z. option_is (lifted t path last y) z)
        ∙ same_by_iff (list_any (λ y. option_is (lifted t path last y) x) (reached t path before)) (some_lifted t path last (is_in (reached t path before)) x)
        (λ h.
        let r = any-found (λ y. option_is (lifted t path last y) x) (reached t path before) h in
        let y_is = reached_elements t path before r.0 r.1 in
        any-made (λ y. option_is (lifted t path last y) x && is_in (reached t path before) y) (elements_behind t (below t x) x) r.0
        (is_in-below t tree x r.0 x_is ∙ and_from (is_in (all t) r.0) (is_in (above t r.0) x) y_is (lifted_layer (out-Step last) r.0 x r.2))
        (and_from (option_is (lifted t path last r.0) x) (is_in (reached t path before) r.0) r.2 r.1))
        (λ h.
        let r = any-found (λ y. option_is (lifted t path last y) x && is_in (reached t path before) y) (elements_behind t (below t x) x) h in
        let p = and_parts (option_is (lifted t path last r.0) x) (is_in (reached t path before) r.0) r.2 in
        any-made (λ y. option_is (lifted t path last y) x) (reached t path before) r.0 p.1 p.0)

    -- ---- one step, from the front

    module _ (patterns : List Written) (steps more : List Step) (first : Step) (x : ℕ) (is : steps ≡ first ∷ more) (inner : are_inner patterns more ≡ true) (x_is : is_in (all t) x ≡ true) where
      front_law : (m : StepMeaning) → meaning t path first ≡ m → leads_from t path steps x ≡ list_any (leads_from t path more) (m.push (x ∷ []))
      front_law m e = leads-first t path patterns steps more first is inner x ∙ ap (λ (n : StepMeaning). list_any (leads_from t path more) (n.push (x ∷ []))) e

      pub keep_front : (q : Test) → first ≡ step.Keep q → leads_from t path steps x ≡ (holds pattern_found t path q x && leads_from t path more x)
      keep_front q e =
          front_law _ (ap (meaning t path) e ∙ step_of-Keep pattern_found t path q)
          ∙ elim (holds pattern_found t path q x) as (λ b. list_any (leads_from t path more) (cond b (x ∷ []) []) ≡ (b && leads_from t path more x)) [
            | true ↦ off (leads_from t path more x)
            | false ↦ refl
          ]

      pub leads_moved : (place : Place) → first ≡ step.Move place → leads_from t path steps x ≡ some_target t place (leads_from t path more) x
      leads_moved place e =
          front_law _ (ap (meaning t path) e ∙ step_of-Move pattern_found t path place)
          ∙ any-same_members (leads_from t path more) (from_some t (is_there t place) (x ∷ [])) (targets t place x)
          (λ z. is_in-filter (λ w. list_any (λ y. is_there t place y w) (x ∷ [])) (all t) z
          ∙ ap (λ b. is_in (all t) z && b) (off (is_there t place x z))
          ∙ sym (is_in-targets t tree place x z x_is))

      up_front : goes_up first ≡ true → leads_from t path steps x ≡ list_any (leads_from t path more) (from_some t (λ y z. option_is (lifted t path first y) z) (x ∷ []))
      up_front up = leads-first t path patterns steps more first is inner x ∙ ap (list_any (leads_from t path more)) (push_up first up (x ∷ []))

      pub leads_lifted : goes_up first ≡ true → (z : ℕ) → Some z ≡ lifted t path first x → is_in (all t) z ≡ true → (c : Bool) → c ≡ leads_from t path more z → c ≡ leads_from t path steps x
      leads_lifted up z e z_is c f =
          f ∙ sym (up_front up
          ∙ any-same_members (leads_from t path more) (from_some t (λ y w. option_is (lifted t path first y) w) (x ∷ [])) (z ∷ [])
          (λ w. is_in-filter (λ v. list_any (λ y. option_is (lifted t path first y) v) (x ∷ [])) (all t) w
          ∙ ap (λ b. is_in (all t) w && b) (off (option_is (lifted t path first x) w) ∙ ap (λ (o : Option ℕ). option_is o w) (sym e))
          ∙ same_by_iff (is_in (all t) w && (z == w)) (z == w || false)
          (λ h. off (z == w) ∙ (and_parts (is_in (all t) w) (z == w) h).1)
          (λ h. let same : (z == w) ≡ true = sym (off (z == w)) ∙ h in and_from (is_in (all t) w) (z == w) (ap (is_in (all t)) (sym (eqb-true z w same)) ∙ z_is) same))
          ∙ off (leads_from t path more z))

      pub leads_nowhere : goes_up first ≡ true → None ≡ lifted t path first x → false ≡ leads_from t path steps x
      leads_nowhere up e =
          sym (up_front up
          ∙ any-same_members (leads_from t path more) (from_some t (λ y w. option_is (lifted t path first y) w) (x ∷ [])) []
          (λ w. is_in-filter (λ v. list_any (λ y. option_is (lifted t path first y) v) (x ∷ [])) (all t) w
          ∙ ap (λ b. is_in (all t) w && b) (off (option_is (lifted t path first x) w) ∙ ap (λ (o : Option ℕ). option_is o w) (sym e))
          ∙ bool.and-false (is_in (all t) w)))

  -- ---- Others, asked of all elements

  pub others_by : (before : List Step) (x : ℕ) →
      is_other t (reached t path before) x
      ≡ (not (list_any (λ y. is_in (reached t path before) y && not (is_apart t y x)) (all t))
      && list_any (λ y. is_in (reached t path before) y && is_beside t y x) (all t) && is_shown t x)
  others_by before x =
      let within = reached_elements t path before in
      ap₂ (λ a b. a && b && is_shown t x)
      (all-any (λ y. is_apart t y x) (reached t path before) ∙ ap not (any-within (λ y. not (is_apart t y x)) (reached t path before) (all t) within))
      (any-within (λ y. is_beside t y x) (reached t path before) (all t) within)
