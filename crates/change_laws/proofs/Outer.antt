-- A selector that may be asked has `:others()` in its own chains alone.
use Rattle.std.proofs.Common.{◌≡◌, Bool, true, false, ◌||◌, not, List, [], ◌∷◌, map, refl, sym, ap, ap₂, subst, ◌∙◌}
use Rattle.std.specs.List.{list_all, list_any}
use Rattle.std.proofs.lemmas.Bool.{and_parts}
use Rattle.cos_patterns.specs.declared.written.Written.{Written}
use Rattle.selector_tree.specs.declared.selector.Step.{Step, out-Step}
use Rattle.selector_tree.specs.declared.selector.Step.TheOpen.{Step-F, Test-F}
use Rattle.selector_tree.specs.declared.selector.Step.TheFolds.{fold-roll-Step, fold-roll-Test, map-Step, map-Test, ind-Step, ind-Test}
use Rattle.selector_tree.specs.declared.selector.Step.TheViews.{roll-Step, roll-Test, roll-out-Step}
use Rattle.selector_tree.specs.declared.selector.Test.{Test}
use Rattle.proper_filters.specs.Proper.{inner_step, inner_test, is_inner, is_inner_test, own_step, is_own, are_own, is_proper}
use Rattle.sensor_meaning.specs.Nested.{Depth, some_any, others_in_step, others_in_test, step_others, test_others, is_outer}

neither : (a b : Bool) → a ≡ false → b ≡ false → (a || b) ≡ false
neither a b p q = ap₂ (λ a b. a || b) p q

module _ (patterns : List Written) where
  abbrev OuterStep : Step → Type 0
  OuterStep s = is_inner patterns s ≡ true → (step_others s).any ≡ false

  abbrev OuterTest : Test → Type 0
  OuterTest q = is_inner_test patterns q ≡ true → test_others q ≡ false

  -- a step or a test with the claim for it
  abbrev SomeStep : Type 0
  SomeStep = (s : Step) × OuterStep s

  abbrev SomeTest : Type 0
  SomeTest = (q : Test) × OuterTest q

  outer_chain : (chain : List SomeStep) → list_all (λ b. b) (map (is_inner patterns) (map (λ e. e.0) chain)) ≡ true →
      list_any (λ (d : Depth). d.any) (map step_others (map (λ e. e.0) chain)) ≡ false
  outer_chain [] h = refl
  outer_chain (e ∷ chain) h =
      let parts = and_parts (is_inner patterns e.0) (list_all (λ b. b) (map (is_inner patterns) (map (λ e. e.0) chain))) h in
      neither (step_others e.0).any (list_any (λ (d : Depth). d.any) (map step_others (map (λ e. e.0) chain))) (e.1 parts.0) (outer_chain chain parts.1)

  outer_selector : (l : List (List SomeStep)) → list_all (list_all (λ b. b)) (map (map (is_inner patterns)) (map (map (λ e. e.0)) l)) ≡ true →
      some_any (map (map step_others) (map (map (λ e. e.0)) l)) ≡ false
  outer_selector [] h = refl
  outer_selector (chain ∷ l) h =
      let parts = and_parts (list_all (λ b. b) (map (is_inner patterns) (map (λ e. e.0) chain)))
      (list_all (list_all (λ b. b)) (map (map (is_inner patterns)) (map (map (λ e. e.0)) l))) h in
      neither (list_any (λ (d : Depth). d.any) (map step_others (map (λ e. e.0) chain))) (some_any (map (map step_others) (map (map (λ e. e.0)) l)))
      (outer_chain chain parts.0) (outer_selector l parts.1)

  abbrev under_step : Step-F SomeStep SomeTest → Step-F Step Test
  under_step = map-Step SomeStep SomeTest Step Test (λ e. e.0) (λ e. e.0)

  abbrev under_test : Test-F SomeStep SomeTest → Test-F Step Test
  under_test = map-Test SomeStep SomeTest Step Test (λ e. e.0) (λ e. e.0)

  abbrev asked_step : Step-F Step Test → Step-F Bool Bool
  asked_step = map-Step Step Test Bool Bool (is_inner patterns) (is_inner_test patterns)

  abbrev asked_test : Test-F Step Test → Test-F Bool Bool
  asked_test = map-Test Step Test Bool Bool (is_inner patterns) (is_inner_test patterns)

  abbrev depth_step : Step-F Step Test → Step-F Depth Bool
  depth_step = map-Step Step Test Depth Bool step_others test_others

  abbrev depth_test : Test-F Step Test → Test-F Depth Bool
  depth_test = map-Test Step Test Depth Bool step_others test_others

  step_layer : (y : Step-F SomeStep SomeTest) → inner_step patterns (asked_step (under_step y)) ≡ true → (others_in_step (depth_step (under_step y))).any ≡ false
  step_layer (Step-F.Keep e) h = e.1 h
  step_layer (Step-F.Move place) h = refl
  step_layer (Step-F.Upward n) h = refl
  step_layer (Step-F.UpwardTo l) h = outer_selector l h
  step_layer Step-F.Others h = absurd (let no : false ≡ true = h in cc)

  test_layer : (y : Test-F SomeStep SomeTest) → inner_test patterns (asked_test (under_test y)) ≡ true → others_in_test (depth_test (under_test y)) ≡ false
  test_layer (Test-F.Is l) h = outer_selector l h
  test_layer (Test-F.Not l) h = outer_selector l h
  test_layer (Test-F.Has l) h = outer_selector l h
  test_layer (Test-F.HasText arg) h = refl
  test_layer (Test-F.MatchesPath arg) h = refl
  test_layer (Test-F.MatchesAttr key v) h = refl
  test_layer Test-F.Any h = refl
  test_layer (Test-F.Tag n) h = refl
  test_layer (Test-F.Id n) h = refl
  test_layer (Test-F.Class n) h = refl
  test_layer (Test-F.Attr key op v i) h = refl
  test_layer Test-F.Root h = refl
  test_layer Test-F.Empty h = refl
  test_layer (Test-F.Nth a b e o) h = refl
  test_layer (Test-F.Only o) h = refl
  test_layer (Test-F.MinText n) h = refl
  test_layer (Test-F.WatchAttr names) h = refl

  step_case : (x : Step-F Step Test) (y : Step-F SomeStep SomeTest) → under_step y ≡ x → OuterStep (roll-Step x)
  step_case x y is h =
      ap (λ (d : Depth). d.any) (fold-roll-Step Depth Bool others_in_step others_in_test x)
      ∙ subst (λ (z : Step-F Step Test). inner_step patterns (asked_step z) ≡ true → (others_in_step (depth_step z)).any ≡ false) is (step_layer y)
      (sym (fold-roll-Step Bool Bool (inner_step patterns) (inner_test patterns) x) ∙ h)

  test_case : (x : Test-F Step Test) (y : Test-F SomeStep SomeTest) → under_test y ≡ x → OuterTest (roll-Test x)
  test_case x y is h =
      fold-roll-Test Depth Bool others_in_step others_in_test x
      ∙ subst (λ (z : Test-F Step Test). inner_test patterns (asked_test z) ≡ true → others_in_test (depth_test z) ≡ false) is (test_layer y)
      (sym (fold-roll-Test Bool Bool (inner_step patterns) (inner_test patterns) x) ∙ h)

  outer_step : (s : Step) → OuterStep s
  outer_step = ind-Step OuterStep OuterTest step_case test_case

  outer_test : (q : Test) → OuterTest q
  outer_test = ind-Test OuterStep OuterTest step_case test_case

  outer_steps : (chain : List Step) → list_all (λ b. b) (map (is_inner patterns) chain) ≡ true → list_any (λ (d : Depth). d.any) (map step_others chain) ≡ false
  outer_steps [] h = refl
  outer_steps (s ∷ chain) h =
      let parts = and_parts (is_inner patterns s) (list_all (λ b. b) (map (is_inner patterns) chain)) h in
      neither (step_others s).any (list_any (λ (d : Depth). d.any) (map step_others chain)) (outer_step s parts.0) (outer_steps chain parts.1)

  outer_chains : (l : List (List Step)) → list_all (list_all (λ b. b)) (map (map (is_inner patterns)) l) ≡ true → some_any (map (map step_others) l) ≡ false
  outer_chains [] h = refl
  outer_chains (chain ∷ l) h =
      let parts = and_parts (list_all (λ b. b) (map (is_inner patterns) chain)) (list_all (list_all (λ b. b)) (map (map (is_inner patterns)) l)) h in
      neither (list_any (λ (d : Depth). d.any) (map step_others chain)) (some_any (map (map step_others) l)) (outer_steps chain parts.0) (outer_chains l parts.1)

  -- a filter's own step
  own_layer : (x : Step-F Step Test) → own_step patterns (asked_step x) ≡ true → (others_in_step (depth_step x)).within ≡ false
  own_layer (Step-F.Keep q) h = outer_test q h
  own_layer (Step-F.Move place) h = refl
  own_layer (Step-F.Upward n) h = refl
  own_layer (Step-F.UpwardTo l) h = outer_chains l h
  own_layer Step-F.Others h = refl

  outer_own : (s : Step) → is_own patterns s ≡ true → (step_others s).within ≡ false
  unfolding is_own
  outer_own s h =
      ap (λ (s : Step). (step_others s).within) (sym (roll-out-Step s))
      ∙ ap (λ (d : Depth). d.within) (fold-roll-Step Depth Bool others_in_step others_in_test (out-Step s)) ∙ own_layer (out-Step s) h

  own_chain : (chain : List Step) → list_all (is_own patterns) chain ≡ true → list_any (λ step. (step_others step).within) chain ≡ false
  own_chain [] h = refl
  own_chain (s ∷ chain) h =
      let parts = and_parts (is_own patterns s) (list_all (is_own patterns) chain) h in
      neither (step_others s).within (list_any (λ step. (step_others step).within) chain) (outer_own s parts.0) (own_chain chain parts.1)

  own_steps : (chain : List Step) → are_own patterns chain ≡ true → list_any (λ step. (step_others step).within) chain ≡ false
  unfolding are_own
  own_steps chain h = own_chain chain h

  own_chains : (l : List (List Step)) → list_all (are_own patterns) l ≡ true → list_any (λ chain. list_any (λ step. (step_others step).within) chain) l ≡ false
  own_chains [] h = refl
  own_chains (chain ∷ l) h =
      let parts = and_parts (are_own patterns chain) (list_all (are_own patterns) l) h in
      neither (list_any (λ step. (step_others step).within) chain) (list_any (λ chain. list_any (λ step. (step_others step).within) chain) l)
      (own_steps chain parts.0) (own_chains l parts.1)

  pub outer : (l : List (List Step)) → is_proper patterns l ≡ true → is_outer l ≡ true
  unfolding is_proper
  outer l h = ap not (own_chains l h)
