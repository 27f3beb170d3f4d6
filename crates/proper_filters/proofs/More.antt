-- A selector that may be asked over some patterns may be asked over these and more.
use Rattle.std.proofs.Common.{◌≡◌, ℕ, zero, suc, Bool, true, false, ◌&&◌, Option, Some, None, List, [], ◌∷◌, ◌++◌, map, refl, sym, ◌∙◌, subst}
use Rattle.std.specs.Prelude.{slice_get}
use Rattle.std.specs.List.{list_all}
use Rattle.cos_patterns.specs.declared.written.Written.{Written}
use Rattle.cos_patterns.specs.Written.{written}
use Rattle.selector_tree.specs.declared.selector.Arg.{Arg}
use Rattle.selector_tree.specs.declared.selector.Arg.TheVariants.{Literal, Pattern}
use Rattle.selector_tree.specs.declared.selector.Step.{Step, out-Step}
use Rattle.selector_tree.specs.declared.selector.Step.TheOpen.{Step-F, Test-F}
use Rattle.selector_tree.specs.declared.selector.Step.TheFolds.{fold-roll-Step, fold-roll-Test, map-Step, map-Test, ind-Step, ind-Test}
use Rattle.selector_tree.specs.declared.selector.Step.TheViews.{roll-Step, roll-Test}
use Rattle.selector_tree.specs.declared.selector.Test.{Test}
use Rattle.proper_filters.specs.Held.{stands_for, is_held, is_held_or_none}
use Rattle.proper_filters.specs.Proper.{inner_step, inner_test, is_inner, is_inner_test, own_step, is_own, are_own, is_proper}

-- a test that passes makes another one pass
abbrev Gives : Bool → Bool → Type 0
Gives a b = a ≡ true → b ≡ true

both : (a b c d : Bool) → Gives a c → Gives b d → Gives (a && b) (c && d)
both true b c d p q h = rw (p refl) (q h)
both false b c d p q h = let no : false ≡ true = h in cc

stays : (patterns more : List Written) (k : ℕ) (w : Written) → Gives (stands_for (slice_get patterns k) w) (stands_for (slice_get (patterns ++ more) k) w)
stays [] more k w h = let no : false ≡ true = h in cc
stays (p ∷ patterns) more zero w h = h
stays (p ∷ patterns) more (suc k) w h = stays patterns more k w h

module _ (patterns more : List Written) where
  held_more : (arg : Arg) → Gives (is_held patterns arg) (is_held (patterns ++ more) arg)
  held_more (Literal text) h = h
  held_more (Pattern body flags number) h = stays patterns more number (written body flags) h

  given_more : (o : Option Arg) → Gives (is_held_or_none patterns o) (is_held_or_none (patterns ++ more) o)
  given_more None h = h
  given_more (Some arg) h = held_more arg h

  abbrev MoreStep : Step → Type 0
  MoreStep s = Gives (is_inner patterns s) (is_inner (patterns ++ more) s)

  abbrev MoreTest : Test → Type 0
  MoreTest q = Gives (is_inner_test patterns q) (is_inner_test (patterns ++ more) q)

  -- a step or a test with the claim for it
  abbrev SomeStep : Type 0
  SomeStep = (s : Step) × MoreStep s

  abbrev SomeTest : Type 0
  SomeTest = (q : Test) × MoreTest q

  more_chain : (chain : List SomeStep) → Gives
      (list_all (λ b. b) (map (is_inner patterns) (map (λ e. e.0) chain)))
      (list_all (λ b. b) (map (is_inner (patterns ++ more)) (map (λ e. e.0) chain)))
  more_chain [] h = h
  more_chain (e ∷ chain) h =
      both (is_inner patterns e.0) (list_all (λ b. b) (map (is_inner patterns) (map (λ e. e.0) chain)))
      (is_inner (patterns ++ more) e.0) (list_all (λ b. b) (map (is_inner (patterns ++ more)) (map (λ e. e.0) chain)))
      e.1 (more_chain chain) h

  more_selector : (l : List (List SomeStep)) → Gives
      (list_all (list_all (λ b. b)) (map (map (is_inner patterns)) (map (map (λ e. e.0)) l)))
      (list_all (list_all (λ b. b)) (map (map (is_inner (patterns ++ more))) (map (map (λ e. e.0)) l)))
  more_selector [] h = h
  more_selector (chain ∷ l) h =
      both (list_all (λ b. b) (map (is_inner patterns) (map (λ e. e.0) chain)))
      (list_all (list_all (λ b. b)) (map (map (is_inner patterns)) (map (map (λ e. e.0)) l)))
      (list_all (λ b. b) (map (is_inner (patterns ++ more)) (map (λ e. e.0) chain)))
      (list_all (list_all (λ b. b)) (map (map (is_inner (patterns ++ more))) (map (map (λ e. e.0)) l)))
      (more_chain chain) (more_selector l) h

  abbrev under_step : Step-F SomeStep SomeTest → Step-F Step Test
  under_step = map-Step SomeStep SomeTest Step Test (λ e. e.0) (λ e. e.0)

  abbrev under_test : Test-F SomeStep SomeTest → Test-F Step Test
  under_test = map-Test SomeStep SomeTest Step Test (λ e. e.0) (λ e. e.0)

  abbrev asked_step : List Written → Step-F Step Test → Step-F Bool Bool
  asked_step held = map-Step Step Test Bool Bool (is_inner held) (is_inner_test held)

  abbrev asked_test : List Written → Test-F Step Test → Test-F Bool Bool
  asked_test held = map-Test Step Test Bool Bool (is_inner held) (is_inner_test held)

  more_step_layer : (y : Step-F SomeStep SomeTest) → Gives
      (inner_step patterns (asked_step patterns (under_step y))) (inner_step (patterns ++ more) (asked_step (patterns ++ more) (under_step y)))
  more_step_layer (Step-F.Keep e) h = e.1 h
  more_step_layer (Step-F.Move place) h = h
  more_step_layer (Step-F.Upward n) h = h
  more_step_layer (Step-F.UpwardTo l) h = more_selector l h
  more_step_layer Step-F.Others h = h

  more_test_layer : (y : Test-F SomeStep SomeTest) → Gives
      (inner_test patterns (asked_test patterns (under_test y))) (inner_test (patterns ++ more) (asked_test (patterns ++ more) (under_test y)))
  more_test_layer (Test-F.Is l) h = more_selector l h
  more_test_layer (Test-F.Not l) h = more_selector l h
  more_test_layer (Test-F.Has l) h = more_selector l h
  more_test_layer (Test-F.HasText arg) h = held_more arg h
  more_test_layer (Test-F.MatchesPath arg) h = held_more arg h
  more_test_layer (Test-F.MatchesAttr key v) h =
      both (is_held patterns key) (is_held_or_none patterns v) (is_held (patterns ++ more) key) (is_held_or_none (patterns ++ more) v) (held_more key) (given_more v) h
  more_test_layer Test-F.Any h = h
  more_test_layer (Test-F.Tag n) h = h
  more_test_layer (Test-F.Id n) h = h
  more_test_layer (Test-F.Class n) h = h
  more_test_layer (Test-F.Attr key op v i) h = h
  more_test_layer Test-F.Root h = h
  more_test_layer Test-F.Empty h = h
  more_test_layer (Test-F.Nth a b e o) h = h
  more_test_layer (Test-F.Only o) h = h
  more_test_layer (Test-F.MinText n) h = h
  more_test_layer (Test-F.WatchAttr names) h = h

  step_case : (x : Step-F Step Test) (y : Step-F SomeStep SomeTest) → under_step y ≡ x → MoreStep (roll-Step x)
  step_case x y is h =
      fold-roll-Step Bool Bool (inner_step (patterns ++ more)) (inner_test (patterns ++ more)) x
      ∙ subst (λ (z : Step-F Step Test). Gives (inner_step patterns (asked_step patterns z)) (inner_step (patterns ++ more) (asked_step (patterns ++ more) z))) is (more_step_layer y)
      (sym (fold-roll-Step Bool Bool (inner_step patterns) (inner_test patterns) x) ∙ h)

  test_case : (x : Test-F Step Test) (y : Test-F SomeStep SomeTest) → under_test y ≡ x → MoreTest (roll-Test x)
  test_case x y is h =
      fold-roll-Test Bool Bool (inner_step (patterns ++ more)) (inner_test (patterns ++ more)) x
      ∙ subst (λ (z : Test-F Step Test). Gives (inner_test patterns (asked_test patterns z)) (inner_test (patterns ++ more) (asked_test (patterns ++ more) z))) is (more_test_layer y)
      (sym (fold-roll-Test Bool Bool (inner_step patterns) (inner_test patterns) x) ∙ h)

  more_step : (s : Step) → MoreStep s
  more_step = ind-Step MoreStep MoreTest step_case test_case

  more_test : (q : Test) → MoreTest q
  more_test = ind-Test MoreStep MoreTest step_case test_case

  more_steps : (chain : List Step) → Gives (list_all (λ b. b) (map (is_inner patterns) chain)) (list_all (λ b. b) (map (is_inner (patterns ++ more)) chain))
  more_steps [] h = h
  more_steps (s ∷ chain) h =
      both (is_inner patterns s) (list_all (λ b. b) (map (is_inner patterns) chain))
      (is_inner (patterns ++ more) s) (list_all (λ b. b) (map (is_inner (patterns ++ more)) chain)) (more_step s) (more_steps chain) h

  more_chains : (l : List (List Step)) → Gives
      (list_all (list_all (λ b. b)) (map (map (is_inner patterns)) l)) (list_all (list_all (λ b. b)) (map (map (is_inner (patterns ++ more))) l))
  more_chains [] h = h
  more_chains (chain ∷ l) h =
      both (list_all (λ b. b) (map (is_inner patterns) chain)) (list_all (list_all (λ b. b)) (map (map (is_inner patterns)) l))
      (list_all (λ b. b) (map (is_inner (patterns ++ more)) chain)) (list_all (list_all (λ b. b)) (map (map (is_inner (patterns ++ more))) l))
      (more_steps chain) (more_chains l) h

  own_layer : (x : Step-F Step Test) → Gives (own_step patterns (asked_step patterns x)) (own_step (patterns ++ more) (asked_step (patterns ++ more) x))
  own_layer (Step-F.Keep q) h = more_test q h
  own_layer (Step-F.Move place) h = h
  own_layer (Step-F.Upward n) h = h
  own_layer (Step-F.UpwardTo l) h = more_chains l h
  own_layer Step-F.Others h = h

  more_own : (s : Step) → Gives (is_own patterns s) (is_own (patterns ++ more) s)
  unfolding is_own
  more_own s h = own_layer (out-Step s) h

  more_chain_own : (chain : List Step) → Gives (list_all (is_own patterns) chain) (list_all (is_own (patterns ++ more)) chain)
  more_chain_own [] h = h
  more_chain_own (s ∷ chain) h =
      both (is_own patterns s) (list_all (is_own patterns) chain) (is_own (patterns ++ more) s) (list_all (is_own (patterns ++ more)) chain)
      (more_own s) (more_chain_own chain) h

  more_are_own : (chain : List Step) → Gives (are_own patterns chain) (are_own (patterns ++ more) chain)
  unfolding are_own
  more_are_own chain h = more_chain_own chain h

  more_all_own : (l : List (List Step)) → Gives (list_all (are_own patterns) l) (list_all (are_own (patterns ++ more)) l)
  more_all_own [] h = h
  more_all_own (chain ∷ l) h =
      both (are_own patterns chain) (list_all (are_own patterns) l) (are_own (patterns ++ more) chain) (list_all (are_own (patterns ++ more)) l)
      (more_are_own chain) (more_all_own l) h

  pub proper_more : (l : List (List Step)) → is_proper patterns l ≡ true → is_proper (patterns ++ more) l ≡ true
  unfolding is_proper
  proper_more l h = more_all_own l h
