-- What is said of each test, step, chain and selector that is read, with what is asked for it.
use Rattle.std.proofs.Common.{◌≡◌, ℕ, ◌≤◌, ℤ, Bool, true, false, nat_lt, List, [], ◌∷◌, ◌++◌, map, Option, refl, sym, ap, ap₂, subst, ◌∙◌}
use Rattle.std.specs.List.{list_all}
use Rattle.std.proofs.lemmas.Bool.{and_from}
use Rattle.std.proofs.lemmas.List.{map-append}
use Rattle.std.proofs.lemmas.List.Folds.{list_all-append}
use Rattle.cos_patterns.specs.declared.written.Written.{Written}
use Rattle.selector_tree.specs.declared.selector.Arg.{Arg}
use Rattle.selector_tree.specs.declared.selector.AttrOp.{AttrOp}
use Rattle.selector_tree.specs.declared.selector.Place.{Place}
use Rattle.selector_tree.specs.declared.selector.Step.{Step}
use Rattle.selector_tree.specs.declared.selector.Step.TheVariants as step
use Rattle.selector_tree.specs.declared.selector.Step.TheOpen.{Step-F, Test-F}
use Rattle.selector_tree.specs.declared.selector.Step.TheFolds.{fold-roll-Step, fold-roll-Test, map-Step, map-Test}
use Rattle.selector_tree.specs.declared.selector.Step.TheViews.{roll-Step, roll-Test, out-roll-Step}
use Rattle.selector_tree.specs.declared.selector.Test.{Test}
use Rattle.selector_tree.specs.declared.selector.Test.TheVariants as test
use Rattle.selector_tree.specs.Unnumbered.{unnumbered_layer, unnumbered_step, unnumbered_test}
use Rattle.proper_filters.specs.Proper.{inner_step, inner_test, is_inner, is_inner_test, own_step, is_own}
use Rattle.proper_filters.specs.Degrees.{degree_step, degree_test, has_degrees, has_test_degrees}
use Rattle.selector_spelling.specs.declared.reading.Ask.{Ask}
use Rattle.selector_spelling.specs.Bytes.{Bytes}
use Rattle.selector_spelling.specs.Arguments.{Pair}
use Rattle.selector_spelling.specs.Pieces.{ask, ask_each}
use Rattle.selector_parser.specs.Numbered.{numbered_layer, numbered_step, numbered_test}
use Rattle.selector_parser.proofs.Args.{AreLow, low_joined, none_first, none_others, IsArg, IsPair, AreIn, first_in, others_in, ask_low, ask_each_low, arg_bare, given_bare, arg_again, given_again, arg_unasked, given_unasked, arg_held, pair_held}

module _ (patterns : List Written) (limit : ℕ) where
  abbrev steps_numbered : List Step → List Step
  steps_numbered = map (numbered_step patterns)

  abbrev chains_numbered : List (List Step) → List (List Step)
  chains_numbered = map steps_numbered

  abbrev all_true : List Bool → Bool
  all_true = list_all (λ b. b)

  -- what may stand in an argument, or in a filter's own chain
  abbrev pub is_allowed : Bool → Step → Bool
  is_allowed true = is_inner patterns
  is_allowed false = is_own patterns

  pub record IsTest (t : Test) (asks : List Ask) : Type 0 where
    pub low : AreLow limit asks
    pub bare : unnumbered_test (numbered_test patterns t) ≡ t
    pub again : numbered_test patterns (numbered_test patterns t) ≡ numbered_test patterns t
    pub unasked : asks ≡ [] → numbered_test patterns t ≡ t
    pub degrees : has_test_degrees (numbered_test patterns t) ≡ true
    pub held : AreIn patterns asks → is_inner_test patterns (numbered_test patterns t) ≡ true

  pub record IsStep (nested : Bool) (s : Step) (asks : List Ask) : Type 0 where
    pub low : AreLow limit asks
    pub bare : unnumbered_step (numbered_step patterns s) ≡ s
    pub again : numbered_step patterns (numbered_step patterns s) ≡ numbered_step patterns s
    pub unasked : asks ≡ [] → numbered_step patterns s ≡ s
    pub degrees : has_degrees (numbered_step patterns s) ≡ true
    pub held : AreIn patterns asks → is_allowed nested (numbered_step patterns s) ≡ true

  pub record AreSteps (nested : Bool) (steps : List Step) (asks : List Ask) : Type 0 where
    pub low : AreLow limit asks
    pub bare : map unnumbered_step (steps_numbered steps) ≡ steps
    pub again : steps_numbered (steps_numbered steps) ≡ steps_numbered steps
    pub unasked : asks ≡ [] → steps_numbered steps ≡ steps
    pub degrees : all_true (map has_degrees (steps_numbered steps)) ≡ true
    pub held : AreIn patterns asks → all_true (map (is_allowed nested) (steps_numbered steps)) ≡ true

  pub record AreChains (nested : Bool) (chains : List (List Step)) (asks : List Ask) : Type 0 where
    pub low : AreLow limit asks
    pub bare : map (map unnumbered_step) (chains_numbered chains) ≡ chains
    pub again : chains_numbered (chains_numbered chains) ≡ chains_numbered chains
    pub unasked : asks ≡ [] → chains_numbered chains ≡ chains
    pub degrees : list_all all_true (map (map has_degrees) (chains_numbered chains)) ≡ true
    pub held : AreIn patterns asks → list_all all_true (map (map (is_allowed nested)) (chains_numbered chains)) ≡ true

  -- ---- chains

  pub no_chains : (nested : Bool) → AreChains nested [] []
  no_chains nested = record { low = tt; bare = refl; again = refl; unasked = λ none. refl; degrees = refl; held = λ asked. refl }

  pub more_chains : (nested : Bool) (steps : List Step) (chains : List (List Step)) (first others : List Ask) → AreSteps nested steps first
      → AreChains nested chains others → AreChains nested (steps ∷ chains) (first ++ others)
  more_chains nested steps chains first others h g = record {
    low = low_joined limit first others h.low g.low;
    bare = ap₂ ◌∷◌ h.bare g.bare;
    again = ap₂ ◌∷◌ h.again g.again;
    unasked = λ none. ap₂ ◌∷◌ (h.unasked (none_first first others none)) (g.unasked (none_others first others none));
    degrees = and_from (all_true (map has_degrees (steps_numbered steps))) (list_all all_true (map (map has_degrees) (chains_numbered chains))) h.degrees g.degrees;
    held = λ asked. and_from (all_true (map (is_allowed nested) (steps_numbered steps))) (list_all all_true (map (map (is_allowed nested)) (chains_numbered chains)))
        (h.held (first_in patterns first others asked)) (g.held (others_in patterns first others asked));
  }

  -- ---- steps of a chain

  pub no_steps : (nested : Bool) → AreSteps nested [] []
  no_steps nested = record { low = tt; bare = refl; again = refl; unasked = λ none. refl; degrees = refl; held = λ asked. refl }

  pub one_step : (nested : Bool) (s : Step) (asks : List Ask) → IsStep nested s asks → AreSteps nested (s ∷ []) asks
  one_step nested s asks h = record {
    low = h.low;
    bare = ap (λ (x : Step). x ∷ []) h.bare;
    again = ap (λ (x : Step). x ∷ []) h.again;
    unasked = λ none. ap (λ (x : Step). x ∷ []) (h.unasked none);
    degrees = and_from (has_degrees (numbered_step patterns s)) true h.degrees refl;
    held = λ asked. and_from (is_allowed nested (numbered_step patterns s)) true (h.held asked) refl;
  }

  -- a test of each step, of steps one after the other
  all_joined : (p : Step → Bool) (a b : List Step) → all_true (map p (steps_numbered a)) ≡ true → all_true (map p (steps_numbered b)) ≡ true
      → all_true (map p (steps_numbered (a ++ b))) ≡ true
  all_joined p a b h g =
      ap (λ (s : List Step). all_true (map p s)) (map-append (numbered_step patterns) a b)
      ∙ ap all_true (map-append p (steps_numbered a) (steps_numbered b))
      ∙ list_all-append (λ c. c) (map p (steps_numbered a)) (map p (steps_numbered b))
      ∙ and_from (all_true (map p (steps_numbered a))) (all_true (map p (steps_numbered b))) h g

  pub steps_joined : (nested : Bool) (a b : List Step) (first others : List Ask) → AreSteps nested a first → AreSteps nested b others
      → AreSteps nested (a ++ b) (first ++ others)
  steps_joined nested a b first others h g = record {
    low = low_joined limit first others h.low g.low;
    bare = ap (map unnumbered_step) (map-append (numbered_step patterns) a b) ∙ map-append unnumbered_step (steps_numbered a) (steps_numbered b) ∙ ap₂ ◌++◌ h.bare g.bare;
    again = ap steps_numbered (map-append (numbered_step patterns) a b) ∙ map-append (numbered_step patterns) (steps_numbered a) (steps_numbered b) ∙ ap₂ ◌++◌ h.again g.again ∙ sym (map-append (numbered_step patterns) a b);
    unasked = λ none. map-append (numbered_step patterns) a b ∙ ap₂ ◌++◌ (h.unasked (none_first first others none)) (g.unasked (none_others first others none));
    degrees = all_joined has_degrees a b h.degrees g.degrees;
    held = λ asked. all_joined (is_allowed nested) a b (h.held (first_in patterns first others asked)) (g.held (others_in patterns first others asked));
  }

  -- ---- one step

  abbrev made_step : Step-F Step Test → Step-F Step Test
  made_step = map-Step Step Test Step Test (numbered_step patterns) (numbered_test patterns)

  abbrev bare_step : Step-F Step Test → Step-F Step Test
  bare_step = map-Step Step Test Step Test unnumbered_step unnumbered_test

  abbrev degrees_of_step : Step-F Step Test → Step-F Bool Bool
  degrees_of_step = map-Step Step Test Bool Bool has_degrees has_test_degrees

  abbrev inner_of_step : Step-F Step Test → Step-F Bool Bool
  inner_of_step = map-Step Step Test Bool Bool (is_inner patterns) (is_inner_test patterns)

  abbrev allowed_layer : Bool → Step-F Bool Bool → Bool
  allowed_layer true = inner_step patterns
  allowed_layer false = own_step patterns

  allowed-roll : (nested : Bool) (x : Step-F Step Test) → is_allowed nested (roll-Step x) ≡ allowed_layer nested (inner_of_step x)
  unfolding is_own
  allowed-roll true x = fold-roll-Step Bool Bool (inner_step patterns) (inner_test patterns) x
  allowed-roll false x = ap (λ (o : Step-F Step Test). own_step patterns (inner_of_step o)) (out-roll-Step x)

  record IsStepLayer (nested : Bool) (x : Step-F Step Test) (asks : List Ask) : Type 0 where
    low : AreLow limit asks
    bare : bare_step (made_step x) ≡ x
    again : made_step (made_step x) ≡ made_step x
    unasked : asks ≡ [] → made_step x ≡ x
    degrees : degree_step (degrees_of_step (made_step x)) ≡ true
    held : AreIn patterns asks → allowed_layer nested (inner_of_step (made_step x)) ≡ true

  step_from : (nested : Bool) (x : Step-F Step Test) (asks : List Ask) → IsStepLayer nested x asks → IsStep nested (roll-Step x) asks
  step_from nested x asks h =
      let e : numbered_step patterns (roll-Step x) ≡ roll-Step (made_step x) = fold-roll-Step Step Test roll-Step (λ test. roll-Test (numbered_layer patterns test)) x in
      record {
        low = h.low;
        bare = ap unnumbered_step e ∙ fold-roll-Step Step Test roll-Step (λ test. roll-Test (unnumbered_layer test)) (made_step x) ∙ ap roll-Step h.bare;
        again = ap (numbered_step patterns) e ∙ fold-roll-Step Step Test roll-Step (λ test. roll-Test (numbered_layer patterns test)) (made_step x) ∙ ap roll-Step h.again ∙ sym e;
        unasked = λ none. e ∙ ap roll-Step (h.unasked none);
        degrees = ap has_degrees e ∙ fold-roll-Step Bool Bool degree_step degree_test (made_step x) ∙ h.degrees;
        held = λ asked. ap (is_allowed nested) e ∙ allowed-roll nested (made_step x) ∙ h.held asked;
      }

  keep_layer : (nested : Bool) (t : Test) (asks : List Ask) → IsTest t asks → IsStepLayer nested (Step-F.Keep t) asks
  keep_layer true t asks h = record { low = h.low; bare = ap (λ (x : Test). Step-F.Keep x) h.bare; again = ap (λ (x : Test). Step-F.Keep x) h.again; unasked = λ none. ap (λ (x : Test). Step-F.Keep x) (h.unasked none); degrees = h.degrees; held = h.held }
  keep_layer false t asks h = record { low = h.low; bare = ap (λ (x : Test). Step-F.Keep x) h.bare; again = ap (λ (x : Test). Step-F.Keep x) h.again; unasked = λ none. ap (λ (x : Test). Step-F.Keep x) (h.unasked none); degrees = h.degrees; held = h.held }

  pub keep_step : (nested : Bool) (t : Test) (asks : List Ask) → IsTest t asks → IsStep nested (step.Keep t) asks
  keep_step nested t asks h = subst (λ (s : Step). IsStep nested s asks) (step.rolls-Keep t) (step_from nested (Step-F.Keep t) asks (keep_layer nested t asks h))

  move_layer : (nested : Bool) (p : Place) → IsStepLayer nested (Step-F.Move p) []
  move_layer true p = record { low = tt; bare = refl; again = refl; unasked = λ none. refl; degrees = refl; held = λ asked. refl }
  move_layer false p = record { low = tt; bare = refl; again = refl; unasked = λ none. refl; degrees = refl; held = λ asked. refl }

  pub move_step : (nested : Bool) (p : Place) → IsStep nested (step.Move p) []
  move_step nested p = subst (λ (s : Step). IsStep nested s []) (step.rolls-Move p) (step_from nested (Step-F.Move p) [] (move_layer nested p))

  upward_layer : (nested : Bool) (n : ℕ) → nat_lt 0 n ≡ true → IsStepLayer nested (Step-F.Upward n) []
  upward_layer true n h = record { low = tt; bare = refl; again = refl; unasked = λ none. refl; degrees = h; held = λ asked. refl }
  upward_layer false n h = record { low = tt; bare = refl; again = refl; unasked = λ none. refl; degrees = h; held = λ asked. refl }

  pub upward_step : (nested : Bool) (n : ℕ) → nat_lt 0 n ≡ true → IsStep nested (step.Upward n) []
  upward_step nested n h = subst (λ (s : Step). IsStep nested s []) (step.rolls-Upward n) (step_from nested (Step-F.Upward n) [] (upward_layer nested n h))

  upward_to_layer : (nested : Bool) (l : List (List Step)) (asks : List Ask) → AreChains true l asks → IsStepLayer nested (Step-F.UpwardTo l) asks
  upward_to_layer true l asks h = record { low = h.low; bare = ap (λ (m : List (List Step)). Step-F.UpwardTo m) h.bare; again = ap (λ (m : List (List Step)). Step-F.UpwardTo m) h.again; unasked = λ none. ap (λ (m : List (List Step)). Step-F.UpwardTo m) (h.unasked none); degrees = h.degrees; held = h.held }
  upward_to_layer false l asks h = record { low = h.low; bare = ap (λ (m : List (List Step)). Step-F.UpwardTo m) h.bare; again = ap (λ (m : List (List Step)). Step-F.UpwardTo m) h.again; unasked = λ none. ap (λ (m : List (List Step)). Step-F.UpwardTo m) (h.unasked none); degrees = h.degrees; held = h.held }

  pub upward_to_step : (nested : Bool) (l : List (List Step)) (asks : List Ask) → AreChains true l asks → IsStep nested (step.UpwardTo l) asks
  upward_to_step nested l asks h = subst (λ (s : Step). IsStep nested s asks) (step.rolls-UpwardTo l) (step_from nested (Step-F.UpwardTo l) asks (upward_to_layer nested l asks h))

  -- it stands in a filter's own chain
  pub others_step : IsStep false step.Others []
  others_step = subst (λ (s : Step). IsStep false s []) step.rolls-Others (step_from false Step-F.Others [] (record { low = tt; bare = refl; again = refl; unasked = λ none. refl; degrees = refl; held = λ asked. refl }))

  -- ---- one test

  abbrev made_test : Test-F Step Test → Test-F Step Test
  made_test x = numbered_layer patterns (map-Test Step Test Step Test (numbered_step patterns) (numbered_test patterns) x)

  abbrev bare_test : Test-F Step Test → Test-F Step Test
  bare_test x = unnumbered_layer (map-Test Step Test Step Test unnumbered_step unnumbered_test x)

  abbrev degrees_of_test : Test-F Step Test → Bool
  degrees_of_test x = degree_test (map-Test Step Test Bool Bool has_degrees has_test_degrees x)

  abbrev inner_of_test : Test-F Step Test → Bool
  inner_of_test x = inner_test patterns (map-Test Step Test Bool Bool (is_inner patterns) (is_inner_test patterns) x)

  record IsTestLayer (x : Test-F Step Test) (asks : List Ask) : Type 0 where
    low : AreLow limit asks
    bare : bare_test (made_test x) ≡ x
    again : made_test (made_test x) ≡ made_test x
    unasked : asks ≡ [] → made_test x ≡ x
    degrees : degrees_of_test (made_test x) ≡ true
    held : AreIn patterns asks → inner_of_test (made_test x) ≡ true

  test_from : (x : Test-F Step Test) (t : Test) (asks : List Ask) → roll-Test x ≡ t → IsTestLayer x asks → IsTest t asks
  test_from x t asks is h =
      let e : numbered_test patterns (roll-Test x) ≡ roll-Test (made_test x) = fold-roll-Test Step Test roll-Step (λ test. roll-Test (numbered_layer patterns test)) x in
      subst (λ (q : Test). IsTest q asks) is (record {
        low = h.low;
        bare = ap unnumbered_test e ∙ fold-roll-Test Step Test roll-Step (λ test. roll-Test (unnumbered_layer test)) (made_test x) ∙ ap roll-Test h.bare;
        again = ap (numbered_test patterns) e ∙ fold-roll-Test Step Test roll-Step (λ test. roll-Test (numbered_layer patterns test)) (made_test x) ∙ ap roll-Test h.again ∙ sym e;
        unasked = λ none. e ∙ ap roll-Test (h.unasked none);
        degrees = ap has_test_degrees e ∙ fold-roll-Test Bool Bool degree_step degree_test (made_test x) ∙ h.degrees;
        held = λ asked. ap (is_inner_test patterns) e ∙ fold-roll-Test Bool Bool (inner_step patterns) (inner_test patterns) (made_test x) ∙ h.held asked;
      })

  -- a test without selector and pattern
  plain : (x : Test-F Step Test) (t : Test) → roll-Test x ≡ t → made_test x ≡ x → bare_test (made_test x) ≡ x → degrees_of_test (made_test x) ≡ true → inner_of_test (made_test x) ≡ true → IsTest t []
  plain x t is same bare degrees inner = test_from x t [] is (record { low = tt; bare = bare; again = ap made_test same; unasked = λ none. same; degrees = degrees; held = λ asked. inner })

  pub any_test : IsTest test.Any []
  any_test = plain Test-F.Any test.Any test.rolls-Any refl refl refl refl

  pub tag_test : (name : Bytes) → IsTest (test.Tag name) []
  tag_test name = plain (Test-F.Tag name) (test.Tag name) (test.rolls-Tag name) refl refl refl refl

  pub id_test : (name : Bytes) → IsTest (test.Id name) []
  id_test name = plain (Test-F.Id name) (test.Id name) (test.rolls-Id name) refl refl refl refl

  pub class_test : (name : Bytes) → IsTest (test.Class name) []
  class_test name = plain (Test-F.Class name) (test.Class name) (test.rolls-Class name) refl refl refl refl

  pub attr_test : (name : Bytes) (op : AttrOp) (value : Bytes) (ignore_case : Bool) → IsTest (test.Attr name op value ignore_case) []
  attr_test name op value ignore_case =
      plain (Test-F.Attr name op value ignore_case) (test.Attr name op value ignore_case) (test.rolls-Attr name op value ignore_case) refl refl refl refl

  pub root_test : IsTest test.Root []
  root_test = plain Test-F.Root test.Root test.rolls-Root refl refl refl refl

  pub empty_test : IsTest test.Empty []
  empty_test = plain Test-F.Empty test.Empty test.rolls-Empty refl refl refl refl

  pub nth_test : (a b : ℤ) (from_end of_name : Bool) → IsTest (test.Nth a b from_end of_name) []
  nth_test a b from_end of_name = plain (Test-F.Nth a b from_end of_name) (test.Nth a b from_end of_name) (test.rolls-Nth a b from_end of_name) refl refl refl refl

  pub only_test : (of_name : Bool) → IsTest (test.Only of_name) []
  only_test of_name = plain (Test-F.Only of_name) (test.Only of_name) (test.rolls-Only of_name) refl refl refl refl

  pub length_test : (n : ℕ) → IsTest (test.MinText n) []
  length_test n = plain (Test-F.MinText n) (test.MinText n) (test.rolls-MinText n) refl refl refl refl

  pub watch_test : (names : List Bytes) → IsTest (test.WatchAttr names) []
  watch_test names = plain (Test-F.WatchAttr names) (test.WatchAttr names) (test.rolls-WatchAttr names) refl refl refl refl

  -- ---- tests of selectors

  pub is_test : (l : List (List Step)) (asks : List Ask) → AreChains true l asks → IsTest (test.Is l) asks
  is_test l asks h = test_from (Test-F.Is l) (test.Is l) asks (test.rolls-Is l)
      (record { low = h.low; bare = ap (λ (m : List (List Step)). Test-F.Is m) h.bare; again = ap (λ (m : List (List Step)). Test-F.Is m) h.again; unasked = λ none. ap (λ (m : List (List Step)). Test-F.Is m) (h.unasked none); degrees = h.degrees; held = h.held })

  pub not_test : (l : List (List Step)) (asks : List Ask) → AreChains true l asks → IsTest (test.Not l) asks
  not_test l asks h = test_from (Test-F.Not l) (test.Not l) asks (test.rolls-Not l)
      (record { low = h.low; bare = ap (λ (m : List (List Step)). Test-F.Not m) h.bare; again = ap (λ (m : List (List Step)). Test-F.Not m) h.again; unasked = λ none. ap (λ (m : List (List Step)). Test-F.Not m) (h.unasked none); degrees = h.degrees; held = h.held })

  pub has_test : (l : List (List Step)) (asks : List Ask) → AreChains true l asks → IsTest (test.Has l) asks
  has_test l asks h = test_from (Test-F.Has l) (test.Has l) asks (test.rolls-Has l)
      (record { low = h.low; bare = ap (λ (m : List (List Step)). Test-F.Has m) h.bare; again = ap (λ (m : List (List Step)). Test-F.Has m) h.again; unasked = λ none. ap (λ (m : List (List Step)). Test-F.Has m) (h.unasked none); degrees = h.degrees; held = h.held })

  -- ---- tests with patterns

  pub text_test : (at : ℕ) → at ≤ limit → (arg : Arg) → IsArg arg → IsTest (test.HasText arg) (ask at arg)
  text_test at within arg h = test_from (Test-F.HasText arg) (test.HasText arg) (ask at arg) (test.rolls-HasText arg)
      (record { low = ask_low limit at within arg h; bare = ap (λ (a : Arg). Test-F.HasText a) (arg_bare patterns arg h); again = ap (λ (a : Arg). Test-F.HasText a) (arg_again patterns arg); unasked = λ none. ap (λ (a : Arg). Test-F.HasText a) (arg_unasked patterns at arg none); degrees = refl; held = arg_held patterns at arg h })

  pub path_test : (at : ℕ) → at ≤ limit → (arg : Arg) → IsArg arg → IsTest (test.MatchesPath arg) (ask at arg)
  path_test at within arg h = test_from (Test-F.MatchesPath arg) (test.MatchesPath arg) (ask at arg) (test.rolls-MatchesPath arg)
      (record { low = ask_low limit at within arg h; bare = ap (λ (a : Arg). Test-F.MatchesPath a) (arg_bare patterns arg h); again = ap (λ (a : Arg). Test-F.MatchesPath a) (arg_again patterns arg); unasked = λ none. ap (λ (a : Arg). Test-F.MatchesPath a) (arg_unasked patterns at arg none); degrees = refl; held = arg_held patterns at arg h })

  pub pair_test : (at : ℕ) → at ≤ limit → (p : Pair) → IsPair p → IsTest (test.MatchesAttr p.name p.value) (ask at p.name ++ ask_each at p.value)
  pair_test at within p h = test_from (Test-F.MatchesAttr p.name p.value) (test.MatchesAttr p.name p.value) (ask at p.name ++ ask_each at p.value) (test.rolls-MatchesAttr p.name p.value)
      (record {
        low = low_joined limit (ask at p.name) (ask_each at p.value) (ask_low limit at within p.name h.name) (ask_each_low limit at within p.value h.value);
        bare = ap₂ (λ (a : Arg) (o : Option Arg). Test-F.MatchesAttr a o) (arg_bare patterns p.name h.name) (given_bare patterns p.value h.value);
        again = ap₂ (λ (a : Arg) (o : Option Arg). Test-F.MatchesAttr a o) (arg_again patterns p.name) (given_again patterns p.value);
        unasked = λ none. ap₂ (λ (a : Arg) (o : Option Arg). Test-F.MatchesAttr a o) (arg_unasked patterns at p.name (none_first (ask at p.name) (ask_each at p.value) none)) (given_unasked patterns at p.value (none_others (ask at p.name) (ask_each at p.value) none));
        degrees = refl;
        held = pair_held patterns at p h;
      })
