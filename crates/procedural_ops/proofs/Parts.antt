-- Where the tests of a part of a chain stand among those of the whole, and how many of them have no selector in them.
use Rattle.std.proofs.Common.{◌≡◌, ℕ, zero, suc, ◌+◌, ◌<◌, Bool, true, false, cond, List, [], ◌∷◌, ◌++◌, map, take, drop, length, get_or, refl, sym, ap, ap₂, ◌∙◌, append_assoc, append-nil, length-append, subst, arith}
use Rattle.std.proofs.lemmas.Bool.{both_ways}
use Rattle.std.proofs.lemmas.List.{take-append-drop}
use Rattle.selector_tree.specs.declared.selector.Place.{Place}
use Rattle.selector_tree.specs.declared.selector.Step.{Step, fold-Step}
use Rattle.selector_tree.specs.declared.selector.Step.TheVariants as step
use Rattle.selector_tree.specs.declared.selector.Step.TheOpen.{Step-F, Test-F}
use Rattle.selector_tree.specs.declared.selector.Step.TheFolds.{fold-roll-Step, fold-roll-Test, map-Step, map-Test, ind-Step, ind-Test}
use Rattle.selector_tree.specs.declared.selector.Step.TheViews.{roll-Step, roll-Test, roll-out-Test, out-roll-Test}
use Rattle.selector_tree.specs.declared.selector.Test.{Test, fold-Test, out-Test}
use Rattle.selector_tree.specs.declared.selector.Test.TheVariants as test
use Rattle.selector_match.specs.Kinds.{is_single, is_single_at}
use Rattle.procedural_ops.specs.Noted.{joined, tests_in_step, tests_in_test, step_tests, test_tests, chain_tests, IsPart, FullStep, FullTest, cells_in_test, full_step, full_test, step_cells, test_cells, chain_cells, selector_cells, many_single}

abbrev Tests : Type 0
Tests = List Test

-- ---- a part of a part

pub part_in : (tests part a b c : Tests) (first i : ℕ) → IsPart tests first part → part ≡ a ++ (b ++ c) → i ≡ first + length a → IsPart tests i b
part_in tests part a b c first i p is at = record {
  before = p.before ++ a;
  behind = c ++ p.behind;
  is = p.is ∙ ap (λ (l : Tests). p.before ++ (l ++ p.behind)) is ∙ simp append_assoc;
  long = omega (arith, length-append p.before a, p.long, at);
}

pub part_same : (tests part b : Tests) (first : ℕ) → IsPart tests first part → part ≡ b → IsPart tests first b
part_same tests part b first p is = subst (IsPart tests first) is p

-- all of them
pub part_all : (tests : Tests) → IsPart tests 0 tests
part_all tests = record { before = []; behind = []; is = sym (append-nil tests); long = refl }

-- ---- the whole of a step is the step, and its tests without selectors in them are those that it asks

abbrev whole_step : Step → FullStep
whole_step = fold-Step FullStep FullTest full_step full_test

abbrev whole_test : Test → FullTest
whole_test = fold-Test FullStep FullTest full_step full_test

record IsWholeStep (s : Step) : Type 0 where
  is : (whole_step s).0 ≡ s
  singles : many_single (whole_step s).1 ≡ length (step_tests s)

record IsWholeTest (q : Test) : Type 0 where
  is : (whole_test q).0 ≡ q
  singles : many_single (whole_test q).1 ≡ length (test_tests q)

pub singles_append : (a b : Tests) → many_single (a ++ b) ≡ many_single a + many_single b
singles_append [] b = omega arith
singles_append (q ∷ a) b = omega (arith, singles_append a b)

abbrev SomeStep : Type 0
SomeStep = (s : Step) × IsWholeStep s

abbrev SomeTest : Type 0
SomeTest = (q : Test) × IsWholeTest q

same_chain : (chain : List SomeStep) → map (λ s. s.0) (map whole_step (map (λ e. e.0) chain)) ≡ map (λ e. e.0) chain
same_chain [] = refl
same_chain (e ∷ chain) = ap₂ ◌∷◌ e.1.is (same_chain chain)

same_selector : (l : List (List SomeStep)) → map (map (λ s. s.0)) (map (map whole_step) (map (map (λ e. e.0)) l)) ≡ map (map (λ e. e.0)) l
same_selector [] = refl
same_selector (chain ∷ l) = ap₂ ◌∷◌ (same_chain chain) (same_selector l)

chain_singles : (chain : List SomeStep) → many_single (joined (map (λ s. s.1) (map whole_step (map (λ e. e.0) chain)))) ≡ length (joined (map step_tests (map (λ e. e.0) chain)))
chain_singles [] = refl
chain_singles (e ∷ chain) =
    omega (
      arith,
      singles_append (whole_step e.0).1 (joined (map (λ s. s.1) (map whole_step (map (λ e. e.0) chain)))),
      length-append (step_tests e.0) (joined (map step_tests (map (λ e. e.0) chain))),
      e.1.singles,
      chain_singles chain,
    )

selector_singles : (l : List (List SomeStep)) →
    many_single (joined (map joined (map (map (λ s. s.1)) (map (map whole_step) (map (map (λ e. e.0)) l)))))
    ≡ length (joined (map joined (map (map step_tests) (map (map (λ e. e.0)) l))))
selector_singles [] = refl
selector_singles (chain ∷ l) =
    omega (
      arith,
      singles_append (joined (map (λ s. s.1) (map whole_step (map (λ e. e.0) chain)))) (joined (map joined (map (map (λ s. s.1)) (map (map whole_step) (map (map (λ e. e.0)) l))))),
      length-append (joined (map step_tests (map (λ e. e.0) chain))) (joined (map joined (map (map step_tests) (map (map (λ e. e.0)) l)))),
      chain_singles chain,
      selector_singles l,
    )

abbrev under_step : Step-F SomeStep SomeTest → Step-F Step Test
under_step = map-Step SomeStep SomeTest Step Test (λ e. e.0) (λ e. e.0)

abbrev under_test : Test-F SomeStep SomeTest → Test-F Step Test
under_test = map-Test SomeStep SomeTest Step Test (λ e. e.0) (λ e. e.0)

abbrev filled_step : Step-F Step Test → Step-F FullStep FullTest
filled_step = map-Step Step Test FullStep FullTest whole_step whole_test

abbrev filled_test : Test-F Step Test → Test-F FullStep FullTest
filled_test = map-Test Step Test FullStep FullTest whole_step whole_test

abbrev asked_step : Step-F Step Test → Step-F Tests Tests
asked_step = map-Step Step Test Tests Tests step_tests test_tests

abbrev asked_test : Test-F Step Test → Test-F Tests Tests
asked_test = map-Test Step Test Tests Tests step_tests test_tests

-- one layer
step_is : (y : Step-F SomeStep SomeTest) → (full_step (filled_step (under_step y))).0 ≡ roll-Step (under_step y)
step_is (Step-F.Keep e) = ap (λ (q : Test). roll-Step (Step-F.Keep q)) e.1.is
step_is (Step-F.Move place) = refl
step_is (Step-F.Upward n) = refl
step_is (Step-F.UpwardTo l) = ap (λ (m : List (List Step)). roll-Step (Step-F.UpwardTo m)) (same_selector l)
step_is Step-F.Others = refl

step_singles : (y : Step-F SomeStep SomeTest) → many_single (full_step (filled_step (under_step y))).1 ≡ length (tests_in_step (asked_step (under_step y)))
step_singles (Step-F.Keep e) = e.1.singles
step_singles (Step-F.Move place) = refl
step_singles (Step-F.Upward n) = refl
step_singles (Step-F.UpwardTo l) = selector_singles l
step_singles Step-F.Others = refl

test_is : (y : Test-F SomeStep SomeTest) → (full_test (filled_test (under_test y))).0 ≡ roll-Test (under_test y)
test_is (Test-F.Is l) = ap (λ (m : List (List Step)). roll-Test (Test-F.Is m)) (same_selector l)
test_is (Test-F.Not l) = ap (λ (m : List (List Step)). roll-Test (Test-F.Not m)) (same_selector l)
test_is (Test-F.Has l) = ap (λ (m : List (List Step)). roll-Test (Test-F.Has m)) (same_selector l)
test_is Test-F.Any = refl
test_is (Test-F.Tag n) = refl
test_is (Test-F.Id v) = refl
test_is (Test-F.Class v) = refl
test_is (Test-F.Attr key op v i) = refl
test_is Test-F.Root = refl
test_is Test-F.Empty = refl
test_is (Test-F.Nth a b e o) = refl
test_is (Test-F.Only o) = refl
test_is (Test-F.HasText arg) = refl
test_is (Test-F.MinText n) = refl
test_is (Test-F.MatchesPath arg) = refl
test_is (Test-F.MatchesAttr key value) = refl
test_is (Test-F.WatchAttr names) = refl

-- the first of the tests of a layer, by whether a selector stands in it
head_single : (o : Test-F Step Test) (b : Bool) → is_single_at o ≡ b → (tests : Tests) → many_single (roll-Test o ∷ tests) ≡ cond {A = ℕ} b 1 0 + many_single tests
head_single o b h tests = ap (λ (c : Bool). cond {A = ℕ} c 1 0 + many_single tests) (ap is_single_at (out-roll-Test o) ∙ h)

head_nested : (o : Test-F Step Test) → is_single_at o ≡ false → (tests : Tests) → many_single (roll-Test o ∷ tests) ≡ many_single tests
head_nested o h tests = let e = head_single o false h tests in omega (arith, e)

test_singles : (y : Test-F SomeStep SomeTest) → many_single (full_test (filled_test (under_test y))).1 ≡ length (tests_in_test (asked_test (under_test y)))
test_singles (Test-F.Is l) = head_nested (Test-F.Is _) refl _ ∙ selector_singles l
test_singles (Test-F.Not l) = head_nested (Test-F.Not _) refl _ ∙ selector_singles l
test_singles (Test-F.Has l) = head_nested (Test-F.Has _) refl _ ∙ selector_singles l
test_singles Test-F.Any = head_single Test-F.Any true refl []
test_singles (Test-F.Tag n) = head_single (Test-F.Tag n) true refl []
test_singles (Test-F.Id v) = head_single (Test-F.Id v) true refl []
test_singles (Test-F.Class v) = head_single (Test-F.Class v) true refl []
test_singles (Test-F.Attr key op v i) = head_single (Test-F.Attr key op v i) true refl []
test_singles Test-F.Root = head_single Test-F.Root true refl []
test_singles Test-F.Empty = head_single Test-F.Empty true refl []
test_singles (Test-F.Nth a b e o) = head_single (Test-F.Nth a b e o) true refl []
test_singles (Test-F.Only o) = head_single (Test-F.Only o) true refl []
test_singles (Test-F.HasText arg) = head_single (Test-F.HasText arg) true refl []
test_singles (Test-F.MinText n) = head_single (Test-F.MinText n) true refl []
test_singles (Test-F.MatchesPath arg) = head_single (Test-F.MatchesPath arg) true refl []
test_singles (Test-F.MatchesAttr key value) = head_single (Test-F.MatchesAttr key value) true refl []
test_singles (Test-F.WatchAttr names) = head_single (Test-F.WatchAttr names) true refl []

step_case : (x : Step-F Step Test) (y : Step-F SomeStep SomeTest) → under_step y ≡ x → IsWholeStep (roll-Step x)
step_case x y is =
    let rolled = fold-roll-Step FullStep FullTest full_step full_test x in
    record {
      is =
          ap (λ (s : FullStep). s.0) rolled
          ∙ subst (λ (z : Step-F Step Test). (full_step (filled_step z)).0 ≡ roll-Step z) is (step_is y);
      singles =
          ap (λ (s : FullStep). many_single s.1) rolled
          ∙ subst (λ (z : Step-F Step Test). many_single (full_step (filled_step z)).1 ≡ length (tests_in_step (asked_step z))) is (step_singles y)
          ∙ ap (λ (l : Tests). length l) (sym (fold-roll-Step Tests Tests tests_in_step tests_in_test x));
    }

test_case : (x : Test-F Step Test) (y : Test-F SomeStep SomeTest) → under_test y ≡ x → IsWholeTest (roll-Test x)
test_case x y is =
    let rolled = fold-roll-Test FullStep FullTest full_step full_test x in
    record {
      is =
          ap (λ (q : FullTest). q.0) rolled
          ∙ subst (λ (z : Test-F Step Test). (full_test (filled_test z)).0 ≡ roll-Test z) is (test_is y);
      singles =
          ap (λ (q : FullTest). many_single q.1) rolled
          ∙ subst (λ (z : Test-F Step Test). many_single (full_test (filled_test z)).1 ≡ length (tests_in_test (asked_test z))) is (test_singles y)
          ∙ ap (λ (l : Tests). length l) (sym (fold-roll-Test Tests Tests tests_in_step tests_in_test x));
    }

whole_step_is : (s : Step) → IsWholeStep s
whole_step_is = ind-Step IsWholeStep IsWholeTest step_case test_case

pub chain_single_tests : (steps : List Step) → many_single (chain_cells steps) ≡ length (chain_tests steps)
unfolding chain_cells chain_tests
chain_single_tests [] = refl
chain_single_tests (s ∷ steps) =
    omega (
      arith,
      singles_append (step_cells s) (chain_cells steps),
      length-append (step_tests s) (chain_tests steps),
      (whole_step_is s).singles,
      chain_single_tests steps,
    )

-- ---- layers

in_Keep : (q : Test) → step_cells (step.Keep q) ≡ test_cells q
in_Keep q = ap step_cells (sym (step.rolls-Keep q)) ∙ ap (λ (s : FullStep). s.1) (fold-roll-Step FullStep FullTest full_step full_test (Step-F.Keep q))

pub of_Keep : (s : Step) (q : Test) → s ≡ step.Keep q → step_cells s ≡ test_cells q
of_Keep s q is = ap step_cells is ∙ in_Keep q

pub of_Move : (s : Step) (place : Place) → s ≡ step.Move place → step_cells s ≡ []
of_Move s place is = ap step_cells (is ∙ sym (step.rolls-Move place)) ∙ ap (λ (s : FullStep). s.1) (fold-roll-Step FullStep FullTest full_step full_test (Step-F.Move place))

filled_chain : (chain : List Step) → map (λ s. s.1) (map whole_step chain) ≡ map step_cells chain
filled_chain [] = refl
filled_chain (s ∷ chain) = ap (λ (l : List Tests). step_cells s ∷ l) (filled_chain chain)

filled_selector : (l : List (List Step)) → map (map (λ s. s.1)) (map (map whole_step) l) ≡ map (map step_cells) l
filled_selector [] = refl
filled_selector (chain ∷ l) = ap₂ ◌∷◌ (filled_chain chain) (filled_selector l)

named_chain : (chain : List Step) → map (λ s. s.0) (map whole_step chain) ≡ chain
named_chain [] = refl
named_chain (s ∷ chain) = ap₂ ◌∷◌ (whole_step_is s).is (named_chain chain)

named_selector : (l : List (List Step)) → map (map (λ s. s.0)) (map (map whole_step) l) ≡ l
named_selector [] = refl
named_selector (chain ∷ l) = ap₂ ◌∷◌ (named_chain chain) (named_selector l)

in_UpwardTo : (l : List (List Step)) → step_cells (step.UpwardTo l) ≡ selector_cells l
unfolding selector_cells
in_UpwardTo l =
    ap step_cells (sym (step.rolls-UpwardTo l)) ∙ ap (λ (s : FullStep). s.1) (fold-roll-Step FullStep FullTest full_step full_test (Step-F.UpwardTo l))
    ∙ ap (λ (m : List (List Tests)). joined (map joined m)) (filled_selector l)

pub of_UpwardTo : (s : Step) (l m : List (List Step)) → s ≡ step.UpwardTo l → m ≡ l → step_cells s ≡ selector_cells m
of_UpwardTo s l m is e = ap step_cells is ∙ in_UpwardTo l ∙ ap selector_cells (sym e)

in_Is : (l : List (List Step)) → test_cells (test.Is l) ≡ test.Is l ∷ selector_cells l
unfolding selector_cells
in_Is l =
    ap test_cells (sym (test.rolls-Is l)) ∙ ap (λ (q : FullTest). q.1) (fold-roll-Test FullStep FullTest full_step full_test (Test-F.Is l))
    ∙ ap₂ (λ (m : List (List Step)) (n : List (List Tests)). roll-Test (Test-F.Is m) ∷ joined (map joined n)) (named_selector l) (filled_selector l)
    ∙ ap (λ (q : Test). q ∷ joined (map joined (map (map step_cells) l))) (test.rolls-Is l)

in_Not : (l : List (List Step)) → test_cells (test.Not l) ≡ test.Not l ∷ selector_cells l
unfolding selector_cells
in_Not l =
    ap test_cells (sym (test.rolls-Not l)) ∙ ap (λ (q : FullTest). q.1) (fold-roll-Test FullStep FullTest full_step full_test (Test-F.Not l))
    ∙ ap₂ (λ (m : List (List Step)) (n : List (List Tests)). roll-Test (Test-F.Not m) ∷ joined (map joined n)) (named_selector l) (filled_selector l)
    ∙ ap (λ (q : Test). q ∷ joined (map joined (map (map step_cells) l))) (test.rolls-Not l)

in_Has : (l : List (List Step)) → test_cells (test.Has l) ≡ test.Has l ∷ selector_cells l
unfolding selector_cells
in_Has l =
    ap test_cells (sym (test.rolls-Has l)) ∙ ap (λ (q : FullTest). q.1) (fold-roll-Test FullStep FullTest full_step full_test (Test-F.Has l))
    ∙ ap₂ (λ (m : List (List Step)) (n : List (List Tests)). roll-Test (Test-F.Has m) ∷ joined (map joined n)) (named_selector l) (filled_selector l)
    ∙ ap (λ (q : Test). q ∷ joined (map joined (map (map step_cells) l))) (test.rolls-Has l)

pub of_Is : (q : Test) (l m : List (List Step)) → q ≡ test.Is l → m ≡ l → test_cells q ≡ q ∷ selector_cells m
of_Is q l m is e = ap test_cells is ∙ in_Is l ∙ ap₂ (λ (p : Test) (n : List (List Step)). p ∷ selector_cells n) (sym is) (sym e)

pub of_Not : (q : Test) (l m : List (List Step)) → q ≡ test.Not l → m ≡ l → test_cells q ≡ q ∷ selector_cells m
of_Not q l m is e = ap test_cells is ∙ in_Not l ∙ ap₂ (λ (p : Test) (n : List (List Step)). p ∷ selector_cells n) (sym is) (sym e)

pub of_Has : (q : Test) (l m : List (List Step)) → q ≡ test.Has l → m ≡ l → test_cells q ≡ q ∷ selector_cells m
of_Has q l m is e = ap test_cells is ∙ in_Has l ∙ ap₂ (λ (p : Test) (n : List (List Step)). p ∷ selector_cells n) (sym is) (sym e)

single_layer : (o : Test-F Step Test) → is_single_at o ≡ true → (full_test (filled_test o)).1 ≡ roll-Test o ∷ []
single_layer (Test-F.Is l) h = absurd (both_ways false refl h)
single_layer (Test-F.Not l) h = absurd (both_ways false refl h)
single_layer (Test-F.Has l) h = absurd (both_ways false refl h)
single_layer Test-F.Any h = refl
single_layer (Test-F.Tag n) h = refl
single_layer (Test-F.Id v) h = refl
single_layer (Test-F.Class v) h = refl
single_layer (Test-F.Attr key op v i) h = refl
single_layer Test-F.Root h = refl
single_layer Test-F.Empty h = refl
single_layer (Test-F.Nth m n e o) h = refl
single_layer (Test-F.Only o) h = refl
single_layer (Test-F.HasText arg) h = refl
single_layer (Test-F.MinText n) h = refl
single_layer (Test-F.MatchesPath arg) h = refl
single_layer (Test-F.MatchesAttr key value) h = refl
single_layer (Test-F.WatchAttr names) h = refl

-- a test without selectors in it is the only one in it
pub of_single : (q : Test) → is_single q ≡ true → test_cells q ≡ q ∷ []
of_single q h =
    ap test_cells (sym (roll-out-Test q)) ∙ ap (λ (p : FullTest). p.1) (fold-roll-Test FullStep FullTest full_step full_test (out-Test q))
    ∙ single_layer (out-Test q) h ∙ ap (λ (v : Test). v ∷ []) (roll-out-Test q)

-- any test stands before those in it
whole_test_is : (q : Test) → IsWholeTest q
whole_test_is = ind-Test IsWholeStep IsWholeTest step_case test_case

pub of_any : (q : Test) → (inner : Tests) × (test_cells q ≡ q ∷ inner)
of_any q =
    let e = ap (λ (p : FullTest). p) (ap whole_test (sym (roll-out-Test q)) ∙ fold-roll-Test FullStep FullTest full_step full_test (out-Test q)) in (
      cells_in_test (map-Test FullStep FullTest Tests Tests (λ s. s.1) (λ p. p.1) (filled_test (out-Test q))),
      ap (λ (p : FullTest). p.1) e
          ∙ ap (λ (p : Test). p ∷ cells_in_test (map-Test FullStep FullTest Tests Tests (λ s. s.1) (λ r. r.1) (filled_test (out-Test q))))
          (ap (λ (p : FullTest). p.0) (sym e) ∙ (whole_test_is q).is),
    )

-- ---- chains

pub chain_one : (s : Step) (steps : List Step) → chain_cells (s ∷ steps) ≡ step_cells s ++ chain_cells steps
unfolding chain_cells
chain_one s steps = refl

pub chain_append : (xs ys : List Step) → chain_cells (xs ++ ys) ≡ chain_cells xs ++ chain_cells ys
unfolding chain_cells
chain_append [] ys = refl
chain_append (x ∷ xs) ys = ap (λ (l : Tests). step_cells x ++ l) (chain_append xs ys) ∙ sym (append_assoc (step_cells x) (chain_cells xs) (chain_cells ys))

pub chain_cut : (i : ℕ) (steps : List Step) → chain_cells steps ≡ chain_cells (take i steps) ++ chain_cells (drop i steps)
chain_cut i steps = ap chain_cells (sym (take-append-drop i steps)) ∙ chain_append (take i steps) (drop i steps)

-- those of one more step
pub chain_more : (run : List Step) (i : ℕ) (s : Step) → i < length run → s ≡ get_or run i s → chain_cells (take (i + 1) run) ≡ chain_cells (take i run) ++ step_cells s
unfolding chain_cells
chain_more [] i s h e = absurd (omega (arith, h))
chain_more (r ∷ run) zero s h e = append-nil (step_cells r) ∙ ap step_cells (sym e)
chain_more (r ∷ run) (suc i) s h e =
    let n : suc i + 1 ≡ suc (i + 1) = omega arith in
    ap (λ (k : ℕ). chain_cells (take k (r ∷ run))) n ∙ ap (λ (l : Tests). step_cells r ++ l) (chain_more run i s (omega (arith, h)) e)
    ∙ sym (append_assoc (step_cells r) (chain_cells (take i run)) (step_cells s))

module _ (tests : Tests) (first : ℕ) where
  pub part_front : (steps : List Step) (i : ℕ) → IsPart tests first (chain_cells steps) → IsPart tests first (chain_cells (take i steps))
  part_front steps i p = part_in tests (chain_cells steps) [] (chain_cells (take i steps)) (chain_cells (drop i steps)) first first p (chain_cut i steps) (omega arith)

  pub part_rest : (steps : List Step) (i place : ℕ) → IsPart tests first (chain_cells steps) → place ≡ first + length (chain_cells (take i steps)) →
      IsPart tests place (chain_cells (drop i steps))
  part_rest steps i place p at =
      part_in tests (chain_cells steps) (chain_cells (take i steps)) (chain_cells (drop i steps)) [] first place p
      (chain_cut i steps ∙ ap (λ (l : Tests). chain_cells (take i steps) ++ l) (sym (append-nil (chain_cells (drop i steps))))) at

  pub part_step : (run : List Step) (i place : ℕ) (s : Step) → IsPart tests first (chain_cells run) → i < length run → s ≡ get_or run i s →
      place ≡ first + length (chain_cells (take i run)) → IsPart tests place (step_cells s)
  part_step run i place s p h e at =
      part_in tests (chain_cells run) (chain_cells (take i run)) (step_cells s) (chain_cells (drop (i + 1) run)) first place p
      (chain_cut (i + 1) run ∙ ap (λ (l : Tests). l ++ chain_cells (drop (i + 1) run)) (chain_more run i s h e)
      ∙ append_assoc (chain_cells (take i run)) (step_cells s) (chain_cells (drop (i + 1) run))) at

-- the place moves on with the steps
pub place_more : (first place next i : ℕ) (run : List Step) (s : Step) → i < length run → s ≡ get_or run i s →
    place ≡ first + length (chain_cells (take i run)) → next ≡ place + length (step_cells s) → next ≡ first + length (chain_cells (take (i + 1) run))
place_more first place next i run s h e at on =
    omega (arith, ap (λ (l : Tests). length l) (chain_more run i s h e), length-append (chain_cells (take i run)) (step_cells s), at, on)

-- ---- selectors

pub selector_more : (l : List (List Step)) (i : ℕ) (c : List Step) → i < length l → c ≡ get_or l i c → selector_cells (take (i + 1) l) ≡ selector_cells (take i l) ++ chain_cells c
unfolding selector_cells chain_cells
selector_more [] i c h e = absurd (omega (arith, h))
selector_more (d ∷ l) zero c h e = append-nil (chain_cells d) ∙ ap chain_cells (sym e)
selector_more (d ∷ l) (suc i) c h e =
    let n : suc i + 1 ≡ suc (i + 1) = omega arith in
    ap (λ (k : ℕ). selector_cells (take k (d ∷ l))) n ∙ ap (λ (k : Tests). chain_cells d ++ k) (selector_more l i c (omega (arith, h)) e)
    ∙ sym (append_assoc (chain_cells d) (selector_cells (take i l)) (chain_cells c))

selector_cut : (i : ℕ) (l : List (List Step)) → selector_cells l ≡ selector_cells (take i l) ++ selector_cells (drop i l)
unfolding selector_cells chain_cells
selector_cut zero l = refl
selector_cut (suc i) [] = refl
selector_cut (suc i) (c ∷ l) = ap (λ (k : Tests). chain_cells c ++ k) (selector_cut i l) ∙ sym (append_assoc (chain_cells c) (selector_cells (take i l)) (selector_cells (drop i l)))

pub part_chain : (tests : Tests) (first : ℕ) (l : List (List Step)) (i place : ℕ) (d c : List Step) → IsPart tests first (selector_cells l) → i < length l → d ≡ get_or l i d → c ≡ d →
    place ≡ first + length (selector_cells (take i l)) → IsPart tests place (chain_cells c)
part_chain tests first l i place d c p h e same at =
    part_same tests (chain_cells d) (chain_cells c) place
    (part_in tests (selector_cells l) (selector_cells (take i l)) (chain_cells d) (selector_cells (drop (i + 1) l)) first place p
    (selector_cut (i + 1) l ∙ ap (λ (k : Tests). k ++ selector_cells (drop (i + 1) l)) (selector_more l i d h e)
    ∙ append_assoc (selector_cells (take i l)) (chain_cells d) (selector_cells (drop (i + 1) l))) at)
    (ap chain_cells (sym same))

pub place_beyond : (first place next i : ℕ) (l : List (List Step)) (d c : List Step) → i < length l → d ≡ get_or l i d → c ≡ d →
    place ≡ first + length (selector_cells (take i l)) → next ≡ place + length (chain_cells c) → next ≡ first + length (selector_cells (take (i + 1) l))
place_beyond first place next i l d c h e same at on =
    omega (
      arith,
      ap (λ (k : Tests). length k) (selector_more l i d h e),
      length-append (selector_cells (take i l)) (chain_cells d),
      ap (λ (k : List Step). length (chain_cells k)) same,
      at,
      on,
    )

-- ---- the first of the steps, and those behind it

module _ (tests : Tests) (begin : ℕ) where
  pub part_left : (a b : Tests) → IsPart tests begin (a ++ b) → IsPart tests begin a
  part_left a b p = part_in tests (a ++ b) [] a b begin begin p refl (omega arith)

  pub part_right : (a b : Tests) (place : ℕ) → IsPart tests begin (a ++ b) → place ≡ begin + length a → IsPart tests place b
  part_right a b place p at = part_in tests (a ++ b) a b [] begin place p (ap (λ (l : Tests). a ++ l) (sym (append-nil b))) at

  module _ (steps more : List Step) (s : Step) (is : steps ≡ s ∷ more) (p : IsPart tests begin (chain_cells steps)) where
    both : IsPart tests begin (step_cells s ++ chain_cells more)
    both = part_same tests (chain_cells steps) (step_cells s ++ chain_cells more) begin p (ap chain_cells is ∙ chain_one s more)

    pub part_of_first : IsPart tests begin (step_cells s)
    part_of_first = part_left (step_cells s) (chain_cells more) both

    pub part_of_more : (place : ℕ) → place ≡ begin + length (step_cells s) → IsPart tests place (chain_cells more)
    part_of_more place at = part_right (step_cells s) (chain_cells more) place both at

    pub part_of_moved : (place : Place) → s ≡ step.Move place → IsPart tests begin (chain_cells more)
    part_of_moved place move = part_of_more begin (omega (arith, ap (λ (l : Tests). length l) (of_Move s place move)))

  -- a part behind the first steps, as a slice
  pub part_tail : (steps tail : List Step) (i place : ℕ) → IsPart tests begin (chain_cells steps) → place ≡ begin + length (chain_cells (take i steps)) → tail ≡ drop i steps →
      IsPart tests place (chain_cells tail)
  part_tail steps tail i place p at is = subst (λ (s : List Step). IsPart tests place (chain_cells s)) (sym is) (part_rest tests begin steps i place p at)

pub chain_single : (s : Step) → chain_cells (s ∷ []) ≡ step_cells s
unfolding chain_cells
chain_single s = chain_one s [] ∙ append-nil (step_cells s)

-- a part from one place to another
pub part_slice : (tests : Tests) (begin : ℕ) (steps : List Step) (n k place : ℕ) → IsPart tests begin (chain_cells steps) → place ≡ begin + length (chain_cells (take k steps)) →
    IsPart tests place (chain_cells (take n (drop k steps)))
part_slice tests begin steps n k place p at = part_front tests place (drop k steps) n (part_rest tests begin steps k place p at)

pub none_in_chain : (steps : List Step) → length (chain_cells (take 0 steps)) ≡ 0
unfolding chain_cells
none_in_chain steps = refl

pub none_in_selector : (l : List (List Step)) → length (selector_cells (take 0 l)) ≡ 0
unfolding selector_cells
none_in_selector l = refl

-- a test stands first among those in it
pub part_head : (tests : Tests) (begin : ℕ) (q : Test) → IsPart tests begin (test_cells q) → IsPart tests begin (q ∷ [])
part_head tests begin q p = let any = of_any q in part_in tests (test_cells q) [] (q ∷ []) any.0 begin begin p any.1 (omega arith)

-- and those in it behind it
pub part_inner : (tests : Tests) (begin place : ℕ) (q : Test) (inner : Tests) → IsPart tests begin (test_cells q) → test_cells q ≡ q ∷ inner → place ≡ begin + 1 → IsPart tests place inner
part_inner tests begin place q inner p is at =
    part_in tests (test_cells q) (q ∷ []) inner [] begin place p (is ∙ ap (λ (l : Tests). q ∷ l) (sym (append-nil inner))) (omega (arith, at))
