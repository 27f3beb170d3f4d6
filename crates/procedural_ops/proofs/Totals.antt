-- How many tests without selectors in them stand in chains, at any depth.
use Rattle.std.proofs.Common.{◌≡◌, ℕ, zero, suc, ◌+◌, ◌<◌, ◌≤◌, Bool, true, false, cond, List, [], ◌∷◌, ◌++◌, take, drop, length, get_or, refl, sym, ap, ◌∙◌, append_assoc, append-nil, length-append, subst, not, arith}
use Rattle.std.proofs.lemmas.Bool.{both_ways, and_parts}
use Rattle.std.proofs.lemmas.List.{take-append-drop}
use Rattle.std.specs.List.{list_all}
use Rattle.selector_tree.specs.declared.selector.Step.{Step, out-Step}
use Rattle.selector_tree.specs.declared.selector.Step.TheVariants as step
use Rattle.selector_tree.specs.declared.selector.Step.TheOpen.{Step-F, Test-F}
use Rattle.selector_tree.specs.declared.selector.Step.TheFolds.{fold_out-Test, fold-roll-Step, map-Test}
use Rattle.selector_tree.specs.declared.selector.Step.TheViews.{roll-Step, roll-Test, roll-out-Step, roll-out-Test}
use Rattle.selector_tree.specs.declared.selector.Test.{Test, out-Test}
use Rattle.selector_tree.specs.declared.selector.Test.TheVariants as test
use Rattle.selector_match.specs.Kinds.{is_single, is_single_at}
use Rattle.procedural_ops.specs.Count.{asks_at, many_asked, is_plain_step, is_plain_step_at}
use Rattle.procedural_ops.specs.Runs.{is_keep, is_keep_at, is_nested_at}
use Rattle.procedural_ops.specs.Noted.{tests_in_step, tests_in_test, step_tests, test_tests, chain_tests, selector_tests, nested_tests}

abbrev Tests : Type 0
Tests = List Test

-- ---- layers

in_Keep : (q : Test) → step_tests (step.Keep q) ≡ test_tests q
in_Keep q = ap step_tests (sym (step.rolls-Keep q)) ∙ fold-roll-Step Tests Tests tests_in_step tests_in_test (Step-F.Keep q)

pub of_Keep : (s : Step) (q : Test) → s ≡ step.Keep q → step_tests s ≡ test_tests q
of_Keep s q is = ap step_tests is ∙ in_Keep q

abbrev within_test : Test-F Step Test → Test-F Tests Tests
within_test = map-Test Step Test Tests Tests step_tests test_tests

single_layer : (o : Test-F Step Test) → is_single_at o ≡ true → tests_in_test (within_test o) ≡ roll-Test o ∷ []
single_layer Test-F.Any h = ap (λ (q : Test). q ∷ []) (sym test.rolls-Any)
single_layer (Test-F.Tag n) h = ap (λ (q : Test). q ∷ []) (sym (test.rolls-Tag n))
single_layer (Test-F.Id v) h = ap (λ (q : Test). q ∷ []) (sym (test.rolls-Id v))
single_layer (Test-F.Class v) h = ap (λ (q : Test). q ∷ []) (sym (test.rolls-Class v))
single_layer (Test-F.Attr key op v i) h = ap (λ (q : Test). q ∷ []) (sym (test.rolls-Attr key op v i))
single_layer Test-F.Root h = ap (λ (q : Test). q ∷ []) (sym test.rolls-Root)
single_layer Test-F.Empty h = ap (λ (q : Test). q ∷ []) (sym test.rolls-Empty)
single_layer (Test-F.Nth m n e o) h = ap (λ (q : Test). q ∷ []) (sym (test.rolls-Nth m n e o))
single_layer (Test-F.Only o) h = ap (λ (q : Test). q ∷ []) (sym (test.rolls-Only o))
single_layer (Test-F.Is l) h = absurd (both_ways false refl h)
single_layer (Test-F.Not l) h = absurd (both_ways false refl h)
single_layer (Test-F.Has l) h = absurd (both_ways false refl h)
single_layer (Test-F.HasText arg) h = ap (λ (q : Test). q ∷ []) (sym (test.rolls-HasText arg))
single_layer (Test-F.MinText n) h = ap (λ (q : Test). q ∷ []) (sym (test.rolls-MinText n))
single_layer (Test-F.MatchesPath arg) h = ap (λ (q : Test). q ∷ []) (sym (test.rolls-MatchesPath arg))
single_layer (Test-F.MatchesAttr key value) h = ap (λ (q : Test). q ∷ []) (sym (test.rolls-MatchesAttr key value))
single_layer (Test-F.WatchAttr names) h = ap (λ (q : Test). q ∷ []) (sym (test.rolls-WatchAttr names))

-- a test without selectors in it is the only one in it
pub of_single : (q : Test) → is_single q ≡ true → test_tests q ≡ q ∷ []
of_single q h =
    fold_out-Test Tests Tests tests_in_step tests_in_test q ∙ single_layer (out-Test q) h ∙ ap (λ (v : Test). v ∷ []) (roll-out-Test q)

-- ---- chains

pub chain_one : (s : Step) (steps : List Step) → chain_tests (s ∷ steps) ≡ step_tests s ++ chain_tests steps
unfolding chain_tests
chain_one s steps = refl

pub chain_append : (xs ys : List Step) → chain_tests (xs ++ ys) ≡ chain_tests xs ++ chain_tests ys
unfolding chain_tests
chain_append [] ys = refl
chain_append (x ∷ xs) ys = ap (λ (l : Tests). step_tests x ++ l) (chain_append xs ys) ∙ sym (append_assoc (step_tests x) (chain_tests xs) (chain_tests ys))

pub chain_cut : (i : ℕ) (steps : List Step) → chain_tests steps ≡ chain_tests (take i steps) ++ chain_tests (drop i steps)
chain_cut i steps = ap chain_tests (sym (take-append-drop i steps)) ∙ chain_append (take i steps) (drop i steps)

-- ---- selectors

pub selector_more : (l : List (List Step)) (i : ℕ) (c : List Step) → i < length l → c ≡ get_or l i c → selector_tests (take (i + 1) l) ≡ selector_tests (take i l) ++ chain_tests c
unfolding selector_tests chain_tests
selector_more [] i c h e = absurd (omega (arith, h))
selector_more (d ∷ l) zero c h e = append-nil (chain_tests d) ∙ ap chain_tests (sym e)
selector_more (d ∷ l) (suc i) c h e =
    let n : suc i + 1 ≡ suc (i + 1) = omega arith in
    ap (λ (k : ℕ). selector_tests (take k (d ∷ l))) n ∙ ap (λ (k : Tests). chain_tests d ++ k) (selector_more l i c (omega (arith, h)) e)
    ∙ sym (append_assoc (chain_tests d) (selector_tests (take i l)) (chain_tests c))

selector_cut : (i : ℕ) (l : List (List Step)) → selector_tests l ≡ selector_tests (take i l) ++ selector_tests (drop i l)
unfolding selector_tests chain_tests
selector_cut zero l = refl
selector_cut (suc i) [] = refl
selector_cut (suc i) (c ∷ l) = ap (λ (k : Tests). chain_tests c ++ k) (selector_cut i l) ∙ sym (append_assoc (chain_tests c) (selector_tests (take i l)) (selector_tests (drop i l)))

-- ---- how many there are

pub few_tests : (l : List (List Step)) (i : ℕ) → length (selector_tests (take i l)) ≤ length (selector_tests l)
few_tests l i = omega (arith, ap (λ (k : Tests). length k) (selector_cut i l), length-append (selector_tests (take i l)) (selector_tests (drop i l)))

pub more_tests : (l : List (List Step)) (i : ℕ) (c : List Step) → i < length l → c ≡ get_or l i c →
    length (selector_tests (take (i + 1) l)) ≡ length (selector_tests (take i l)) + length (chain_tests c)
more_tests l i c h e = ap (λ (k : Tests). length k) (selector_more l i c h e) ∙ length-append (selector_tests (take i l)) (chain_tests c)

keep_asks : (o : Step-F Step Test) (s : Step) → out-Step s ≡ o → is_keep_at o ≡ true →
    length (step_tests s) ≡ cond {A = ℕ} (asks_at o) 1 0 + cond {A = ℕ} (is_nested_at o) (length (step_tests s)) 0
keep_asks (Step-F.Keep q) s e h = by_single (is_single q) refl
  where
    is : s ≡ step.Keep q
    is = sym (roll-out-Step s) ∙ ap roll-Step e ∙ step.rolls-Keep q

    by_single : (b : Bool) → is_single q ≡ b → length (step_tests s) ≡ cond {A = ℕ} b 1 0 + cond {A = ℕ} (not b) (length (step_tests s)) 0
    by_single true single = omega (arith, ap (λ (l : Tests). length l) (of_Keep s q is ∙ of_single q single))
    by_single false single = omega arith
keep_asks (Step-F.Move place) s e h = absurd (both_ways false refl h)
keep_asks (Step-F.Upward n) s e h = absurd (both_ways false refl h)
keep_asks (Step-F.UpwardTo l) s e h = absurd (both_ways false refl h)
keep_asks Step-F.Others s e h = absurd (both_ways false refl h)

-- in a run of tests
pub run_tests : (run : List Step) → list_all is_keep run ≡ true → length (chain_tests run) ≡ many_asked run + nested_tests run
unfolding chain_tests
run_tests [] h = refl
run_tests (s ∷ run) h =
    let p = and_parts (is_keep s) (list_all is_keep run) h in
    omega (arith, length-append (step_tests s) (chain_tests run), keep_asks (out-Step s) s refl p.0, run_tests run p.1)

plain_asks : (o : Step-F Step Test) (s : Step) → out-Step s ≡ o → is_plain_step_at o ≡ true → cond {A = ℕ} (asks_at o) 1 0 ≤ length (step_tests s)
plain_asks (Step-F.Keep q) s e h =
    let is : s ≡ step.Keep q = sym (roll-out-Step s) ∙ ap roll-Step e ∙ step.rolls-Keep q in
    let one : length (step_tests s) ≡ 1 = ap (λ (l : Tests). length l) (of_Keep s q is ∙ of_single q h) in
    subst (λ (b : Bool). cond {A = ℕ} b 1 0 ≤ length (step_tests s)) (sym h) (omega (arith, one))
plain_asks (Step-F.Move place) s e h = omega arith
plain_asks (Step-F.Upward n) s e h = absurd (both_ways false refl h)
plain_asks (Step-F.UpwardTo l) s e h = absurd (both_ways false refl h)
plain_asks Step-F.Others s e h = absurd (both_ways false refl h)

-- in plain steps
pub plain_tests : (steps : List Step) → list_all is_plain_step steps ≡ true → many_asked steps ≤ length (chain_tests steps)
unfolding chain_tests
plain_tests [] h = omega arith
plain_tests (s ∷ steps) h =
    let p = and_parts (is_plain_step s) (list_all is_plain_step steps) h in
    omega (arith, length-append (step_tests s) (chain_tests steps), plain_asks (out-Step s) s refl p.0, plain_tests steps p.1)

pub chain_single : (s : Step) → chain_tests (s ∷ []) ≡ step_tests s
unfolding chain_tests
chain_single s = chain_one s [] ∙ append-nil (step_tests s)

pub none_in_selector : (l : List (List Step)) → length (selector_tests (take 0 l)) ≡ 0
unfolding selector_tests
none_in_selector l = refl
