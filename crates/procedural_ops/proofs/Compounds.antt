-- A filter's own chains: the tests of the last compound, and the steps before it.
use Rattle.std.proofs.Common.{◌≡◌, ℕ, zero, suc, ◌+◌, ◌*◌, ◌-◌, ◌<◌, ◌≤◌, Bool, true, false, ◌&&◌, ◌||◌, not, cond, List, [], ◌∷◌, take, drop, length, get_or, refl, sym, ap, ◌∙◌, length-append, arith}
use Rattle.std.proofs.lemmas.Bool.{both_ways, and_parts}
use Rattle.std.proofs.lemmas.List.{take-append-drop}
use Rattle.std.specs.List.{list_all}
use Rattle.selector_tree.specs.declared.selector.Step.{Step, out-Step}
use Rattle.selector_tree.specs.declared.selector.Step.TheOpen.{Step-F}
use Rattle.selector_tree.specs.declared.selector.Test.{Test}
use Rattle.page_tree.specs.Forest.{Tree}
use Rattle.page_tree.specs.Directions.{is_in}
use Rattle.cos_patterns.specs.Found.{pattern_found}
use Rattle.selector_meaning.specs.Texts.{Bytes}
use Rattle.selector_meaning.specs.Meaning.{holds}
use Rattle.selector_match.specs.Kinds.{is_single}
use Rattle.procedural_ops.specs.Count.{many_asked}
use Rattle.procedural_ops.specs.Noted.{chain_tests, step_tests, nested_tests}
use Rattle.procedural_ops.specs.Reaching.{reached}
use Rattle.procedural_ops.specs.Runs.{is_keep, is_nested, is_nested_at, keeps, nested_keeps, nested_keeps_at}
use Rattle.procedural_ops.proofs.Keeping.{reached_run}
use Rattle.procedural_ops.proofs.Totals.{chain_cut, run_tests}

-- ---- the last compound

module _ (t : Tree) (path : Bytes) (steps run : List Step) (k x : ℕ) (is : run ≡ drop k steps) (tests : list_all is_keep (drop k steps) ≡ true) where
  pub own_law : is_in (reached t path steps) x ≡ (is_in (reached t path (take k steps)) x && list_all (keeps t path x) run)
  own_law =
      ap (λ (l : List Step). is_in (reached t path l) x) (sym (take-append-drop k steps)) ∙ reached_run t path (drop k steps) (take k steps) x tests
      ∙ ap (λ (l : List Step). is_in (reached t path (take k steps)) x && list_all (keeps t path x) l) (sym is)

  pub own_fails : list_all (keeps t path x) run ≡ false → is_in (reached t path steps) x ≡ false
  own_fails h = own_law ∙ ap (λ b. is_in (reached t path (take k steps)) x && b) h ∙ off (is_in (reached t path (take k steps)) x)
    where
      off : (b : Bool) → (b && false) ≡ false
      off true = refl
      off false = refl

  pub own_goes_on : list_all (keeps t path x) run ≡ true → is_in (reached t path steps) x ≡ is_in (reached t path (take k steps)) x
  own_goes_on h = own_law ∙ ap (λ b. is_in (reached t path (take k steps)) x && b) h ∙ on (is_in (reached t path (take k steps)) x)
    where
      on : (b : Bool) → (b && true) ≡ b
      on true = refl
      on false = refl

  pub own_tests : length (chain_tests steps) ≡ length (chain_tests (take k steps)) + (many_asked run + nested_tests run)
  own_tests =
      omega (
        arith,
        ap (λ (l : List Test). length l) (chain_cut k steps),
        length-append (chain_tests (take k steps)) (chain_tests (drop k steps)),
        run_tests (drop k steps) tests,
        ap many_asked is,
        ap nested_tests is,
      )

-- an element is one of all
pub some_element : (l : List ℕ) (x : ℕ) → is_in l x ≡ true → 1 ≤ length l
some_element [] x h = absurd (both_ways false refl h)
some_element (y ∷ l) x h = omega arith

pub few_asked : (old now a l n : ℕ) → now ≤ old + a → a ≤ l → 1 ≤ n → now ≤ old + l * n
few_asked old now a l n h few some =
    let m : a * n ≤ l * n = grind (arith, few) in
    let o : a ≤ a * n = grind (arith, some) in
    omega (arith, h, m, o)

pub more_asked : (old now a b c l n : ℕ) → now ≤ old + a + b * n + c * n → l ≡ c + (a + b) → 1 ≤ n → now ≤ old + l * n
more_asked old now a b c l n h is some =
    let o : a ≤ a * n = grind (arith, some) in
    let e : l * n ≡ c * n + a * n + b * n = ap (λ k. k * n) is ∙ grind arith in
    omega (arith, h, o, e)

-- ---- steps with selectors in their tests

keeps_anyway_at : (t : Tree) (path : Bytes) (x : ℕ) (o : Step-F Step Test) → is_nested_at o ≡ false → nested_keeps_at t path x o ≡ true
keeps_anyway_at t path x (Step-F.Keep q) h = by (is_single q) refl h
  where
    by : (b : Bool) → is_single q ≡ b → not b ≡ false → (b || holds pattern_found t path q x) ≡ true
    by true e h = refl
    by false e h = absurd (both_ways false refl (sym h))
keeps_anyway_at t path x (Step-F.Move place) h = refl
keeps_anyway_at t path x (Step-F.Upward n) h = refl
keeps_anyway_at t path x (Step-F.UpwardTo l) h = refl
keeps_anyway_at t path x Step-F.Others h = refl

pub keeps_anyway : (t : Tree) (path : Bytes) (x : ℕ) (s : Step) → is_nested s ≡ false → nested_keeps t path x s ≡ true
keeps_anyway t path x s h = keeps_anyway_at t path x (out-Step s) h

-- of one step alone
pub alone : (p : Step → Bool) (run : List Step) (s : Step) → run ≡ s ∷ [] → list_all p run ≡ true → p s ≡ true
alone p run s is h = (and_parts (p s) true (sym (ap (list_all p) is) ∙ h)).0

-- the step at a place, as a slice
pub one_step : (run : List Step) (i : ℕ) (s : Step) → i < length run → s ≡ get_or run i s → take ((i + 1) - i) (drop i run) ≡ s ∷ []
one_step [] i s h e = absurd (omega (arith, h))
one_step (r ∷ run) zero s h e = ap (λ (v : Step). v ∷ []) (sym e)
one_step (r ∷ run) (suc i) s h e =
    let n : (suc i + 1) - suc i ≡ (i + 1) - i = omega arith in
    ap (λ (k : ℕ). take k (drop i run)) n ∙ one_step run i s (omega (arith, h)) e

pub nested_more : (run : List Step) (i : ℕ) (s : Step) → i < length run → s ≡ get_or run i s →
    nested_tests (take (i + 1) run) ≡ nested_tests (take i run) + cond {A = ℕ} (is_nested s) (length (step_tests s)) 0
nested_more [] i s h e = absurd (omega (arith, h))
nested_more (r ∷ run) zero s h e = let z = ap (λ (v : Step). cond {A = ℕ} (is_nested v) (length (step_tests v)) 0) e in omega (arith, z)
nested_more (r ∷ run) (suc i) s h e =
    let m = nested_more run i s (omega (arith, h)) e in
    let n : suc i + 1 ≡ suc (i + 1) = omega arith in
    let f = ap (λ (k : ℕ). nested_tests (take k (r ∷ run))) n in
    omega (arith, m, f)

pub nested_few : (run : List Step) (i : ℕ) → nested_tests (take i run) ≤ nested_tests run
nested_few [] zero = omega arith
nested_few [] (suc i) = omega arith
nested_few (r ∷ run) zero = omega arith
nested_few (r ∷ run) (suc i) = omega (arith, nested_few run i)
