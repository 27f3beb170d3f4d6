-- What a chain leads to passes the tests behind its last step that is no test, and so carries its key.
use Rattle.std.proofs.Common.{◌≡◌, ℕ, ◌+◌, ◌<◌, Bool, true, false, inl, inr, List, [], ◌∷◌, ◌++◌, map, fold, Option, None, Some, length, take, get_or, refl, sym, ap, subst, ◌∙◌}
use Rattle.std.specs.List.{list_any}
use Rattle.std.specs.Str.{bytes_eq}
use Rattle.std.proofs.lemmas.List.{take_more}
use Rattle.std.proofs.lemmas.Bool.{or_cases, or_left, or_right, and_parts}
use Rattle.selector_tree.specs.declared.selector.Step.{Step, out-Step}
use Rattle.selector_tree.specs.declared.selector.Step.TheOpen.{Step-F, Test-F}
use Rattle.selector_tree.specs.declared.selector.Step.TheFolds.{fold-roll-Step, fold-roll-Test, map-Step, map-Test}
use Rattle.selector_tree.specs.declared.selector.Step.TheViews.{roll-out-Step, roll-out-Test}
use Rattle.selector_tree.specs.declared.selector.Test.{Test, out-Test}
use Rattle.page_tree.specs.Forest.{Tree}
use Rattle.page_tree.specs.Standings.{all, name}
use Rattle.page_tree.specs.Facts.{id, class_list}
use Rattle.page_tree.specs.Directions.{is_in}
use Rattle.page_tree.proofs.Members.{is_in-filter}
use Rattle.selector_meaning.specs.Texts.{Bytes, some_fits}
use Rattle.selector_meaning.specs.Meaning.{StepMeaning, TestMeaning, run, step_meaning, test_meaning, step_of, holds, selects}
use Rattle.generic_tables.specs.declared.keys.Kind.TheVariants as kind
use Rattle.generic_tables.specs.Keys.{carries, test_at, kept_test, one_more, last_tests, value_at, value_of, value_in, first_value, key_from, key_of_chain, is_keyed, KeyLaw}

none_true : {A : Type 0} → false ≡ true → A
none_true h = absurd (let e : ⊥ = cc in e)

-- a value behind one more step
pub value_behind : (value : Test → Option Bytes) (tests : List Test) (q : Test) → first_value value (tests ++ q ∷ []) ≡ value_in (first_value value tests) (value q)
value_behind value [] q = unchanged (value q)
  where
    unchanged : (o : Option Bytes) → value_in o None ≡ o
    unchanged None = refl
    unchanged (Some v) = refl
value_behind value (p ∷ tests) q = ap (value_in (value p)) (value_behind value tests q) ∙ nested (value p) (first_value value tests) (value q)
  where
    nested : (a b c : Option Bytes) → value_in a (value_in b c) ≡ value_in (value_in a b) c
    nested None b c = refl
    nested (Some v) b c = refl

pub fold-push : (steps : List Step) (s : Step) (tests : List Test) →
    fold (λ tests s. one_more tests (kept_test s)) tests (steps ++ s ∷ []) ≡ one_more (fold (λ tests s. one_more tests (kept_test s)) tests steps) (kept_test s)
fold-push [] s tests = refl
fold-push (r ∷ steps) s tests = fold-push steps s (one_more tests (kept_test r))

module _ (found : Bytes → ℕ → Bytes → Bool) (t : Tree) (path : Bytes) where
  abbrev Pass : List Test → ℕ → Type 0
  Pass [] x = Unit {0}
  Pass (q ∷ tests) x = (holds found t path q x ≡ true) × Pass tests x

  pass_push : (tests : List Test) (q : Test) (x : ℕ) → Pass tests x → holds found t path q x ≡ true → Pass (tests ++ q ∷ []) x
  pass_push [] q x p h = (h, tt)
  pass_push (r ∷ tests) q x p h = (p.0, pass_push tests q x p.1 h)

  abbrev AllPass : List Test → List ℕ → Type 0
  AllPass tests s = (x : ℕ) → is_in s x ≡ true → Pass tests x

  -- behind one step
  behind_at : (y : Step-F Step Test) (tests : List Test) (s : List ℕ) → AllPass tests s →
      AllPass (one_more tests (test_at y)) ((step_meaning found t path (map-Step Step Test StepMeaning TestMeaning (step_of found t path) (holds found t path) y)).push s)
  behind_at (Step-F.Keep q) tests s p x h =
      let k = and_parts (is_in s x) (holds found t path q x) (sym (is_in-filter (holds found t path q) s x) ∙ h) in
      pass_push tests q x (p x k.0) k.1
  behind_at (Step-F.Move place) tests s p x h = tt
  behind_at (Step-F.Upward n) tests s p x h = tt
  behind_at (Step-F.UpwardTo l) tests s p x h = tt
  behind_at Step-F.Others tests s p x h = tt

  behind : (step : Step) (tests : List Test) (s : List ℕ) → AllPass tests s → AllPass (one_more tests (kept_test step)) ((step_of found t path step).push s)
  behind step tests s p =
      let is : step_of found t path step ≡ step_meaning found t path (map-Step Step Test StepMeaning TestMeaning (step_of found t path) (holds found t path) (out-Step step)) =
      ap (step_of found t path) (sym (roll-out-Step step)) ∙ fold-roll-Step StepMeaning TestMeaning (step_meaning found t path) (test_meaning found t path) (out-Step step) in
      subst (λ (m : StepMeaning). AllPass (one_more tests (kept_test step)) (m.push s)) (sym is) (behind_at (out-Step step) tests s p)

  all_behind : (steps : List Step) (tests : List Test) (s : List ℕ) → AllPass tests s →
      AllPass (fold (λ tests s. one_more tests (kept_test s)) tests steps) (run (map (step_of found t path) steps) s)
  all_behind [] tests s p = p
  all_behind (step ∷ steps) tests s p = all_behind steps (one_more tests (kept_test step)) ((step_of found t path step).push s) (behind step tests s p)

  -- ---- a test that holds, as the key that asks the same
  asks_at : (y : Test-F Step Test) (x : ℕ) →
      test_meaning found t path (map-Test Step Test StepMeaning TestMeaning (step_of found t path) (holds found t path) y) x ≡ true →
      ((v : Bytes) → value_at kind.Id y ≡ Some v → some_fits (id t x) (bytes_eq v) ≡ true)
      × ((v : Bytes) → value_at kind.Class y ≡ Some v → list_any (bytes_eq v) (class_list t x) ≡ true)
      × ((v : Bytes) → value_at kind.Name y ≡ Some v → bytes_eq (name t x) v ≡ true)
  asks_at y x h = by_kind y h
    where
      no_value : {A : Type 0} (v : Bytes) → None ≡ Some v → A
      no_value v e = absurd (let n : ⊥ = cc in n)

      some_value : (a b : Bytes) → Some a ≡ Some b → a ≡ b
      some_value a b e = cc (e)

      by_kind : (y : Test-F Step Test) →
          test_meaning found t path (map-Test Step Test StepMeaning TestMeaning (step_of found t path) (holds found t path) y) x ≡ true →
          ((v : Bytes) → value_at kind.Id y ≡ Some v → some_fits (id t x) (bytes_eq v) ≡ true)
          × ((v : Bytes) → value_at kind.Class y ≡ Some v → list_any (bytes_eq v) (class_list t x) ≡ true)
          × ((v : Bytes) → value_at kind.Name y ≡ Some v → bytes_eq (name t x) v ≡ true)
      by_kind (Test-F.Id w) h = (
        λ v e. subst (λ (u : Bytes). some_fits (id t x) (bytes_eq u) ≡ true) (some_value w v e) h,
        λ v e. no_value v e,
        λ v e. no_value v e,
      )
      by_kind (Test-F.Class w) h = (
        λ v e. no_value v e,
        λ v e. subst (λ (u : Bytes). list_any (bytes_eq u) (class_list t x) ≡ true) (some_value w v e) h,
        λ v e. no_value v e,
      )
      by_kind (Test-F.Tag w) h = (
        λ v e. no_value v e,
        λ v e. no_value v e,
        λ v e. subst (λ (u : Bytes). bytes_eq (name t x) u ≡ true) (some_value w v e) h,
      )
      by_kind _ h = (λ v e. no_value v e, λ v e. no_value v e, λ v e. no_value v e)

  asks : (q : Test) (x : ℕ) → holds found t path q x ≡ true →
      ((v : Bytes) → value_of kind.Id q ≡ Some v → some_fits (id t x) (bytes_eq v) ≡ true)
      × ((v : Bytes) → value_of kind.Class q ≡ Some v → list_any (bytes_eq v) (class_list t x) ≡ true)
      × ((v : Bytes) → value_of kind.Name q ≡ Some v → bytes_eq (name t x) v ≡ true)
  asks q x h = asks_at (out-Test q) x
      (ap (λ (m : TestMeaning). m x) (sym (ap (holds found t path) (sym (roll-out-Test q)) ∙ fold-roll-Test StepMeaning TestMeaning (step_meaning found t path) (test_meaning found t path) (out-Test q))) ∙ h)

  -- a fact of each value that a test that holds asks for is one of the first value among tests that hold
  of_first : (value : Test → Option Bytes) (Fact : Bytes → Type 0) (x : ℕ) → ((q : Test) → holds found t path q x ≡ true → (v : Bytes) → value q ≡ Some v → Fact v) →
      (tests : List Test) → Pass tests x → (v : Bytes) → first_value value tests ≡ Some v → Fact v
  of_first value Fact x fact [] p v e = absurd (let n : ⊥ = cc in n)
  of_first value Fact x fact (q ∷ tests) p v e = pick (value q) refl e (of_first value Fact x fact tests p.1 v)
    where
      pick : (o : Option Bytes) → value q ≡ o → value_in o (first_value value tests) ≡ Some v → (first_value value tests ≡ Some v → Fact v) → Fact v
      pick None is e2 later = later e2
      pick (Some w) is e2 later = fact q p.0 v (is ∙ e2)

  key_carried : (tests : List Test) (x : ℕ) → Pass tests x →
      carries t (key_from (first_value (value_of kind.Id) tests) (first_value (value_of kind.Class) tests) (first_value (value_of kind.Name) tests)) x ≡ true
  key_carried tests x p =
      pick (first_value (value_of kind.Id) tests) (first_value (value_of kind.Class) tests) (first_value (value_of kind.Name) tests)
      (of_first (value_of kind.Id) (λ v. some_fits (id t x) (bytes_eq v) ≡ true) x (λ q h. (asks q x h).0) tests p)
      (of_first (value_of kind.Class) (λ v. list_any (bytes_eq v) (class_list t x) ≡ true) x (λ q h. (asks q x h).1) tests p)
      (of_first (value_of kind.Name) (λ v. bytes_eq (name t x) v ≡ true) x (λ q h. (asks q x h).2) tests p)
    where
      pick : (a b c : Option Bytes) → ((v : Bytes) → a ≡ Some v → some_fits (id t x) (bytes_eq v) ≡ true) →
          ((v : Bytes) → b ≡ Some v → list_any (bytes_eq v) (class_list t x) ≡ true) → ((v : Bytes) → c ≡ Some v → bytes_eq (name t x) v ≡ true) →
          carries t (key_from a b c) x ≡ true
      pick (Some v) b c f g h = f v refl
      pick None (Some v) c f g h = g v refl
      pick None None (Some v) f g h = h v refl
      pick None None None f g h = refl

  chain_keyed : (chain : List Step) (x : ℕ) → is_in (run (map (step_of found t path) chain) (all t)) x ≡ true → carries t (key_of_chain chain) x ≡ true
  chain_keyed chain x h = key_carried (last_tests chain) x (all_behind chain [] (all t) (λ y i. tt) x h)

  keyed : (selector : List (List Step)) (x : ℕ) → selects found t path selector x ≡ true → is_keyed t selector x ≡ true
  keyed [] x h = none_true h
  keyed (chain ∷ selector) x h =
      elim (or_cases (is_in (run (map (step_of found t path) chain) (all t)) x) (selects found t path selector x) h) [
        | inl i ↦ or_left (carries t (key_of_chain chain) x) (is_keyed t selector x) (chain_keyed chain x i)
        | inr i ↦ or_right (carries t (key_of_chain chain) x) (is_keyed t selector x) (keyed selector x i)
      ]

pub key_law : KeyLaw
key_law found t path selector x h = keyed found t path selector x h

-- ---- one step more
module _ (value : Test → Option Bytes) (steps : List Step) (i : ℕ) (s : Step) where
  one_step : i < length steps → s ≡ get_or steps i s → last_tests (take (i + 1) steps) ≡ one_more (last_tests (take i steps)) (kept_test s)
  one_step within is = ap last_tests (take_more steps i s within ∙ ap (λ (y : Step). take i steps ++ y ∷ []) (sym is)) ∙ fold-push (take i steps) s []

  pub behind_test : (q : Test) → i < length steps → s ≡ get_or steps i s → kept_test s ≡ Some q →
      first_value value (last_tests (take (i + 1) steps)) ≡ value_in (first_value value (last_tests (take i steps))) (value q)
  behind_test q within is test =
      ap (first_value value) (one_step within is ∙ ap (one_more (last_tests (take i steps))) test) ∙ value_behind value (last_tests (take i steps)) q

  pub behind_other : i < length steps → s ≡ get_or steps i s → kept_test s ≡ None → first_value value (last_tests (take (i + 1) steps)) ≡ None
  behind_other within is other = ap (first_value value) (one_step within is ∙ ap (one_more (last_tests (take i steps))) other)
