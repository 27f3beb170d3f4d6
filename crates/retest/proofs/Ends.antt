-- What a chain leads to passes the tests at its end.
use Rattle.std.proofs.Common.{◌≡◌, ◌∙◌, ◌&&◌, ◌||◌, ℕ, false, List, [], ◌∷◌, ◌++◌, refl, ap}
use Rattle.std.specs.List.{list_any, list_all}
use Rattle.std.proofs.lemmas.Bool.{and_right}
use Rattle.std.proofs.lemmas.List.{map-append}
use Rattle.selector_tree.specs.declared.selector.Step.{Step}
use Rattle.selector_tree.specs.declared.selector.Step.TheVariants.{Keep, Others}
use Rattle.selector_tree.specs.declared.selector.Test.{Test}
use Rattle.page_tree.specs.Forest.{Tree}
use Rattle.page_tree.specs.Standings.{all}
use Rattle.page_tree.specs.Directions.{is_in}
use Rattle.page_tree.proofs.Members.{is_in-filter}
use Rattle.cos_patterns.specs.Found.{pattern_found}
use Rattle.selector_meaning.specs.Texts.{Bytes}
use Rattle.selector_meaning.specs.Meaning.{StepMeaning, ChainMeaning, run, holds, selects, is_apart, is_beside, is_shown, is_other}
use Rattle.selector_meaning.proofs.Laws.{step_of-Keep, step_of-Others}
use Rattle.procedural_ops.specs.Reaching.{meaning, chain_meaning, reached}

run-last : (front : ChainMeaning) (last : StepMeaning) (s : List ℕ) → run (front ++ last ∷ []) s ≡ last.push (run front s)
run-last [] last s = refl
run-last (step ∷ front) last s = run-last front last (step.push s)

module _ (t : Tree) (path : Bytes) where
  last-step : (steps front : List Step) (last : Step) (x : ℕ) → steps ≡ front ++ last ∷ [] →
      is_in (reached t path steps) x ≡ is_in ((meaning t path last).push (reached t path front)) x
  unfolding reached
  last-step steps front last x is =
      ap (λ (s : List Step). is_in (run (chain_meaning t path s) (all t)) x) is
      ∙ ap (λ (s : ChainMeaning). is_in (run s (all t)) x) (map-append (meaning t path) front (last ∷ []))
      ∙ ap (λ (s : List ℕ). is_in s x) (run-last (chain_meaning t path front) (meaning t path last) (all t))

  -- one test more behind some steps
  pub reached-test : (steps front : List Step) (q : Test) (x : ℕ) → steps ≡ front ++ Keep q ∷ [] →
      is_in (reached t path steps) x ≡ (is_in (reached t path front) x && holds pattern_found t path q x)
  reached-test steps front q x is =
      last-step steps front (Keep q) x is
      ∙ ap (λ (m : StepMeaning). is_in (m.push (reached t path front)) x) (step_of-Keep pattern_found t path q)
      ∙ is_in-filter (holds pattern_found t path q) (reached t path front) x

  -- `:others()` leads to no element whose name it leaves out
  pub reached-others : (steps front : List Step) (x : ℕ) → steps ≡ front ++ Others ∷ [] → is_shown t x ≡ false → is_in (reached t path steps) x ≡ false
  reached-others steps front x is unshown =
      let s = reached t path front in
      last-step steps front Others x is
      ∙ ap (λ (m : StepMeaning). is_in (m.push s) x) (step_of-Others pattern_found t path)
      ∙ is_in-filter (is_other t s) (all t) x
      ∙ and_right (is_in (all t) x) (is_other t s x)
      (and_right (list_all (λ y. is_apart t y x) s && list_any (λ y. is_beside t y x) s) (is_shown t x) unshown)

  -- a selector selects what some chain of it leads to
  pub selects-reached : (selector : List (List Step)) (x : ℕ) → selects pattern_found t path selector x ≡ list_any (λ chain. is_in (reached t path chain) x) selector
  unfolding reached
  selects-reached [] x = refl
  selects-reached (chain ∷ selector) x = ap (λ b. is_in (run (chain_meaning t path chain) (all t)) x || b) (selects-reached selector x)
