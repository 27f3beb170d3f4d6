-- What rounds cost, one after another.
use Rattle.std.proofs.Common.{◌≡◌, ◌∙◌, ℕ, zero, suc, ◌+◌, ◌≤◌, ◌<◌, List, [], ◌∷◌, length, refl, sym, ap, arith}
use Rattle.page_tree.specs.Standings.{all}
use Rattle.cos_patterns.specs.Found.{pattern_found}
use Rattle.selector_tree.specs.declared.filter.Taken.{Taken}
use Rattle.mutation_script.specs.declared.mutation.Mutation.{Mutation}
use Rattle.engine_meaning.specs.States.{State, rounded, round_of}
use Rattle.hide_engine.specs.Budgets.{start_budget, start_tests, event_budget, event_tests, round_budget, round_tests}
use Rattle.hide_engine.proofs.Unseen.{quiet_budget, quiet_tests}
use Rattle.remove_rounds.specs.Costs.{Costs, questions, single_tests, rounds_cost, settling_cost}
use Rattle.remove_rounds.proofs.Rounds.{fewer}

-- ---- the two ways of counting

pub start_questions : (s : State) → start_budget s ≡ questions.start s
unfolding questions
start_questions s = refl

pub event_questions : (mutation : Mutation) (s : State) → event_budget mutation s ≡ questions.event mutation s
unfolding questions
event_questions mutation s = refl

pub round_questions : (s : State) → round_budget s ≡ questions.round s
unfolding questions
round_questions s = refl

pub start_singles : (s : State) → start_tests s ≡ single_tests.start s
unfolding single_tests
start_singles s = refl

pub event_singles : (mutation : Mutation) (s : State) → event_tests mutation s ≡ single_tests.event mutation s
unfolding single_tests
event_singles mutation s = refl

pub round_singles : (s : State) → round_tests s ≡ single_tests.round s
unfolding single_tests
round_singles s = refl

-- ---- rounds

module _ (costs : Costs) where
  -- more rounds cost no less
  no_less : (n m : ℕ) (s : State) → m ≤ n → rounds_cost costs m s ≤ rounds_cost costs n s
  no_less n zero s few = omega arith
  no_less zero (suc m) s few = absurd (omega arith)
  no_less (suc n) (suc m) s few = let rest = no_less n m (rounded pattern_found s) (omega arith) in omega arith

  one_more : (n m : ℕ) (s next : State) → next ≡ rounded pattern_found s → m < n → costs.round s + rounds_cost costs m next ≤ rounds_cost costs n s
  one_more zero m s next is few = absurd (omega arith)
  one_more (suc n) m s next is few =
      let rest = no_less n m (rounded pattern_found s) (omega arith) in
      let same : rounds_cost costs m next ≡ rounds_cost costs m (rounded pattern_found s) = ap (rounds_cost costs m) is in
      omega arith

  -- a round that takes something, and those behind it
  pub goes_on : (s next : State) → next ≡ rounded pattern_found s → (round_of pattern_found s ≡ [] → ⊥) →
      costs.round s + settling_cost costs next ≤ settling_cost costs s
  goes_on s next is some =
      let less : length (all next.page.tree) < length (all s.page.tree) =
      by (length (all next.page.tree)) (length (all (rounded pattern_found s).page.tree)) (length (all s.page.tree)) (ap (λ (x : State). length (all x.page.tree)) is) (fewer s some) in
      one_more (length (all s.page.tree)) (length (all next.page.tree)) s next is less
    where
      by : (a b c : ℕ) → a ≡ b → b < c → a < c
      by a b c e h = omega arith

  -- a round costs no more than all of them, where one that takes nothing costs nothing
  pub within_all : (s : State) → (round_of pattern_found s ≡ [] → costs.round s ≡ 0) → costs.round s ≤ settling_cost costs s
  within_all s quiet = by (round_of pattern_found s) refl
    where
      by : (rows : List Taken) → rows ≡ round_of pattern_found s → costs.round s ≤ settling_cost costs s
      by [] e = let none = quiet (sym e) in omega arith
      by (row ∷ rows) e =
          let more = goes_on s (rounded pattern_found s) refl (λ none. let no : row ∷ rows ≡ [] = e ∙ none in cc) in
          omega arith

-- so it is with both ways of counting
pub questions_within : (s : State) → round_budget s ≤ settling_cost questions s
questions_within s =
    let is = round_questions s in
    let all_rounds = within_all questions s (λ none. sym is ∙ quiet_budget s none) in
    omega arith

pub singles_within : (s : State) → round_tests s ≤ settling_cost single_tests s
singles_within s =
    let is = round_singles s in
    let all_rounds = within_all single_tests s (λ none. sym is ∙ quiet_tests s none) in
    omega arith
