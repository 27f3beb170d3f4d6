-- What changes, lines and scripts cost, also where they end early.
use Rattle.std.proofs.Common.{◌≡◌, ◌∙◌, ℕ, ◌+◌, ◌≤◌, List, ◌∷◌, Result, Ok, Err, IsErr, refl, sym, ap, arith}
use Rattle.std.specs.Result.{result_unwrap_or}
use Rattle.page_tree.specs.Refusals.{Refusal}
use Rattle.cos_source.specs.Lines.{lines_of, numbered}
use Rattle.mutation_script.specs.declared.answer.Outcome.{Outcome}
use Rattle.mutation_script.specs.declared.answer.Outcome.TheVariants.{Done}
use Rattle.mutation_script.specs.declared.mutation.Mutation.{Mutation}
use Rattle.mutation_script.specs.declared.page.PageState.{PageState}
use Rattle.mutation_script.specs.Lines.{script_line}
use Rattle.mutation_script.specs.declared.mutation.ScriptLine.TheVariants as says
use Rattle.mutation_script.specs.Changes.{change, outcome_of}
use Rattle.engine_meaning.specs.States.{State, mutated}
use Rattle.hide_engine.specs.Budgets.{event_budget, event_tests}
use Rattle.hide_engine.proofs.Unseen.{refused_budget, refused_tests}
use Rattle.remove_rounds.specs.Costs.{Costs, questions, settling_cost, single_tests}
use Rattle.remove_rounds.proofs.Spending.{event_questions, event_singles}
use Rattle.command_meaning.specs.Report.{after_line, settling}
use Rattle.page_steps.specs.Costs.{change_cost, line_cost, lines_cost, script_cost}

module _ (costs : Costs) where
  -- ---- a change

  -- a change alone costs no more than with the rounds behind it, where one that is refused costs nothing
  pub change_within : (mutation : Mutation) (changed : Result PageState Refusal) (s : State) → (IsErr changed → costs.event mutation s ≡ 0) →
      costs.event mutation s ≤ change_cost costs mutation changed s
  change_within mutation (Ok page) s refused = omega arith
  change_within mutation (Err refusal) s refused = let none = refused refl in omega arith

  -- the change was made, and rounds behind it
  pub change_made : (mutation : Mutation) (changed : Result PageState Refusal) (s behind : State) → Done ≡ outcome_of changed →
      behind ≡ record s { page = result_unwrap_or changed s.page } → costs.event mutation s + settling_cost costs behind ≡ change_cost costs mutation changed s
  change_made mutation (Ok page) s behind made at = ap (λ (x : State). costs.event mutation s + settling_cost costs x) at
  change_made mutation (Err refusal) s behind made at = absurd (let no : Done ≡ outcome_of (Err refusal) = made in cc)

  -- ---- lines

  -- a line was followed, and the others are left
  pub line_spent : (s next : State) (line : ℕ × List ℕ) (lines rest : List (ℕ × List ℕ)) → lines ≡ line ∷ rest → next ≡ (after_line (script_line line.1) s).state →
      line_cost costs (script_line line.1) s + lines_cost costs next rest ≡ lines_cost costs s lines
  line_spent s next line lines rest is at =
      ap (λ (x : State). line_cost costs (script_line line.1) s + lines_cost costs x rest) at
      ∙ sym (ap (lines_cost costs s) is)

  -- a line that ends early
  pub line_within : (s : State) (line : ℕ × List ℕ) (lines rest : List (ℕ × List ℕ)) → lines ≡ line ∷ rest →
      line_cost costs (script_line line.1) s ≤ lines_cost costs s lines
  line_within s line lines rest is = let whole = line_spent s (after_line (script_line line.1) s).state line lines rest is refl in omega arith

  -- ---- a script

  -- the rounds of the page as it was opened, and the lines that are left
  pub script_spent : (s opened : State) (script : List ℕ) (lines : List (ℕ × List ℕ)) → opened ≡ (settling s).state → lines ≡ numbered 1 (lines_of script) →
      settling_cost costs s + lines_cost costs opened lines ≡ script_cost costs s script
  unfolding script_cost
  script_spent s opened script lines at are =
      ap (λ (x : State). settling_cost costs s + lines_cost costs x lines) at
      ∙ ap (λ (ls : List (ℕ × List ℕ)). settling_cost costs s + lines_cost costs (settling s).state ls) are

  -- the rounds alone
  pub opening_within : (s : State) (script : List ℕ) → settling_cost costs s ≤ script_cost costs s script
  unfolding script_cost
  opening_within s script = omega arith

-- ---- both ways of counting

pub questions_within : (mutation : Mutation) (s : State) → event_budget mutation s ≤ line_cost questions (says.Mutation mutation) s
questions_within mutation s =
    let is = event_questions mutation s in
    let within = change_within questions mutation (change mutation s.page) s (λ refused. sym is ∙ refused_budget mutation s refused) in
    omega arith

pub singles_within : (mutation : Mutation) (s : State) → event_tests mutation s ≤ line_cost single_tests (says.Mutation mutation) s
singles_within mutation s =
    let is = event_singles mutation s in
    let within = change_within single_tests mutation (change mutation s.page) s (λ refused. sym is ∙ refused_tests mutation s refused) in
    omega arith

pub questions_made : (mutation : Mutation) (s behind : State) (outcome : Outcome) → outcome ≡ outcome_of (change mutation s.page) → outcome ≡ Done → behind ≡ mutated mutation s →
    event_budget mutation s + settling_cost questions behind ≡ line_cost questions (says.Mutation mutation) s
questions_made mutation s behind outcome is done at =
    ap (λ n. n + settling_cost questions behind) (event_questions mutation s) ∙ change_made questions mutation (change mutation s.page) s behind (sym done ∙ is) at

pub singles_made : (mutation : Mutation) (s behind : State) (outcome : Outcome) → outcome ≡ outcome_of (change mutation s.page) → outcome ≡ Done → behind ≡ mutated mutation s →
    event_tests mutation s + settling_cost single_tests behind ≡ line_cost single_tests (says.Mutation mutation) s
singles_made mutation s behind outcome is done at =
    ap (λ n. n + settling_cost single_tests behind) (event_singles mutation s) ∙ change_made single_tests mutation (change mutation s.page) s behind (sym done ∙ is) at
