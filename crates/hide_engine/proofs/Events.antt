-- What an event leaves: the page where nothing was changed, and the page behind a round.
use Rattle.std.proofs.Common.{◌≡◌, zero, suc, true, false, List, [], ◌∷◌, map, length, Result, Ok, Err, IsErr, refl, sym, ap, ap₂, ◌∙◌}
use Rattle.std.specs.Prelude.{is_ok}
use Rattle.std.specs.Result.{result_unwrap_or}
use Rattle.cos_patterns.specs.Found.{pattern_found}
use Rattle.page_tree.specs.Forest.{Tree}
use Rattle.page_tree.specs.Refusals.{Refusal}
use Rattle.page_tree.specs.Trees.{IsTree}
use Rattle.dom_arena.specs.declared.refusals.DomError.{DomError}
use Rattle.mutation_script.specs.declared.page.PageState.{PageState}
use Rattle.mutation_script.specs.declared.answer.Outcome.{Outcome}
use Rattle.mutation_script.specs.declared.answer.Outcome.TheVariants.{Done, Refused}
use Rattle.mutation_script.specs.Changes.{outcome_of}
use Rattle.selector_tree.specs.declared.filter.Taken.{Taken}
use Rattle.engine_meaning.specs.Rounds.{without_each}
use Rattle.engine_meaning.specs.States.{State, rounded, round_of}
use Rattle.engine_meaning.proofs.Outermost.{each-round}
use Rattle.hide_engine.specs.declared.filter_set.FilterSet.{FilterSet}
use Rattle.hide_engine.specs.Budgets.{budget_of, round_budget}
use Rattle.hide_engine.specs.Changes.{dirtied_without}
use Rattle.hide_engine.specs.Ready.{state_of}

-- a refused change leaves the page as it is
pub unchanged : (page : PageState) (change : Result PageState Refusal) (given : Outcome) (error : DomError) → given ≡ outcome_of change → given ≡ Refused error →
    result_unwrap_or change page ≡ page
unchanged page (Ok new) given error e refused = absurd (let no : Done ≡ Refused error = sym e ∙ refused in cc)
unchanged page (Err refusal) given error e refused = refl

-- a change that is made isn't refused
pub not_refused : (change : Result PageState Refusal) (given : Outcome) → given ≡ outcome_of change → given ≡ Done → IsErr change → ⊥
not_refused (Ok new) given e done refused = absurd (let no : false ≡ true = refused in cc)
not_refused (Err refusal) given e done refused = absurd (let no : outcome_of (Err refusal) ≡ Done = sym e ∙ done in cc)

-- whether a change is made, by its outcome
pub is_made : (change : Result PageState Refusal) (given : Outcome) → given ≡ outcome_of change → given ≡ Done → is_ok change ≡ true
is_made (Ok new) given e done = refl
is_made (Err refusal) given e done = absurd (let no : outcome_of (Err refusal) ≡ Done = sym e ∙ done in cc)

pub is_refused : (change : Result PageState Refusal) (given : Outcome) (error : DomError) → given ≡ outcome_of change → given ≡ Refused error → is_ok change ≡ false
is_refused (Ok new) given error e refused = absurd (let no : Done ≡ Refused error = sym e ∙ refused in cc)
is_refused (Err refusal) given error e refused = refl

-- a change whose outcome is a refusal is refused
pub errs : (change : Result PageState Refusal) (given : Outcome) (error : DomError) → given ≡ outcome_of change → given ≡ Refused error → IsErr change
errs (Ok new) given error e refused = absurd (let no : Done ≡ Refused error = sym e ∙ refused in cc)
errs (Err refusal) given error e refused = refl

-- ---- a round

module _ (page : PageState) (filters : FilterSet) (tree : IsTree page.tree) (rows : List Taken) (are : rows ≡ round_of pattern_found (state_of page filters)) where
  -- the page without the rows, one after another, is the page behind the round
  pub behind_round : (new : PageState) → new ≡ record page { tree = without_each page.tree (map (λ row. row.node) rows) } →
      state_of new filters ≡ rounded pattern_found (state_of page filters)
  behind_round new at =
      ap (λ (p : PageState). state_of p filters)
      (at
      ∙ ap (λ (l : List Taken). record page { tree = without_each page.tree (map (λ row. row.node) l) }) are
      ∙ ap (λ (t : Tree). record page { tree = t }) (each-round pattern_found filters.active page.path page.tree 1 tree))

  -- a round without rows leaves the page as it is
  pub no_round : length rows ≡ 0 → state_of page filters ≡ rounded pattern_found (state_of page filters)
  no_round none = behind_round page (ap (λ (l : List Taken). record page { tree = without_each page.tree (map (λ row. row.node) l) }) (sym (nothing rows none)))
    where
      nothing : (l : List Taken) → length l ≡ 0 → l ≡ []
      nothing [] e = refl
      nothing (row ∷ l) e = absurd (let no : suc (length l) ≡ zero = e in cc)

  -- what the rows make dirty is asked within the bound of the round
  pub round_asks : budget_of (state_of (record page { tree = without_each page.tree (map (λ row. row.node) rows) }) filters) (dirtied_without (map (λ row. row.node) rows) (state_of page filters))
      ≡ round_budget (state_of page filters)
  round_asks =
      ap₂ (λ (s : State) (l : List Taken). budget_of s (dirtied_without (map (λ row. row.node) l) (state_of page filters)))
      (behind_round (record page { tree = without_each page.tree (map (λ row. row.node) rows) }) refl) are
