-- The numbers of patterns have no part in what a page costs.
use Rattle.std.proofs.Common.{◌≡◌, ◌∙◌, ℕ, zero, suc, ◌+◌, ◌*◌, ◌&&◌, ◌||◌, max, Bool, true, cond, List, [], ◌∷◌, map, filter, length, not, Option, Some, None, Result, Ok, Err, refl, ap, ap₂}
use Rattle.std.specs.Prelude.{is_ok, option_map, slice_get, unwrap_or}
use Rattle.std.specs.List.{list_any}
use Rattle.std.proofs.lemmas.List.{length-map}
use Rattle.std.proofs.lemmas.Option.{slice_get-map}
use Rattle.page_tree.specs.Forest.{Tree}
use Rattle.page_tree.specs.Standings.{above, all}
use Rattle.page_tree.specs.Directions.{is_in}
use Rattle.page_tree.specs.Edits.{pruned}
use Rattle.page_tree.specs.Refusals.{Refusal}
use Rattle.cos_patterns.specs.Found.{pattern_found}
use Rattle.cos_source.specs.Lines.{lines_of, numbered}
use Rattle.selector_tree.specs.declared.filter.Action.TheVariants.{Remove}
use Rattle.selector_tree.specs.declared.filter.Filter.{Filter}
use Rattle.selector_tree.specs.declared.filter.Taken.{Taken}
use Rattle.selector_tree.specs.declared.selector.Step.{Step}
use Rattle.selector_tree.specs.Unnumbered.{unnumbered}
use Rattle.selector_meaning.specs.Hidden.{places_from, with_row, rows_of}
use Rattle.selector_meaning.specs.Meaning.{selects}
use Rattle.selector_meaning.proofs.Unnumbered.{unnumbered_selects}
use Rattle.procedural_ops.specs.Told.{selector_at}
use Rattle.generic_tables.specs.Keys.{is_keyed}
use Rattle.sensor_meaning.specs.declared.change.Change.{Change}
use Rattle.sensor_meaning.specs.Dirty.{dirty}
use Rattle.sensor_meaning.specs.Sensors.{Sensors, sensors}
use Rattle.mutation_script.specs.declared.mutation.Mutation.{Mutation}
use Rattle.mutation_script.specs.declared.mutation.Mutation.TheVariants.{Delete}
use Rattle.mutation_script.specs.declared.mutation.ScriptLine.{ScriptLine}
use Rattle.mutation_script.specs.declared.mutation.ScriptLine.TheVariants as says
use Rattle.mutation_script.specs.declared.page.PageState.{PageState}
use Rattle.mutation_script.specs.Lines.{script_line}
use Rattle.mutation_script.specs.Changes.{change}
use Rattle.engine_meaning.specs.Filters.{has_action}
use Rattle.engine_meaning.specs.Hidden.{acted_on}
use Rattle.engine_meaning.specs.Rounds.{round, taken_row}
use Rattle.engine_meaning.specs.States.{State, mutated, rounded, round_of}
use Rattle.retest.specs.Priced.{most_tests, price}
use Rattle.retest_laws.specs.Pending.{Pairs, budget}
use Rattle.hide_engine.specs.Budgets.{budget_of, carried, event_budget, round_budget, start_budget}
use Rattle.hide_engine.specs.Changes.{change_of, dirtied_by, dirtied_without, is_dirty}
use Rattle.hide_engine.proofs.Counting.{same_budget}
use Rattle.remove_rounds.specs.Costs.{Costs, questions, rounds_cost, settling_cost, single_tests}
use Rattle.command_meaning.specs.Numbers.{unnumbered_filter, unnumbered_state}
use Rattle.command_meaning.specs.Report.{after_line, by_change, settling}
use Rattle.command_meaning.proofs.Pages.{same_settled}
use Rattle.page_steps.specs.Costs.{change_cost, line_cost, lines_cost, script_cost}
use Rattle.generic_tables.proofs.Unnumbered.{unnumbered_keyed}
use Rattle.page_steps.proofs.Patterns.{unnumbered_sensors, unnumbered_tests}

-- ---- rounds lead to the same page

places_alike : {F : Type 0} (g : F → F) (p : F → Bool) → ((f : F) → p (g f) ≡ p f) → (n : ℕ) (items : List F) → places_from n p (map g items) ≡ places_from n p items
places_alike g p h n [] = refl
places_alike g p h n (f ∷ items) = ap₂ (λ (b : Bool) (ns : List ℕ). cond b (n ∷ ns) ns) (h f) (places_alike g p h (suc n) items)

rows_alike : {F : Type 0} (g : F → F) (chooses : F → ℕ → Bool) → ((f : F) (x : ℕ) → chooses (g f) x ≡ chooses f x) → (items : List F) (xs : List ℕ) →
    rows_of chooses (map g items) xs ≡ rows_of chooses items xs
rows_alike g chooses h items [] = refl
rows_alike g chooses h items (x ∷ xs) =
    ap₂ (with_row x) (places_alike g (λ f. chooses f x) (λ f. h f x) 0 items) (rows_alike g chooses h items xs)

module _ (s : State) where
  same_acted : acted_on pattern_found (map unnumbered_filter s.filters) s.page.path s.page.tree Remove ≡ acted_on pattern_found s.filters s.page.path s.page.tree Remove
  same_acted =
      rows_alike unnumbered_filter (λ f x. has_action Remove f && selects pattern_found s.page.tree s.page.path f.selector x)
      (λ f x. ap (λ (b : Bool). has_action Remove f && b) (unnumbered_selects pattern_found s.page.tree s.page.path f.selector x)) s.filters (all s.page.tree)

  same_rounded : rounded pattern_found (unnumbered_state s) ≡ unnumbered_state (rounded pattern_found s)
  same_rounded =
      ap (λ (rows : List (ℕ × List ℕ)).
      record { page = record s.page { tree = record { nodes = pruned (is_in (map (λ row. row.0) rows)) s.page.tree.nodes; next = s.page.tree.next } }; filters = map unnumbered_filter s.filters })
      same_acted

  same_round_of : round_of pattern_found (unnumbered_state s) ≡ round_of pattern_found s
  same_round_of =
      ap (λ (rows : List (ℕ × List ℕ)).
      map (taken_row pattern_found s.filters s.page.path s.page.tree 1) (filter (λ row. not (list_any (is_in (map (λ row. row.0) rows)) (above s.page.tree row.0))) rows)) same_acted

-- ---- budgets

selector_bare : (filters : List Filter) (f : ℕ) → selector_at (map unnumbered_filter filters) f ≡ unnumbered (selector_at filters f)
selector_bare filters f =
    ap (λ (o : Option Filter). unwrap_or (option_map (λ (g : Filter). g.selector) o) []) (slice_get-map unnumbered_filter filters f) ∙ by (slice_get filters f)
  where
    by : (o : Option Filter) → unwrap_or (option_map (λ (g : Filter). g.selector) (option_map unnumbered_filter o)) [] ≡ unnumbered (unwrap_or (option_map (λ (g : Filter). g.selector) o) [])
    by None = refl
    by (Some g) = refl

carried_bare : (s : State) (f x : ℕ) → carried (unnumbered_state s) f x ≡ carried s f x
carried_bare s f x =
    ap (λ (l : List (List Step)). is_keyed s.page.tree l x) (selector_bare s.filters f) ∙ unnumbered_keyed s.page.tree (selector_at s.filters f) x

budget_bare : (s : State) (given others : Pairs) → ((f x : ℕ) → given f x ≡ others f x) → budget_of (unnumbered_state s) given ≡ budget_of s others
budget_bare s given others same =
    ap (λ n. budget n (all s.page.tree) (carried (unnumbered_state s)) given) (length-map s.filters unnumbered_filter)
    ∙ same_budget (length s.filters) (carried (unnumbered_state s)) (carried s) given others (λ f x. ap₂ ◌&&◌ (same f x) (carried_bare s f x)) (all s.page.tree)

dirty_bare : (c : Change) (s : State) (f x : ℕ) → is_dirty c (unnumbered_state s) f x ≡ is_dirty c s f x
dirty_bare c s f x =
    ap (λ (r : Sensors). is_in (dirty c s.page.tree r) x)
    (ap (λ (l : List (List Step)). sensors l) (selector_bare s.filters f) ∙ unnumbered_sensors (selector_at s.filters f))

dirtied_bare : (mutation : Mutation) (s : State) (f x : ℕ) → dirtied_by mutation (unnumbered_state s) f x ≡ dirtied_by mutation s f x
dirtied_bare mutation s f x =
    ap (λ b. is_ok (change mutation s.page) && b) (dirty_bare (change_of mutation s.page.tree) (mutated mutation s) f x)

without_bare : (ns : List ℕ) (s : State) (f x : ℕ) → dirtied_without ns (unnumbered_state s) f x ≡ dirtied_without ns s f x
without_bare [] s f x = refl
without_bare (n ∷ ns) s f x = ap₂ ◌||◌ (dirtied_bare (Delete n) s f x) (without_bare ns (mutated (Delete n) s) f x)

start_bare : (s : State) → start_budget (unnumbered_state s) ≡ start_budget s
start_bare s = budget_bare s (λ f x. true) (λ f x. true) (λ f x. refl)

event_bare : (mutation : Mutation) (s : State) → event_budget mutation (unnumbered_state s) ≡ event_budget mutation s
event_bare mutation s = budget_bare (mutated mutation s) (dirtied_by mutation (unnumbered_state s)) (dirtied_by mutation s) (dirtied_bare mutation s)

abbrev nodes_of : List Taken → List ℕ
nodes_of rows = map (λ (row : Taken). row.node) rows

round_bare : (s : State) → round_budget (unnumbered_state s) ≡ round_budget s
round_bare s =
    ap₂ (λ (behind : State) (rows : List Taken). budget_of behind (dirtied_without (nodes_of rows) (unnumbered_state s))) (same_rounded s) (same_round_of s)
    ∙ budget_bare (rounded pattern_found s) (dirtied_without (nodes_of (round_of pattern_found s)) (unnumbered_state s)) (dirtied_without (nodes_of (round_of pattern_found s)) s)
    (without_bare (nodes_of (round_of pattern_found s)) s)

price_bare : (filters : List Filter) (t : Tree) → price (map unnumbered_filter filters) t ≡ price filters t
unfolding price
price_bare filters t = ap (λ n. n * length (all t)) (most filters)
  where
    most : (filters : List Filter) → most_tests (map unnumbered_filter filters) ≡ most_tests filters
    most [] = refl
    most (f ∷ filters) = ap₂ max (unnumbered_tests f.selector) (most filters)

-- ---- costs

-- what does not hang on the numbers of patterns
pub record IgnoresNumbers (costs : Costs) : Type 0 where
  pub start : (s : State) → costs.start (unnumbered_state s) ≡ costs.start s
  pub event : (mutation : Mutation) (s : State) → costs.event mutation (unnumbered_state s) ≡ costs.event mutation s
  pub round : (s : State) → costs.round (unnumbered_state s) ≡ costs.round s

pub questions_bare : IgnoresNumbers questions
unfolding questions
questions_bare = record { start = start_bare; event = event_bare; round = round_bare }

pub singles_bare : IgnoresNumbers single_tests
unfolding single_tests
singles_bare = record {
  start = λ s. ap₂ ◌*◌ (start_bare s) (price_bare s.filters s.page.tree);
  event = λ mutation s. ap₂ ◌*◌ (event_bare mutation s) (price_bare s.filters (mutated mutation s).page.tree);
  round = λ s. ap₂ ◌*◌ (round_bare s) (ap (λ (r : State). price (map unnumbered_filter s.filters) r.page.tree) (same_rounded s) ∙ price_bare s.filters (rounded pattern_found s).page.tree);
}

module _ (costs : Costs) (same : IgnoresNumbers costs) where
  rounds_bare : (n : ℕ) (s : State) → rounds_cost costs n (unnumbered_state s) ≡ rounds_cost costs n s
  rounds_bare zero s = refl
  rounds_bare (suc n) s = ap₂ ◌+◌ (same.round s) (ap (rounds_cost costs n) (same_rounded s) ∙ rounds_bare n (rounded pattern_found s))

  settling_bare : (s : State) → settling_cost costs (unnumbered_state s) ≡ settling_cost costs s
  settling_bare s = rounds_bare (length (all s.page.tree)) s

  change_bare : (mutation : Mutation) (changed : Result PageState Refusal) (s : State) → change_cost costs mutation changed (unnumbered_state s) ≡ change_cost costs mutation changed s
  change_bare mutation (Ok page) s = ap₂ ◌+◌ (same.event mutation s) (settling_bare (record s { page = page }))
  change_bare mutation (Err refusal) s = refl

  line_bare : (read : ScriptLine) (s : State) → line_cost costs read (unnumbered_state s) ≡ line_cost costs read s
  line_bare (says.Mutation mutation) s = change_bare mutation (change mutation s.page) s
  line_bare says.Blank s = refl
  line_bare (says.Bad cause) s = refl

  behind_change : (changed : Result PageState Refusal) (s : State) → (by_change changed (unnumbered_state s)).state ≡ unnumbered_state (by_change changed s).state
  behind_change (Ok page) s = same_settled (record s { page = page })
  behind_change (Err refusal) s = refl

  behind_line : (read : ScriptLine) (s : State) → (after_line read (unnumbered_state s)).state ≡ unnumbered_state (after_line read s).state
  behind_line (says.Mutation mutation) s = behind_change (change mutation s.page) s
  behind_line says.Blank s = refl
  behind_line (says.Bad cause) s = refl

  lines_bare : (s : State) (lines : List (ℕ × List ℕ)) → lines_cost costs (unnumbered_state s) lines ≡ lines_cost costs s lines
  lines_bare s [] = refl
  lines_bare s (line ∷ lines) =
      ap₂ ◌+◌ (line_bare (script_line line.1) s)
      (ap (λ (x : State). lines_cost costs x lines) (behind_line (script_line line.1) s) ∙ lines_bare (after_line (script_line line.1) s).state lines)

  -- a script costs the same
  pub script_bare : (s : State) (script : List ℕ) → script_cost costs (unnumbered_state s) script ≡ script_cost costs s script
  unfolding script_cost
  script_bare s script =
      ap₂ ◌+◌ (settling_bare s)
      (ap (λ (x : State). lines_cost costs x (numbered 1 (lines_of script))) (same_settled s) ∙ lines_bare (settling s).state (numbered 1 (lines_of script)))
