-- The numbers of patterns have no part in what is written.
use Rattle.std.proofs.Common.{◌≡◌, ℕ, ◌+◌, ◌++◌, Bool, cond, List, [], ◌∷◌, length, map, codes, decimal, flat_map, option_map, slice_get, Option, Some, None, Result, Ok, Err, refl, ap, ap₂, ◌∙◌}
use mathlib.Core.Path.{fun_ext}
use Rattle.std.specs.Prelude.{count_by}
use Rattle.std.specs.List.{fold}
use Rattle.std.proofs.lemmas.List.{length-map}
use Rattle.std.proofs.lemmas.List.Folds.{flat_map-map}
use Rattle.std.proofs.lemmas.Option.{slice_get-map}
use Rattle.cos_source.specs.Lines.{lines_of, numbered}
use Rattle.cos_source.specs.Mark.{without_mark}
use Rattle.cos_patterns.specs.Found.{pattern_found}
use Rattle.page_tree.specs.Forest.{size}
use Rattle.page_tree.specs.Standings.{name}
use Rattle.page_tree.specs.Refusals.{Refusal}
use Rattle.host_names.specs.SuffixLines.{rules_of}
use Rattle.list_entries.specs.declared.entry.Entry.{Entry}
use Rattle.list_entries.specs.declared.entry.Entry.TheVariants as entry
use Rattle.list_entries.specs.declared.entry.ListRead.{ListRead}
use Rattle.list_reader.specs.Entries.{unnumbered_entry}
use Rattle.selector_tree.specs.declared.filter.Filter.{Filter}
use Rattle.selector_tree.specs.declared.filter.Taken.{Taken}
use Rattle.mutation_script.specs.declared.answer.Answer.{Answer}
use Rattle.mutation_script.specs.declared.answer.Answer.TheVariants.{Opened}
use Rattle.mutation_script.specs.declared.mutation.ScriptLine.{ScriptLine}
use Rattle.mutation_script.specs.declared.mutation.ScriptLine.TheVariants as says
use Rattle.mutation_script.specs.declared.page.PageState.{PageState}
use Rattle.mutation_script.specs.Lines.{script_line}
use Rattle.mutation_script.specs.Changes.{answer, change}
use Rattle.engine_meaning.specs.States.{State, hidden_of}
use Rattle.hide_report.specs.Answers.{answer_name}
use Rattle.hide_report.specs.Texts.{count_of, count_text, counts_text, drill_text, end_text, exceptions_text, filter_text, filters_text, head_text, hidden_line, is_exception, is_filter, is_page_option, notices_text, options_text, place_text, spaced_name, step_line, unless_brief}
use Rattle.command_inputs.specs.declared.inputs.ApplyInputs.{ApplyInputs}
use Rattle.command_meaning.specs.Laws.{ApplyUnnumbered, DrillUnnumbered, ListsUnnumbered}
use Rattle.command_meaning.specs.Numbers.{unnumbered_filter, unnumbered_list, unnumbered_state}
use Rattle.command_meaning.specs.Report.{Drilled, Step, after_line, by_change, drill_inputs, drilled_by, lines_texts, lists_texts, notices_texts, opened_state, settling, steps_texts, suffixes_text, text_of_step}
use Rattle.command_meaning.proofs.Active.{active_unnumbered}
use Rattle.command_meaning.proofs.Pages.{same_hidden, same_settled, same_taken_of}

-- ---- steps

abbrev unnumbered_step : Step → Step
unnumbered_step step = record step { state = unnumbered_state step.state }

abbrev step_of : State → List Taken → Step
step_of state taken = record { state = state; taken = taken }

same_settling : (s : State) → settling (unnumbered_state s) ≡ unnumbered_step (settling s)
same_settling s = ap₂ step_of (same_settled s) (same_taken_of s)

same_change : (result : Result PageState Refusal) (s : State) → by_change result (unnumbered_state s) ≡ unnumbered_step (by_change result s)
same_change (Ok page) s = same_settling (record s { page = page })
same_change (Err refusal) s = refl

same_line : (read : ScriptLine) (s : State) → after_line read (unnumbered_state s) ≡ unnumbered_step (after_line read s)
same_line (says.Mutation mutation) s = same_change (change mutation s.page) s
same_line says.Blank s = refl
same_line (says.Bad cause) s = refl

-- ---- texts of steps

same_name : (o : Option Filter) → spaced_name (option_map unnumbered_filter o) ≡ spaced_name o
same_name None = refl
same_name (Some f) = refl

same_place : (filters : List Filter) → place_text (map unnumbered_filter filters) ≡ place_text filters
same_place filters = fun_ext (λ place. ap spaced_name (slice_get-map unnumbered_filter filters place) ∙ same_name (slice_get filters place))

abbrev step_by : Bool → ℕ → Answer → Step → (ℕ → List ℕ) → List (ℕ × List ℕ) → List ℕ
step_by brief number given step place rows =
    step_line number (answer_name given)
    ++ flat_map (λ (t : Taken). codes "taken " ++ decimal t.round ++ codes " " ++ decimal t.node ++ codes " " ++ t.name ++ (flat_map place t.filters ++ codes "\n")) step.taken
    ++ (hidden_line (length rows)
    ++ unless_brief brief (flat_map (λ (row : ℕ × List ℕ). codes " " ++ decimal row.0 ++ codes " " ++ name step.state.page.tree row.0 ++ (flat_map place row.1 ++ codes "\n")) rows))

same_step : (brief : Bool) (number : ℕ) (given : Answer) (step : Step) → text_of_step brief number given (unnumbered_step step) ≡ text_of_step brief number given step
same_step brief number given step = ap₂ (step_by brief number given step) (same_place step.state.filters) (same_hidden step.state)

abbrev then : Bool → ℕ → Answer → Step → List (ℕ × List ℕ) → List (List ℕ)
then brief number given step lines = text_of_step brief number given step ∷ lines_texts brief step.state lines

same_lines : (brief : Bool) (s : State) (lines : List (ℕ × List ℕ)) → lines_texts brief (unnumbered_state s) lines ≡ lines_texts brief s lines
same_lines brief s [] = refl
same_lines brief s (line ∷ lines) =
    let read = script_line line.1 in
    let step = after_line read s in
    ap (λ (step : Step). then brief line.0 (answer read s.page) step lines) (same_line read s)
    ∙ ap₂ ◌∷◌ (same_step brief line.0 (answer read s.page) step) (same_lines brief step.state lines)

same_steps : (brief : Bool) (s : State) (script : List ℕ) → steps_texts brief (unnumbered_state s) script ≡ steps_texts brief s script
same_steps brief s script =
    ap (λ (step : Step). then brief 0 Opened step (numbered 1 (lines_of script)) ++ end_text (length (lines_of script)) ∷ []) (same_settling s)
    ∙ ap₂ (λ (text : List ℕ) (texts : List (List ℕ)). text ∷ texts ++ end_text (length (lines_of script)) ∷ [])
    (same_step brief 0 Opened (settling s)) (same_lines brief (settling s).state (numbered 1 (lines_of script)))

same_head : (address : List ℕ) (filters : List Filter) (brief : Bool) → head_text address (map unnumbered_filter filters) brief ≡ head_text address filters brief
same_head address filters brief =
    ap₂ (λ (n : ℕ) (texts : List ℕ). count_text address n ++ unless_brief brief texts) (length-map filters unnumbered_filter) (flat_map-map filter_text unnumbered_filter filters)

-- ---- lists

same_notices : (number : ℕ) (lists : List ListRead) → lists_texts number (map unnumbered_list lists) ≡ lists_texts number lists
same_notices number [] = refl
same_notices number (list ∷ lists) = ap (λ (texts : List (List ℕ)). notices_text number list.notices ∷ texts) (same_notices (number + 1) lists)

fold_alike : {A B : Type 0} (g : A → A) (step : B → A → B) → ((b : B) (x : A) → step b (g x) ≡ step b x) → (b : B) (xs : List A) → fold step b (map g xs) ≡ fold step b xs
fold_alike g step h b [] = refl
fold_alike g step h b (x ∷ xs) = ap (λ b. fold step b (map g xs)) (h b x) ∙ fold_alike g step h (step b x) xs

same_count : (p : Entry → Bool) → ((e : Entry) → p (unnumbered_entry e) ≡ p e) → (entries : List Entry) → count_by p (map unnumbered_entry entries) ≡ count_by p entries
same_count p h entries = fold_alike unnumbered_entry (λ n e. n + cond (p e) 1 0) (λ n e. ap (λ (b : Bool). n + cond b 1 0) (h e)) 0 entries

same_sum : (p : Entry → Bool) → ((e : Entry) → p (unnumbered_entry e) ≡ p e) → (lists : List ListRead) → count_of p (map unnumbered_list lists) ≡ count_of p lists
same_sum p h lists =
    fold_alike unnumbered_list (λ n list. n + count_by p list.entries) (λ n list. ap (λ m. n + m) (same_count p h list.entries)) 0 lists

same_filter : (e : Entry) → is_filter (unnumbered_entry e) ≡ is_filter e
unfolding is_filter
same_filter (entry.Filter filter scope) = refl
same_filter (entry.Exception canonical scope) = refl
same_filter (entry.Page pattern domain options) = refl

same_exception : (e : Entry) → is_exception (unnumbered_entry e) ≡ is_exception e
unfolding is_exception
same_exception (entry.Filter filter scope) = refl
same_exception (entry.Exception canonical scope) = refl
same_exception (entry.Page pattern domain options) = refl

same_option : (e : Entry) → is_page_option (unnumbered_entry e) ≡ is_page_option e
unfolding is_page_option
same_option (entry.Filter filter scope) = refl
same_option (entry.Exception canonical scope) = refl
same_option (entry.Page pattern domain options) = refl

same_counts : (lists : List ListRead) → counts_text (map unnumbered_list lists) ≡ counts_text lists
same_counts lists =
    ap₂ (λ (text : List ℕ) (n : ℕ). text ++ options_text n)
    (ap₂ (λ (n m : ℕ). filters_text n ++ exceptions_text m) (same_sum is_filter same_filter lists) (same_sum is_exception same_exception lists))
    (same_sum is_page_option same_option lists)

pub lists_unnumbered : ListsUnnumbered
lists_unnumbered sources lists =
    ap₂ (λ (texts : List (List ℕ)) (text : List ℕ). suffixes_text sources.suffixes ∷ texts ++ text ∷ []) (same_notices 1 lists) (same_counts lists)

-- ---- whole reports

abbrev opened_with : ApplyInputs → List Filter → State
opened_with inputs filters = record { page = record { tree = inputs.tree; path = inputs.page.path }; filters = filters }

-- the page as it is opened has the same filters without their numbers
same_opened : (inputs : ApplyInputs) (lists : List ListRead) → opened_state inputs (map unnumbered_list lists) ≡ unnumbered_state (opened_state inputs lists)
same_opened inputs lists =
    ap (opened_with inputs)
    (active_unnumbered lists inputs.page (rules_of (numbered 1 (lines_of (without_mark inputs.sources.suffixes)))))

abbrev report_by : Bool → ApplyInputs → List (List ℕ) → State → List (List ℕ)
report_by brief inputs notices s = notices ++ (head_text inputs.page.address s.filters brief ∷ steps_texts brief s (without_mark inputs.script))

pub apply_unnumbered : ApplyUnnumbered
apply_unnumbered brief inputs lists =
    let s = opened_state inputs lists in
    ap₂ (λ (texts : List (List ℕ)) (state : State). report_by brief inputs (suffixes_text inputs.sources.suffixes ∷ texts) state) (same_notices 1 lists) (same_opened inputs lists)
    ∙ ap₂ (λ (head : List ℕ) (steps : List (List ℕ)). notices_texts inputs.sources lists ++ (head ∷ steps))
    (same_head inputs.page.address s.filters brief) (same_steps brief s (without_mark inputs.script))

-- ---- the drill

abbrev unnumbered_drilled : Drilled → Drilled
unnumbered_drilled d = record d { state = unnumbered_state d.state }

same_drilled : (d : Drilled) (lines : List (ℕ × List ℕ)) → drilled_by (unnumbered_drilled d) lines ≡ unnumbered_drilled (drilled_by d lines)
same_drilled d [] = refl
same_drilled d (line ∷ lines) =
    let step = after_line (script_line line.1) d.state in
    ap (λ (step : Step). drilled_by (record { state = step.state; taken = d.taken + length step.taken }) lines) (same_line (script_line line.1) d.state)
    ∙ same_drilled (record { state = step.state; taken = d.taken + length step.taken }) lines

abbrev drill_by : ℕ → Bool → Drilled → List (List ℕ)
drill_by number brief end =
    drill_text number (size end.state.page.tree.nodes) (length (numbered 1 (lines_of (drill_inputs number end.state.page.tree).script))) (length (hidden_of pattern_found end.state)) end.taken brief ∷ []

pub drill_unnumbered : DrillUnnumbered
drill_unnumbered number brief tree lists =
    let inputs = drill_inputs number tree in
    let opened = settling (opened_state inputs lists) in
    let lines = numbered 1 (lines_of inputs.script) in
    let end = drilled_by (record { state = opened.state; taken = length opened.taken }) lines in
    ap (λ (step : Step). drill_by number brief (drilled_by (record { state = step.state; taken = length step.taken }) lines))
    (ap settling (same_opened inputs lists) ∙ same_settling (opened_state inputs lists))
    ∙ ap (drill_by number brief) (same_drilled (record { state = opened.state; taken = length opened.taken }) lines)
    ∙ ap (λ (n : ℕ). drill_text number (size end.state.page.tree.nodes) (length lines) n end.taken brief ∷ []) (ap length (same_hidden end.state))
