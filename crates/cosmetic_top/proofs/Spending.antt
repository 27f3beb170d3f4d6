-- What was read costs what is due of the files, and a page costs its opening and then its script.
use Rattle.std.proofs.Common.{◌≡◌, ◌∙◌, ℕ, ◌+◌, ◌≤◌, List, [], map, Option, Some, Result, Ok, sym, ap, ap₂, arith}
use Rattle.page_tree.specs.Forest.{Tree}
use Rattle.cos_source.specs.Lines.{lines_of, numbered}
use Rattle.cos_source.specs.Mark.{without_mark}
use Rattle.cos_patterns.specs.declared.written.Asked.{Asked}
use Rattle.cos_patterns.specs.declared.written.Written.{Written}
use Rattle.host_names.specs.Suffixes.{rest}
use Rattle.host_names.specs.SuffixLines.{rules_of}
use Rattle.hostname_buckets.specs.Active.{active_with, entries_of}
use Rattle.list_entries.specs.declared.entry.ListRead.{ListRead}
use Rattle.selector_tree.specs.declared.filter.Filter.{Filter}
use Rattle.engine_meaning.specs.States.{State}
use Rattle.remove_rounds.specs.Costs.{Costs}
use Rattle.page_steps.specs.Costs.{script_cost}
use Rattle.page_steps.proofs.Unnumbered.{IgnoresNumbers, script_bare}
use Rattle.command_words.specs.declared.command.Apply.{Apply}
use Rattle.command_words.specs.declared.command.Command.{Command}
use Rattle.command_inputs.specs.declared.inputs.ApplyInputs.{ApplyInputs}
use Rattle.command_inputs.specs.declared.status.Status.{Status}
use Rattle.command_inputs.specs.Due.{Files}
use Rattle.command_meaning.specs.Numbers.{unnumbered_list, unnumbered_state}
use Rattle.command_meaning.specs.Generator.{drill_script}
use Rattle.command_meaning.specs.Report.{drill_address, drill_inputs, lists_from, opened_state}
use Rattle.command_meaning.proofs.Active.{active_unnumbered}
use Rattle.list_files.specs.declared.reading.SourcesRead.{SourcesRead}
use Rattle.cosmetic_top.specs.Costs.{apply_cost, command_cost, drill_cost, drill_state, page_cost, words_cost}
use Rattle.cosmetic_top.specs.Reports.{IsDrillState, state_of}

-- ---- the opening of a page, and then its script

module _ (costs : Costs) where
  -- want of memory before the script
  pub opening_spent : (s : State) (script : List ℕ) (was now opening : ℕ) → opening ≡ costs.start s → now ≤ was + opening → now ≤ was + page_cost costs s script
  unfolding page_cost
  opening_spent s script was now opening is within = omega arith

  pub page_spent : (s engine : State) (script given : List ℕ) (was mid now opening : ℕ) → opening ≡ costs.start s → mid ≤ was + opening →
      engine ≡ s → given ≡ script → now ≤ mid + script_cost costs engine given → now ≤ was + page_cost costs s script
  unfolding page_cost
  page_spent s engine script given was mid now opening is first at same rest =
      let cost : script_cost costs engine given ≡ script_cost costs s script = ap₂ (script_cost costs) at same in
      omega arith

-- ---- what was read

module _ (env : List (List ℕ)) (large : List Asked) (unread : List Written) (inputs : ApplyInputs) (read : SourcesRead)
    (rules : (host : List ℕ) → rest read.rules host ≡ rest (rules_of (numbered 1 (lines_of (without_mark inputs.sources.suffixes)))) host)
    (lists : map unnumbered_list read.lists ≡ lists_from env large unread 1 inputs.sources.lists) where
  abbrev with_filters : List Filter → State
  with_filters filters = record { page = record { tree = inputs.tree; path = inputs.page.path }; filters = filters }

  opened_is : state_of inputs.page inputs.tree read ≡ opened_state inputs read.lists
  opened_is = ap (λ r. with_filters (active_with (entries_of read.lists) inputs.page r)) (rules inputs.page.host)

  opened_bare : opened_state inputs (map unnumbered_list read.lists) ≡ unnumbered_state (opened_state inputs read.lists)
  opened_bare = ap with_filters (active_unnumbered read.lists inputs.page (rules_of (numbered 1 (lines_of (without_mark inputs.sources.suffixes)))))

  module _ (costs : Costs) (same : IgnoresNumbers costs) where
    page_bare : (s : State) (script : List ℕ) → page_cost costs (unnumbered_state s) script ≡ page_cost costs s script
    unfolding page_cost
    page_bare s script = ap₂ ◌+◌ (same.start s) (script_bare costs same s script)

    pub read_costs : (script : List ℕ) → page_cost costs (state_of inputs.page inputs.tree read) script ≡ page_cost costs (opened_state inputs (lists_from env large unread 1 inputs.sources.lists)) script
    read_costs script =
        ap (λ (s : State). page_cost costs s script) opened_is
        ∙ sym (page_bare (opened_state inputs read.lists) script)
        ∙ ap (λ (s : State). page_cost costs s script) (sym opened_bare)
        ∙ ap (λ (l : List ListRead). page_cost costs (opened_state inputs l) script) lists

    -- within what is due of the files
    pub due_costs : (words : Apply) (answer : Result ApplyInputs Status) (was now : ℕ) → words.env ≡ env → answer ≡ Ok inputs →
        now ≤ was + page_cost costs (state_of inputs.page inputs.tree read) (without_mark inputs.script) → now ≤ was + apply_cost costs words answer large unread
    due_costs words answer was now given is within =
        let cost : page_cost costs (state_of inputs.page inputs.tree read) (without_mark inputs.script) ≡ apply_cost costs words answer large unread =
        read_costs (without_mark inputs.script)
        ∙ ap (λ (e : List (List ℕ)). page_cost costs (opened_state inputs (lists_from e large unread 1 inputs.sources.lists)) (without_mark inputs.script)) (sym given)
        ∙ ap (λ (a : Result ApplyInputs Status). apply_cost costs words a large unread) (sym is) in
        omega arith

-- what a command costs that the words say
pub words_costs : (costs : Costs) (command : Option Command) (words : Command) (files : Files) (large : List Asked) (unread : List Written) → command ≡ Some words →
    command_cost costs words files large unread ≡ words_cost costs command files large unread
unfolding words_cost
words_costs costs command words files large unread e = ap (λ (o : Option Command). words_cost costs o files large unread) (sym e)

-- ---- a drill

module _ {large : List Asked} {unread : List Written} {tree : Tree} (s : State) (h : IsDrillState large unread tree s) (costs : Costs) (same : IgnoresNumbers costs) where
  abbrev drill_filters : List Filter → State
  drill_filters filters = record { page = record { tree = tree; path = drill_address.path }; filters = filters }

  drill_bare : opened_state (drill_inputs 0 tree) (map unnumbered_list h.lists) ≡ unnumbered_state (opened_state (drill_inputs 0 tree) h.lists)
  drill_bare = ap drill_filters (active_unnumbered h.lists drill_address (rules_of (numbered 1 (lines_of (without_mark [])))))

  -- whatever hangs on the page without the numbers of patterns
  drill_alike : (cost : State → ℕ) → ((x : State) → cost (unnumbered_state x) ≡ cost x) → cost s ≡ cost (drill_state large unread tree)
  drill_alike cost bare =
      ap cost h.state ∙ sym (bare (opened_state (drill_inputs 0 tree) h.lists)) ∙ ap cost (sym drill_bare)
      ∙ ap (λ (l : List ListRead). cost (opened_state (drill_inputs 0 tree) l)) h.read

  pub drill_start : costs.start s ≡ costs.start (drill_state large unread tree)
  drill_start = drill_alike costs.start same.start

  -- the opening, and then the script
  pub drill_spent : (number : ℕ) (answer : Result Tree Status) (was mid now : ℕ) → answer ≡ Ok tree → mid ≤ was + costs.start (drill_state large unread tree) →
      now ≤ mid + script_cost costs s (drill_script number) → now ≤ was + drill_cost costs number answer large unread
  unfolding page_cost
  drill_spent number answer was mid now is first rest =
      let script : script_cost costs s (drill_script number) ≡ script_cost costs (drill_state large unread tree) (drill_script number) =
      drill_alike (λ (x : State). script_cost costs x (drill_script number)) (λ x. script_bare costs same x (drill_script number)) in
      let cost : drill_cost costs number answer large unread ≡ costs.start (drill_state large unread tree) + script_cost costs (drill_state large unread tree) (drill_script number) =
      ap (λ (a : Result Tree Status). drill_cost costs number a large unread) is in
      omega arith

-- want of memory before the script
pub drill_opening : (costs : Costs) (large : List Asked) (unread : List Written) (tree : Tree) (number : ℕ) (answer : Result Tree Status) (was now : ℕ) → answer ≡ Ok tree →
    now ≤ was + costs.start (drill_state large unread tree) → now ≤ was + drill_cost costs number answer large unread
unfolding page_cost
drill_opening costs large unread tree number answer was now is first =
    let cost : drill_cost costs number answer large unread ≡ costs.start (drill_state large unread tree) + script_cost costs (drill_state large unread tree) (drill_script number) =
    ap (λ (a : Result Tree Status). drill_cost costs number a large unread) is in
    omega arith
