use Rattle.std.proofs.Common.{◌∙◌, ◌+◌, ◌≤◌, List, [], ℕ, ap, ap₂, subst}
use Rattle.cos_source.specs.Lines.{lines_of, numbered}
use Rattle.cos_source.specs.Mark.{without_mark}
use Rattle.host_names.specs.Suffixes.{rest}
use Rattle.host_names.specs.SuffixLines.{rules_of}
use Rattle.selector_tree.specs.declared.filter.Filter.{Filter}
use Rattle.engine_meaning.specs.States.{State}
use Rattle.command_inputs.specs.declared.inputs.Sources.{Sources}
use Rattle.command_meaning.specs.Report.{drill_address, lists_from}
use Rattle.remove_rounds.specs.Costs.{questions, single_tests}
use Rattle.page_steps.proofs.Unnumbered.{questions_bare, singles_bare}
use Rattle.cosmetic_top.specs.Reports.{IsDrillState, state_of}
use Rattle.cosmetic_top.proofs.Parts.{if_ok_then}
use Rattle.cosmetic_top.proofs.Spending.{drill_start}
use Rattle.cosmetic_top.proofs.Texts.{same_active}
use Rattle.cosmetic_top.proofs.drill.opened.Goals as goal

pub returns-clause-state : goal.returns-clause-state
returns-clause-state g c =
    let large = g.M.Maker.large c.read_sources-2.new.maker in
    let unread = g.M.Maker.unread c.read_sources-2.new.maker in
    let read = c.in_ok-read.read in
    let made = c.in_ok-sources.ensures in
    if_ok_then c.drill_engine.result (λ (s : State) e. record {
      lists = read.lists;
      read = c.in_ok-read.ensures.lists
          ∙ ap₂ (λ (env files : List (List ℕ)). lists_from env large unread 1 files) c.new.ensures (ap (λ (from : Sources). from.lists) made);
      state = e ∙ ap (λ (filters : List Filter). record { page = record { tree = c.args.tree; path = drill_address.path }; filters = filters })
          (same_active read.lists drill_address read.rules [] (λ host. c.in_ok-read.ensures.rules host
          ∙ ap (λ (from : Sources). rest (rules_of (numbered 1 (lines_of (without_mark from.suffixes)))) host) made));
    }) c.drill_engine.ensures.engine

pub returns-clause-checks : goal.returns-clause-checks
returns-clause-checks g c =
    let large = g.M.Maker.large c.read_sources-2.new.maker in
    let unread = g.M.Maker.unread c.read_sources-2.new.maker in
    let read = c.in_ok-read.read in
    let made = c.in_ok-sources.ensures in
    let s = state_of drill_address c.args.tree read in
    let is : IsDrillState large unread c.args.tree s = record {
      lists = read.lists;
      read = c.in_ok-read.ensures.lists
          ∙ ap₂ (λ (env files : List (List ℕ)). lists_from env large unread 1 files) c.new.ensures (ap (λ (from : Sources). from.lists) made);
      state = ap (λ (filters : List Filter). record { page = record { tree = c.args.tree; path = drill_address.path }; filters = filters })
          (same_active read.lists drill_address read.rules [] (λ host. c.in_ok-read.ensures.rules host
          ∙ ap (λ (from : Sources). rest (rules_of (numbered 1 (lines_of (without_mark from.suffixes)))) host) made));
    } in
    subst (λ n. c.drill_engine.new.checks ≤ c.args.checks.now + n) (drill_start s is questions questions_bare) c.drill_engine.ensures.checks

pub returns-clause-parts : goal.returns-clause-parts
returns-clause-parts g c =
    let large = g.M.Maker.large c.read_sources-2.new.maker in
    let unread = g.M.Maker.unread c.read_sources-2.new.maker in
    let read = c.in_ok-read.read in
    let made = c.in_ok-sources.ensures in
    let s = state_of drill_address c.args.tree read in
    let is : IsDrillState large unread c.args.tree s = record {
      lists = read.lists;
      read = c.in_ok-read.ensures.lists
          ∙ ap₂ (λ (env files : List (List ℕ)). lists_from env large unread 1 files) c.new.ensures (ap (λ (from : Sources). from.lists) made);
      state = ap (λ (filters : List Filter). record { page = record { tree = c.args.tree; path = drill_address.path }; filters = filters })
          (same_active read.lists drill_address read.rules [] (λ host. c.in_ok-read.ensures.rules host
          ∙ ap (λ (from : Sources). rest (rules_of (numbered 1 (lines_of (without_mark from.suffixes)))) host) made));
    } in
    subst (λ n. c.drill_engine.new.parts ≤ c.args.parts.now + n) (drill_start s is single_tests singles_bare) c.drill_engine.ensures.parts
