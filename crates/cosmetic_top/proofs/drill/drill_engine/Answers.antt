use Rattle.std.proofs.Common.{◌∙◌, ◌+◌, ◌≤◌, List, ℕ, ap, ap₂, subst}
use Rattle.selector_tree.specs.declared.filter.Filter.{Filter}
use Rattle.address_patterns.specs.declared.page.Page.{Page}
use Rattle.hostname_buckets.specs.Active.{active_among, entries_of}
use Rattle.engine_meaning.specs.States.{State}
use Rattle.hide_engine.specs.Budgets.{start_budget, start_tests}
use Rattle.remove_rounds.proofs.Spending.{start_questions, start_singles}
use Rattle.command_meaning.specs.Report.{drill_address}
use Rattle.cosmetic_top.specs.Reports.{state_of}
use Rattle.cosmetic_top.proofs.Parts.{if_ok_then}
use Rattle.cosmetic_top.proofs.drill.drill_engine.Goals as goal

pub returns-clause-engine : goal.returns-clause-engine
returns-clause-engine g c =
    let read = c.args.read in
    if_ok_then c.start.result (λ (s : State) e. e
    ∙ ap₂ (λ (path : List ℕ) (filters : List Filter). record { page = record { tree = c.args.tree; path = path }; filters = filters })
    (ap (λ (page : Page). page.path) c.in_ok-page.ensures)
    (c.in_ok-active.ensures.active ∙ ap (λ (page : Page). active_among (entries_of read.lists) page read.rules) c.in_ok-page.ensures))
    c.start.ensures.engine

pub returns-clause-checks : goal.returns-clause-checks
returns-clause-checks g c =
    let read = c.args.read in
    subst (λ n. c.start.new.checks ≤ c.args.checks.now + n)
    (ap₂ (λ (path : List ℕ) (filters : List Filter). start_budget (record { page = record { tree = c.args.tree; path = path }; filters = filters }))
    (ap (λ (page : Page). page.path) c.in_ok-page.ensures)
    (c.in_ok-active.ensures.active ∙ ap (λ (page : Page). active_among (entries_of read.lists) page read.rules) c.in_ok-page.ensures)
    ∙ start_questions (state_of drill_address c.args.tree read))
    c.start.ensures.checks

pub returns-clause-parts : goal.returns-clause-parts
returns-clause-parts g c =
    let read = c.args.read in
    subst (λ n. c.start.new.parts ≤ c.args.parts.now + n)
    (ap₂ (λ (path : List ℕ) (filters : List Filter). start_tests (record { page = record { tree = c.args.tree; path = path }; filters = filters }))
    (ap (λ (page : Page). page.path) c.in_ok-page.ensures)
    (c.in_ok-active.ensures.active ∙ ap (λ (page : Page). active_among (entries_of read.lists) page read.rules) c.in_ok-page.ensures)
    ∙ start_singles (state_of drill_address c.args.tree read))
    c.start.ensures.parts
