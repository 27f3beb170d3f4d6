use Rattle.std.proofs.Common.{◌≤◌, ◌+◌, ◌∙◌, true, IfOk, length, ap}
use Rattle.cos_patterns.specs.Found.{pattern_found}
use Rattle.page_tree.specs.Standings.{all}
use Rattle.selector_meaning.specs.Meaning.{selects}
use Rattle.generic_tables.specs.Keys.{is_keyed}
use Rattle.procedural_ops.specs.Told.{selector_at}
use Rattle.kept_marks.specs.Kept.{is_marked}
use Rattle.retest.specs.Priced.{price, IsPriced}
use Rattle.retest_laws.specs.Pending.{budget, IsExact}
use Rattle.hide_engine.proofs.Following.{proper_at}
use Rattle.hide_engine.proofs.Asked.{ready_of, told_of}
use Rattle.hide_engine.proofs.asking.ask_everything.Goals as goal

pub start-requires : goal.start-requires
start-requires g c =
    let filters = c.args.filters.now in
    ready_of c.asking_of-asking.result filters.table filters.active filters.keyed
    (ap (λ context. context.table.now) c.asking_of-asking.ensures.context ∙ c.new-table.ensures) c.asking_of-asking.ensures.active c.asking_of-asking.ensures.keyed
    (proper_at filters c.requires) c.requires.filed

pub returns-clause-exact : goal.returns-clause-exact
returns-clause-exact g c =
    let filters = c.args.filters.now in
    told_of
    (λ t path active groups.
    IfOk c.start.result (λ marks. IsExact (all t) (λ f x. selects pattern_found t path (selector_at active f) x) (is_marked marks)))
    c.asking_of-asking.result c.args.page.now.tree c.args.page.now.path filters.active filters.groups.numbers
    (ap (λ context. context.dom.now) c.asking_of-asking.ensures.context) (ap (λ context. context.path.now) c.asking_of-asking.ensures.context ∙ c.as_str.ensures)
    c.asking_of-asking.ensures.active c.asking_of-asking.ensures.groups c.start.ensures.exact

pub returns-clause-checks : goal.returns-clause-checks
returns-clause-checks g c =
    let filters = c.args.filters.now in
    told_of
    (λ t path active groups.
    c.start.new.checks ≤ c.args.checks.now
    + budget (length active) (all t) (λ f x. is_keyed t (selector_at active f) x) (λ f x. true))
    c.asking_of-asking.result c.args.page.now.tree c.args.page.now.path filters.active filters.groups.numbers
    (ap (λ context. context.dom.now) c.asking_of-asking.ensures.context) (ap (λ context. context.path.now) c.asking_of-asking.ensures.context ∙ c.as_str.ensures)
    c.asking_of-asking.ensures.active c.asking_of-asking.ensures.groups c.start.ensures.checks

pub returns-clause-parts : goal.returns-clause-parts
returns-clause-parts g c =
    let filters = c.args.filters.now in
    told_of (λ t path active groups. IsPriced (price active t) c.args.checks.now c.start.new.checks c.args.parts.now c.start.new.parts)
    c.asking_of-asking.result c.args.page.now.tree c.args.page.now.path filters.active filters.groups.numbers
    (ap (λ context. context.dom.now) c.asking_of-asking.ensures.context) (ap (λ context. context.path.now) c.asking_of-asking.ensures.context ∙ c.as_str.ensures)
    c.asking_of-asking.ensures.active c.asking_of-asking.ensures.groups c.start.ensures.parts
