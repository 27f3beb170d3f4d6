use Rattle.std.proofs.Common.{◌≡◌, ◌||◌, true, sym, ap, subst, ◌∙◌}
use Rattle.std.specs.Prelude.{is_ok}
use Rattle.mutation_script.specs.declared.page.PageState.{PageState}
use Rattle.mutation_script.specs.Changes.{change}
use Rattle.page_tree.specs.Directions.{is_in}
use Rattle.hide_engine.specs.Ready.{IsRight}
use Rattle.hide_engine.proofs.Events.{unchanged, not_refused, is_made, is_refused}
use Rattle.hide_engine.proofs.Mutations.{known_names, known_step, known_dirty, none_dirty}
use Rattle.hide_engine.proofs.Same.{none_dropped}
use Rattle.hide_engine.proofs.making.make.Goals as goal

pub follow-requires-clause-named : goal.follow-requires-clause-named
follow-requires-clause-named c =
    let page = c.args.page.now in
    let made : is_ok (change c.args.mutation page) ≡ true = is_made (change c.args.mutation page) c.in_ok-error.field-0 c.in_ok-error.ensures.outcome c.in-Done.is in
    known_names page c.apply.new.self c.args.mutation c.in_ok-change-in-Done.change c.is_tree.ensures c.is_tree-in-Done.ensures c.in_ok-error.ensures.page made
    (c.in_ok-change-in-Done.ensures c.args.mutation page c.is_tree.ensures c.in_ok-planned.ensures made (ap (λ (p : PageState). p.tree) c.in_ok-error.ensures.page))

pub returns-in-Refused-clause-outcome : goal.returns-in-Refused-clause-outcome
returns-in-Refused-clause-outcome c = sym c.in-Refused.is ∙ c.in_ok-error.ensures.outcome

pub returns-in-Refused-clause-right : goal.returns-in-Refused-clause-right
returns-in-Refused-clause-right c =
    let page = c.args.page.now in
    subst (λ (p : PageState). IsRight p c.args.filters.now c.args.marks.now c.args.pending.now)
    (sym (c.in_ok-error.ensures.page ∙ unchanged page (change c.args.mutation page) c.in_ok-error.field-0 c.in-Refused.error c.in_ok-error.ensures.outcome c.in-Refused.is))
    c.requires.right

pub returns-in-Refused-clause-given : goal.returns-in-Refused-clause-given
returns-in-Refused-clause-given c given h f x lt =
    h f x lt
    ∙ none_dirty c.args.mutation c.args.page.now c.args.filters.now f x (given f x)
    (is_refused (change c.args.mutation c.args.page.now) c.in_ok-error.field-0 c.in-Refused.error c.in_ok-error.ensures.outcome c.in-Refused.is)

pub returns-in_ok-follow-in-Done-clause-outcome : goal.returns-in_ok-follow-in-Done-clause-outcome
returns-in_ok-follow-in-Done-clause-outcome c = sym c.in-Done.is ∙ c.in_ok-error.ensures.outcome

pub returns-in_ok-follow-in-Done-clause-right : goal.returns-in_ok-follow-in-Done-clause-right
returns-in_ok-follow-in-Done-clause-right c =
    let page = c.args.page.now in
    let made : is_ok (change c.args.mutation page) ≡ true = is_made (change c.args.mutation page) c.in_ok-error.field-0 c.in_ok-error.ensures.outcome c.in-Done.is in
    c.in_ok-follow-in-Done.ensures.right page
    (known_step page c.apply.new.self c.args.mutation c.in_ok-change-in-Done.change c.is_tree.ensures c.is_tree-in-Done.ensures c.in_ok-error.ensures.page made
    (c.in_ok-change-in-Done.ensures c.args.mutation page c.is_tree.ensures c.in_ok-planned.ensures made (ap (λ (p : PageState). p.tree) c.in_ok-error.ensures.page))
    c.as_slice.result.now (λ x. ap (λ l. is_in l x) c.as_slice.ensures.value ∙ c.in_ok-gone.ensures x))
    c.requires.right

pub returns-in_ok-follow-in-Done-clause-given : goal.returns-in_ok-follow-in-Done-clause-given
returns-in_ok-follow-in-Done-clause-given c given h f x lt =
    let page = c.args.page.now in
    let made : is_ok (change c.args.mutation page) ≡ true = is_made (change c.args.mutation page) c.in_ok-error.field-0 c.in_ok-error.ensures.outcome c.in-Done.is in
    c.in_ok-follow-in-Done.ensures.given given h f x lt
    ∙ ap (λ b. given f x || b)
    (known_dirty page c.apply.new.self c.args.mutation c.in_ok-change-in-Done.change c.is_tree.ensures c.is_tree-in-Done.ensures c.in_ok-error.ensures.page made
    (c.in_ok-change-in-Done.ensures c.args.mutation page c.is_tree.ensures c.in_ok-planned.ensures made (ap (λ (p : PageState). p.tree) c.in_ok-error.ensures.page))
    c.args.filters.now f x)

pub returns-in_ok-follow-in-Done-clause-refused : goal.returns-in_ok-follow-in-Done-clause-refused
returns-in_ok-follow-in-Done-clause-refused c refused =
    absurd (not_refused (change c.args.mutation c.args.page.now) c.in_ok-error.field-0 c.in_ok-error.ensures.outcome c.in-Done.is refused)

pub returns-in_ok-follow-in-Done-clause-kept : goal.returns-in_ok-follow-in-Done-clause-kept
returns-in_ok-follow-in-Done-clause-kept c keeps =
    none_dropped c.args.mutation c.args.page.now.tree c.as_slice.result.now c.args.marks.now c.follow.new.marks keeps
    (λ x. ap (λ l. is_in l x) c.as_slice.ensures.value ∙ c.in_ok-gone.ensures x) c.in_ok-follow-in-Done.ensures.marks
