use Rattle.std.proofs.Common.{ap, sym, subst, ◌∙◌}
use Rattle.std.specs.Prelude.{unwrap_or}
use Rattle.page_tree.specs.Directions.{is_in}
use Rattle.page_tree.specs.Forest.{Tree}
use Rattle.page_tree.specs.Refusals.{detach_refused}
use Rattle.hide_engine.specs.Ready.{IsRight}
use Rattle.hide_engine.proofs.Deleting.{went_names, went_step, accepted}
use Rattle.hide_engine.proofs.Following.{on_ok}
use Rattle.hide_engine.proofs.Taking.{taken_out}
use Rattle.hide_engine.proofs.making.take_out.Goals as goal

pub returns-in-Err-clause-page : goal.returns-in-Err-clause-page
returns-in-Err-clause-page c =
    ap (λ (t : Tree). record { tree = t; path = c.args.page.now.path })
    (taken_out c.args.page.now.tree c.detach.new.self c.args.n c.detach.result c.is_tree.ensures c.detach.ensures.answer c.detach.ensures.tree c.detach.ensures.err)

pub returns-in-Err-clause-right : goal.returns-in-Err-clause-right
returns-in-Err-clause-right c =
    subst (λ (t : Tree). IsRight (record { tree = t; path = c.args.page.now.path }) c.args.filters.now c.args.marks.now c.args.pending.now) (sym c.in-Err.ensures.err) c.requires.right

pub follow-requires-clause-named : goal.follow-requires-clause-named
follow-requires-clause-named c =
    went_names c.args.page.now c.detach.new.self c.args.n c.unwrap_or-parent.result c.is_tree.ensures c.is_tree-in-Ok.ensures
    (accepted c.detach.result (detach_refused c.args.n c.args.page.now.tree) c.in-Ok.is c.detach.ensures.answer) c.in-Ok.ensures.tree
    (c.unwrap_or-parent.ensures ∙ ap (λ o. unwrap_or o 0) c.parent.ensures)

pub returns-clause-right : goal.returns-clause-right
returns-clause-right c =
    on_ok c.follow.result c.follow.ensures.right
    (λ follows. follows c.args.page.now
    (went_step c.args.page.now c.detach.new.self c.args.n c.unwrap_or-parent.result c.is_tree.ensures c.is_tree-in-Ok.ensures
    (accepted c.detach.result (detach_refused c.args.n c.args.page.now.tree) c.in-Ok.is c.detach.ensures.answer) c.in-Ok.ensures.tree
    (c.unwrap_or-parent.ensures ∙ ap (λ o. unwrap_or o 0) c.parent.ensures)
    c.as_slice.result.now (λ x. ap (λ l. is_in l x) c.as_slice.ensures.value ∙ c.in_ok-gone.ensures x))
    c.requires.right)
