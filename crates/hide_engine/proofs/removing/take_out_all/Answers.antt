use Rattle.std.proofs.Common.{◌≡◌, ◌<◌, ◌||◌, length, List, map, take, sym, ap, subst, ◌∙◌, arith}
use Rattle.std.proofs.Math.Seq.{take-length}
use Rattle.selector_tree.specs.declared.filter.Taken.{Taken}
use Rattle.page_tree.specs.Forest.{Tree}
use Rattle.page_tree.specs.Edits.{detached}
use Rattle.mutation_script.specs.declared.page.PageState.{PageState}
use Rattle.retest_laws.specs.Pending.{either}
use Rattle.hide_engine.specs.Changes.{dirtied_without}
use Rattle.hide_engine.specs.Ready.{state_of, IsGiven}
use Rattle.hide_engine.proofs.Deleting.{dirtied_row, or_assoc}
use Rattle.hide_engine.proofs.Taking.{each_row}
use Rattle.hide_engine.proofs.removing.take_out_all.Goals as goal

pub loop-row-preserved : goal.loop-row-preserved
loop-row-preserved c =
    let page = c.args.page.now in
    let rows = c.args.rows.now in
    let filters = c.args.filters.now in
    let i = c.loop-row.row-index in
    let row = c.row-item.result in
    let within : i < length rows = omega arith in
    record {
      page =
          c.in_ok-take_out.ensures.page
          ∙ ap (λ (p : PageState). record p { tree = detached row.node p.tree }) c.loop-row.invariant.page
          ∙ ap (λ (t : Tree). record { tree = t; path = page.path }) (sym (each_row page.tree rows i row within c.row-item.is));
      right = c.in_ok-take_out.ensures.right;
      given = λ given h f x lt.
          c.in_ok-take_out.ensures.given (either given (dirtied_without (map (λ row. row.node) (take i rows)) (state_of page filters))) (c.loop-row.invariant.given given h) f x lt
          ∙ or_assoc (given f x) (dirtied_without (map (λ row. row.node) (take i rows)) (state_of page filters) f x) _
          ∙ ap (λ b. given f x || b) (sym (dirtied_row page c.loop-row.page filters c.is_tree.ensures rows i row within c.row-item.is c.loop-row.invariant.page f x));
    }

pub returns-clause-given : goal.returns-clause-given
returns-clause-given c given h =
    let rows = c.args.rows.now in
    let whole : take c.loop-row.row-index rows ≡ rows = ap (λ n. take n rows) (omega arith) ∙ take-length rows in
    subst (λ (l : List Taken). IsGiven c.args.filters.now c.loop-row.pending (either given (dirtied_without (map (λ row. row.node) l) (state_of c.args.page.now c.args.filters.now)))) whole
    (c.loop-row.invariant.given given h)
