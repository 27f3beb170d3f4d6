use Rattle.std.proofs.Common.{◌≡◌, sym, ap, ◌∙◌}
use Rattle.std.specs.List.{list_any}
use Rattle.page_tree.specs.Directions.{is_in}
use Rattle.cos_patterns.specs.Found.{pattern_found}
use Rattle.selector_tree.specs.declared.filter.Action.TheVariants.{Remove}
use Rattle.engine_meaning.specs.Rounds.{removed}
use Rattle.engine_meaning.specs.States.{State}
use Rattle.hide_engine.specs.Chosen.{acts_at}
use Rattle.hide_engine.proofs.Acted.{is_acted}
use Rattle.hide_engine.proofs.Taking.{stopped, goes_on}
use Rattle.hide_engine.proofs.removing.is_outermost.Goals as goal

pub returns-then-some_acts : goal.returns-then-some_acts
returns-then-some_acts c =
    let s : State = record { page = c.args.page.now; filters = c.args.active.now } in
    let up = c.in-Some.up in
    let gone : is_in (removed pattern_found s.filters s.page.path s.page.tree) up ≡ c.some_acts.result =
    is_acted s Remove c.args.marks.now c.requires.exact up
    ∙ ap (list_any (acts_at s.filters Remove)) (sym c.of.ensures.filters) ∙ sym c.some_acts.ensures in
    sym (c.ancestors.invariant.same ∙ stopped s c.ancestors.at up c.in-Some.ensures.first c.some_acts.result gone c.if-some_acts.true)

pub ancestors-preserved : goal.ancestors-preserved
ancestors-preserved c =
    let s : State = record { page = c.args.page.now; filters = c.args.active.now } in
    let up = c.in-Some.up in
    let gone : is_in (removed pattern_found s.filters s.page.path s.page.tree) up ≡ c.some_acts.result =
    is_acted s Remove c.args.marks.now c.requires.exact up
    ∙ ap (list_any (acts_at s.filters Remove)) (sym c.of.ensures.filters) ∙ sym c.some_acts.ensures in
    record {
      element = c.in-Some.ensures.element;
      same = c.ancestors.invariant.same ∙ goes_on s c.ancestors.at up c.in-Some.ensures.first c.some_acts.result gone c.if-some_acts.false;
    }
