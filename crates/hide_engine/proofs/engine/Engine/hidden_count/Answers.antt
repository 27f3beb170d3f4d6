use Rattle.std.proofs.Common.{length, ap, ◌∙◌}
use Rattle.cos_patterns.specs.Found.{pattern_found}
use Rattle.selector_tree.specs.declared.filter.Action.TheVariants.{Hide}
use Rattle.engine_meaning.specs.States.{State, hidden_of}
use Rattle.hide_engine.specs.Ready.{state_of}
use Rattle.hide_engine.proofs.Acted.{acted_length}
use Rattle.hide_engine.proofs.engine.Engine.hidden_count.Goals as goal

pub returns : goal.returns
returns c =
    c.acting_rows.ensures.count
    ∙ acted_length (state_of c.self.inside.page c.self.inside.filters) Hide c.self.inside.marks c.self.invariant.exact c.is_tree.ensures c.acting_rows.ensures.once
    ∙ ap (λ (s : State). length (hidden_of pattern_found s)) c.self.view_is
