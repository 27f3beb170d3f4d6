use Rattle.std.proofs.Common.{◌∙◌, ◌&&◌, ◌==◌, not, List, ℕ, ap}
use Rattle.page_tree.specs.Directions.{is_in}
use Rattle.generic_tables.proofs.Written.{taken}
use Rattle.generic_tables.proofs.numbers.NumberSet.take_out.Goals as goal

pub returns : goal.returns
returns c = λ x.
    taken c.self.inside.numbers.keys c.swap_remove.new.self.keys c.args.n x (c.swap_remove.ensures.updates.0 x)
    ∙ ap (λ (xs : List ℕ). is_in xs x && not (x == c.args.n)) c.self.view_is
