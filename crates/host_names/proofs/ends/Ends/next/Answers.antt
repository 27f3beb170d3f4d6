use Rattle.std.proofs.Common.{◌∙◌, ◌∷◌, List, ℕ, Some, ap, sym}
use Rattle.std.specs.Borrow.{Bor}
use Rattle.std.specs.Prelude.{Option}
use Rattle.std.specs.Option.{option_copied}
use Rattle.host_names.specs.Left.{ends_left}
use Rattle.host_names.proofs.Labels.{behind_dots_left}
use Rattle.host_names.proofs.ends.Ends.next.Goals as goal

pub returns : goal.returns
returns c =
    sym c.self.view_is
    ∙ ap (λ (o : Option (Bor (List ℕ))). ends_left (option_copied o)) c.in_ok-end.was
    ∙ ap (λ (ends : List (List ℕ)). c.in_ok-end.end.now ∷ ends) (behind_dots_left c.in_ok-end.end.now ∙ ap ends_left (sym c.split_once.ensures.behind))
