-- The numbers of open elements rise.
use Rattle.std.specs.Prelude.{ℕ, suc, ◌≤◌, List, [], ◌∷◌}
use Rattle.html_meaning.specs.Page.{OpenElement}

abbrev pub Rises : ℕ → List OpenElement → Type 0
Rises low [] = Unit {0}
Rises low (o ∷ elements) = (low ≤ o.number) × Rises (suc o.number) elements
