-- Filters by their places.
use Rattle.std.proofs.Common.{◌≡◌, ℕ, suc, zero, ◌<◌, List, [], ◌∷◌, length, get_or, refl, arith}
use Rattle.selector_tree.specs.declared.filter.Filter.{Filter}
use Rattle.procedural_ops.specs.Told.{selector_at}

-- the selector of a filter that is there
pub selector_there : (filters : List Filter) (n : ℕ) (default : Filter) → n < length filters → selector_at filters n ≡ (get_or filters n default).selector
selector_there [] n default h = absurd (omega (arith, h))
selector_there (g ∷ gs) zero default h = refl
selector_there (g ∷ gs) (suc n) default h = selector_there gs n default (omega (arith, h))
