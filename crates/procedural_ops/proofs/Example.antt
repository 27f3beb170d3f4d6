-- Examples that compute.
use Rattle.std.proofs.Common.{◌≡◌, [], ◌∷◌, refl}
use Rattle.selector_match.specs.Walks.{after_in}

behind : after_in 2 (1 ∷ 2 ∷ 3 ∷ 4 ∷ []) ≡ 3 ∷ 4 ∷ []
behind = refl

nothing_behind : after_in 4 (1 ∷ 2 ∷ 3 ∷ 4 ∷ []) ≡ []
nothing_behind = refl
