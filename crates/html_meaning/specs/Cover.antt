-- What it is that tokens cover a source.
use Rattle.std.specs.Prelude.{◌≡◌, ℕ, ◌<◌, List, [], ◌∷◌}
use Rattle.html_meaning.specs.Tokens.{Token}

-- the tokens cover all from one place to another: each begins where the one before it ends, and none is empty
abbrev pub Cover : ℕ → List Token → ℕ → Type 0
Cover from [] to = from ≡ to
Cover from (t ∷ tokens) to = (t.from ≡ from) × (t.from < t.to) × Cover t.to tokens to
