-- What an engine uses of a change.
use Rattle.std.specs.Prelude.{◌≡◌, ℕ, Bool, true, false, List}
use Rattle.cos_patterns.specs.declared.written.Written.{Written}
use Rattle.selector_tree.specs.declared.selector.Step.{Step}
use Rattle.page_tree.specs.Forest.{Tree}
use Rattle.page_tree.specs.Standings.{all}
use Rattle.page_tree.specs.Directions.{is_in}
use Rattle.proper_filters.specs.Proper.{is_proper}
use Rattle.selector_meaning.specs.Texts.{Bytes}
use Rattle.selector_meaning.specs.Meaning.{selects}
use Rattle.sensor_meaning.specs.declared.change.Change.{Change}
use Rattle.sensor_meaning.specs.Changes.{Becomes, IsWellFormed}
use Rattle.sensor_meaning.specs.Dirty.{brought, dirty}
use Rattle.sensor_meaning.specs.Nested.{is_outer}
use Rattle.sensor_meaning.specs.Sensors.{sensors}
use Rattle.retest_laws.specs.Pending.{SeesChange}

-- A selector that may be asked has `:others()` in its own chains alone.
abbrev pub ProperIsOuter : Type 0
ProperIsOuter = (patterns : List Written) (l : List (List Step)) → is_proper patterns l ≡ true → is_outer l ≡ true

-- An element of the tree after a change that wasn't in the tree before it was brought by the change.
abbrev pub NewIsBrought : Type 0
NewIsBrought =
    (change : Change) (t u : Tree) (path route : Bytes) → IsWellFormed t → IsWellFormed u → Becomes change t path u route →
    (x : ℕ) → is_in (all t) x ≡ false → is_in (all u) x ≡ true → brought change u x ≡ true

-- Where each of some selectors may be asked, a change makes dirty for each of them what it answers differently afterwards,
-- and what came. `found` says whether a pattern is found in a text.
abbrev pub ChangeIsSeen : Type 0
ChangeIsSeen =
    (found : Bytes → ℕ → Bytes → Bool) (selector : ℕ → List (List Step)) → ((f : ℕ) → is_outer (selector f) ≡ true) →
    (change : Change) (t u : Tree) (path route : Bytes) → IsWellFormed t → IsWellFormed u → Becomes change t path u route →
    SeesChange (all t) (all u) (λ f x. selects found t path (selector f) x) (λ f x. selects found u route (selector f) x)
    (λ f x. is_in (dirty change u (sensors (selector f))) x)
