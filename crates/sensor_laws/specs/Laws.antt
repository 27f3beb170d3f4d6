-- Dependency completeness.
use Rattle.std.specs.Prelude.{◌≡◌, ℕ, Bool, true, false, List, []}
use Rattle.std.specs.List.{list_any}
use Rattle.selector_tree.specs.declared.selector.Step.{Step}
use Rattle.page_tree.specs.Forest.{Tree}
use Rattle.page_tree.specs.Standings.{all}
use Rattle.page_tree.specs.Directions.{is_in}
use Rattle.selector_meaning.specs.Texts.{Bytes}
use Rattle.selector_meaning.specs.Meaning.{selects}
use Rattle.sensor_meaning.specs.declared.change.Change.{Change}
use Rattle.sensor_meaning.specs.Sensors.{Sensors, sensors}
use Rattle.sensor_meaning.specs.Changes.{observes, Becomes, IsWellFormed}
use Rattle.sensor_meaning.specs.Dirty.{brought, dirty}
use Rattle.sensor_meaning.specs.Nested.{is_outer}

-- For every selector with `:others()` in its own chains alone, every change, and trees of any size before and after it: each
-- element of both trees whose answer differs is dirty. `found` says whether a pattern is found in a text.
abbrev pub Completeness : Type 0
Completeness =
    (found : Bytes → ℕ → Bytes → Bool) (l : List (List Step)) → is_outer l ≡ true →
    (change : Change) (t u : Tree) (path route : Bytes) → IsWellFormed t → IsWellFormed u → Becomes change t path u route →
    (x : ℕ) → is_in (all t) x ≡ true → is_in (all u) x ≡ true →
    (selects found t path l x ≡ selects found u route l x → ⊥) → is_in (dirty change u (sensors l)) x ≡ true

-- Where no sensor observes a change that brings and moves nothing, nothing is dirty.
abbrev pub Unobserved : Type 0
Unobserved =
    (change : Change) (u : Tree) (r : Sensors) → list_any (λ s. observes s.observes change) r ≡ false →
    ((x : ℕ) → brought change u x ≡ false) → dirty change u r ≡ []
