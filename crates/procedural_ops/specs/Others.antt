-- What is remembered of `:others()`, and when it is right.
use Rattle.std.specs.Prelude.{◌≡◌, ℕ, Bool, ◌&&◌, List, [], take, Some, slice_get, unwrap_or}
use Rattle.std.specs.List.{list_any}
use Rattle.selector_tree.specs.declared.filter.Filter.{Filter}
use Rattle.selector_tree.specs.declared.selector.Step.{Step}
use Rattle.page_tree.specs.Forest.{Tree}
use Rattle.page_tree.specs.Standings.{all}
use Rattle.page_tree.specs.Directions.{is_in, holders}
use Rattle.selector_meaning.specs.Texts.{Bytes}
use Rattle.remembered.specs.Known.{known}
use Rattle.remembered.specs.declared.members.Front.{Front}
use Rattle.procedural_ops.specs.Reaching.{reached}
use Rattle.procedural_ops.specs.Told.{selector_at}

-- the steps lead to something below a parent, which may be the document
unfoldable pub leads_below : Tree → Bytes → List Step → ℕ → Bool
leads_below t path steps parent = list_any (λ y. is_in (reached t path steps) y && is_in (holders t y) parent) (all t)

-- the chain at a place in a filter's selector; no steps past the last
abbrev pub chain_at : List Filter → ℕ → ℕ → List Step
chain_at filters f chain = unwrap_or (slice_get (selector_at filters f) chain) []

-- the first steps of a filter's chain
abbrev pub steps_of : List Filter → Front → List Step
steps_of filters front = take front.steps (chain_at filters front.filter front.chain)

-- each answer that is remembered is right, for a page as it stands
pub record AreRight (t : Tree) (path : Bytes) (filters : List Filter) (members : List (Front × Bool)) : Type 0 where
  pub right : (front : Front) (answer : Bool) → known members front ≡ Some answer →
      answer ≡ leads_below t path (steps_of filters front) front.parent
