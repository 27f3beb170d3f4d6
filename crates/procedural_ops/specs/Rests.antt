-- The rest of a chain, and what is remembered of where it leads.
use Rattle.std.specs.Prelude.{◌≡◌, ℕ, ◌-◌, Bool, List, ◌∷◌, drop, length, Some}
use Rattle.selector_tree.specs.declared.selector.Place.{Place}
use Rattle.selector_tree.specs.declared.selector.Step.{Step}
use Rattle.selector_tree.specs.declared.selector.Step.TheVariants as step
use Rattle.page_tree.specs.Forest.{Tree}
use Rattle.selector_meaning.specs.Texts.{Bytes}
use Rattle.remembered.specs.Noted.{answer_at}
use Rattle.procedural_ops.specs.Reaching.{leads_from}
use Rattle.procedural_ops.specs.declared.rest.Rest.{Rest}

-- the steps of a rest
abbrev pub steps_of : Rest → List Step
steps_of rest = drop rest.from rest.chain.now

-- the last steps of a chain, so many of them
abbrev pub last_of : List Step → ℕ → List Step
last_of chain left = drop (length chain - left) chain

-- the steps begin with a combinator
pub record MovesBy (place : Place) (steps : List Step) : Type 0 where
  pub more : List Step
  pub is : steps ≡ step.Move place ∷ more

-- each answer that is remembered of the last steps of a chain is right
pub record AreRight (t : Tree) (path : Bytes) (chain : List Step) (answers : List (List (ℕ × Bool))) : Type 0 where
  pub right : (left x : ℕ) (answer : Bool) → answer_at answers left x ≡ Some answer → answer ≡ leads_from t path (last_of chain left) x
