-- Where steps lead to nothing from an element, and so to nothing from what is below it, or from its later siblings.
use Rattle.std.specs.Prelude.{◌≡◌, ◌⊎◌, ℕ, Bool, true, false, List, [], ◌∷◌, All}
use Rattle.std.specs.List.{list_any}
use Rattle.page_tree.specs.Forest.{Tree}
use Rattle.page_tree.specs.Standings.{above}
use Rattle.page_tree.specs.Directions.{is_in}
use Rattle.selector_tree.specs.declared.selector.Place.{Place}
use Rattle.selector_tree.specs.declared.selector.Place.TheVariants.{Child, Descendant, Next, After}
use Rattle.selector_tree.specs.declared.selector.Step.{Step}
use Rattle.selector_tree.specs.declared.selector.Step.TheVariants as step
use Rattle.selector_tree.specs.declared.selector.Test.{Test}
use Rattle.selector_tree.specs.declared.selector.Test.TheVariants as test
use Rattle.selector_meaning.specs.Texts.{Bytes}
use Rattle.selector_match.specs.Asked.{IsElement}
use Rattle.procedural_ops.specs.Count.{asks}
use Rattle.procedural_ops.specs.Reaching.{leads_from}
use Rattle.selector_match.specs.Walks.{targets_behind}

-- the steps lead to nothing from the elements below f
abbrev pub Blocks : Tree → Bytes → List Step → ℕ → Type 0
Blocks t path steps f = (w : ℕ) → IsElement t w → is_in (above t w) f ≡ true → leads_from t path steps w ≡ false

-- a chain goes down first, to whatever is below
abbrev pub BeginsBelow : List Step → Type 0
BeginsBelow chain = (more : List Step) × (chain ≡ step.Move Descendant ∷ more)

-- a `:has()` whose chains go down first
abbrev pub TestBelow : Test → Type 0
TestBelow q = (l : List (List Step)) × (q ≡ test.Has l) × All BeginsBelow l

-- a step that keeps by such a `:has()`
abbrev pub HasBelow : Step → Type 0
HasBelow s = (q : Test) × (s ≡ step.Keep q) × TestBelow q

-- a step that keeps by such a `:has()`, or by a test without selectors in it
abbrev pub KeepsBelow : Step → Type 0
KeepsBelow s = (asks s ≡ true) ⊎ HasBelow s

-- a run of such steps, and then nothing, or steps that go down first
abbrev pub LooksBelow : List Step → List Step → Type 0
LooksBelow run rest = All KeepsBelow run × ((rest ≡ []) ⊎ BeginsBelow rest)

-- the steps lead to nothing from what the combinator comes to behind z
abbrev pub BlocksBehind : Tree → Bytes → Place → List Step → ℕ → Type 0
BlocksBehind t path place steps z = (x : ℕ) → list_any (leads_from t path steps) (targets_behind t place x z) ≡ false

-- what the combinator comes to are siblings
abbrev pub is_level : Place → Bool
is_level Child = true
is_level Descendant = false
is_level Next = true
is_level After = true

-- a step that keeps by a test, or leads to the next sibling
abbrev pub KeepsLevel : Step → Type 0
KeepsLevel s = ((q : Test) × (s ≡ step.Keep q)) ⊎ (s ≡ step.Move Next)

-- such steps, and then one that leads to later siblings
abbrev pub LooksLater : List Step → List Step → Type 0
LooksLater front rest = All KeepsLevel front × ((more : List Step) × (rest ≡ step.Move After ∷ more))
