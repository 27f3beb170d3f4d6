-- What the functions of this crate answer, in the words of the meaning.
use Rattle.std.specs.Prelude.{ℕ, ◌+◌, if◌then◌else◌, Bool, true, false, not, List, [], ◌∷◌, map, find, Option, None}
use Rattle.std.specs.List.{list_any}
use Rattle.selector_tree.specs.declared.selector.Step.{Step, out-Step}
use Rattle.selector_tree.specs.declared.selector.Step.TheOpen.{Step-F}
use Rattle.selector_tree.specs.declared.selector.Test.{Test}
use Rattle.page_tree.specs.Forest.{Tree}
use Rattle.page_tree.specs.Standings.{all, above}
use Rattle.page_tree.specs.Directions.{is_in}
use Rattle.cos_patterns.specs.Found.{pattern_found}
use Rattle.selector_meaning.specs.Texts.{Bytes}
use Rattle.selector_meaning.specs.Meaning.{StepMeaning, ChainMeaning, run, gives, leads, ancestor, step_of, unshown}
use Rattle.std.specs.Str.{bytes_eq}

-- the step goes up
abbrev pub goes_up_at : Step-F Step Test → Bool
goes_up_at (Step-F.Upward n) = true
goes_up_at (Step-F.UpwardTo l) = true
goes_up_at _ = false

abbrev pub goes_up : Step → Bool
goes_up s = goes_up_at (out-Step s)

-- the place of the first step that goes up, or the length
unfoldable pub first_up_of : List Step → ℕ
first_up_of [] = 0
first_up_of (s ∷ steps) = if goes_up s then 0 else first_up_of steps + 1

module _ (t : Tree) (path : Bytes) where
  abbrev pub meaning : Step → StepMeaning
  meaning = step_of pattern_found t path

  abbrev pub chain_meaning : List Step → ChainMeaning
  chain_meaning = map meaning

  -- the elements to which the steps lead from all elements
  unfoldable pub reached : List Step → List ℕ
  reached steps = run (chain_meaning steps) (all t)

  -- the steps lead from x to something
  unfoldable pub leads_from : List Step → ℕ → Bool
  leads_from steps x = leads (chain_meaning steps) x

  -- a chain gives something for x
  unfoldable pub chain_gives : List Step → ℕ → Bool
  chain_gives chain x = gives t (chain_meaning chain) x

  unfoldable pub some_gives : List (List Step) → ℕ → Bool
  some_gives l x = list_any (λ chain. chain_gives chain x) l

  unfoldable pub some_leads : List (List Step) → ℕ → Bool
  some_leads l x = list_any (λ chain. leads_from chain x) l

  -- some chain leads to x from all elements
  unfoldable pub is_selected : List (List Step) → ℕ → Bool
  is_selected l x = list_any (λ chain. is_in (reached chain) x) l

  -- the element to which a step that goes up leads from y
  abbrev pub lifted_at : Step-F Step Test → ℕ → Option ℕ
  lifted_at (Step-F.Upward n) y = ancestor n (above t y)
  lifted_at (Step-F.UpwardTo l) y = find (is_selected l) (above t y)
  lifted_at _ y = None

  abbrev pub lifted : Step → ℕ → Option ℕ
  lifted s y = lifted_at (out-Step s) y

-- the name is none of those that `:others()` leaves out
abbrev pub is_shown_name : Bytes → Bool
is_shown_name own = not (list_any (λ n. bytes_eq n own) unshown)
