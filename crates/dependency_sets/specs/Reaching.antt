-- Steps from places of a page to others. A place is the document, which has number 0, or an element.
use Rattle.std.specs.Prelude.{◌≡◌, ℕ, Bool, true, ◌&&◌, ◌||◌, List, [], ◌∷◌, ◌++◌, if◌then◌else◌}
use Rattle.std.specs.List.{list_any}
use Rattle.page_tree.specs.Forest.{Tree}
use Rattle.page_tree.specs.Standings.{all}
use Rattle.page_tree.specs.Directions.{is_in, goes, Direction, to_child, to_below, to_parent, to_above, to_next, to_previous, to_after, to_before}
use Rattle.dependency_sets.specs.declared.near.Near.{Near}
use Rattle.dependency_sets.specs.declared.near.Near.TheVariants.{Child, Parent, Next, Previous}

-- the numbers with one more, unless it is there
abbrev pub with_number : List ℕ → ℕ → List ℕ
with_number numbers n = if is_in numbers n then numbers else numbers ++ n ∷ []

-- the same members
abbrev pub HasSame : List ℕ → List ℕ → Type 0
HasSame xs ys = (x : ℕ) → is_in xs x ≡ is_in ys x

-- one step, and any number of such steps
abbrev pub one_step : Near → Direction
one_step Child = to_child
one_step Parent = to_parent
one_step Next = to_next
one_step Previous = to_previous

abbrev pub all_steps : Near → Direction
all_steps Child = to_below
all_steps Parent = to_above
all_steps Next = to_after
all_steps Previous = to_before

-- the numbers of old stay first, and those that pass are added
pub record Adds (p : ℕ → Bool) (old new : List ℕ) : Type 0 where
  pub members : (x : ℕ) → is_in new x ≡ (is_in old x || p x)
  pub begins : (more : List ℕ) × (new ≡ old ++ more)

-- the new numbers are the old ones and those that pass
abbrev pub Gains : (ℕ → Bool) → List ℕ → List ℕ → Type 0
Gains p old new = (x : ℕ) → is_in new x ≡ (is_in old x || p x)

module _ (t : Tree) where
  -- whether the number is that of the document or of an element
  abbrev pub is_place : ℕ → Bool
  is_place x = is_in (0 ∷ all t) x

  abbrev pub IsPlace : ℕ → Type 0
  IsPlace x = is_place x ≡ true

  abbrev pub ArePlaces : List ℕ → Type 0
  ArePlaces numbers = (x : ℕ) → is_in numbers x ≡ true → IsPlace x

  -- whether a direction leads from y to the place x
  abbrev pub leads_to : Direction → ℕ → ℕ → Bool
  leads_to direction y x = is_place x && goes t direction y x

  -- where a direction leads from some of these
  abbrev pub leads_from : Direction → List ℕ → ℕ → Bool
  leads_from direction numbers x = list_any (λ y. leads_to direction y x) numbers

  -- whatever steps lead to from the numbers is among them, and nothing else was added
  pub record Closes (near : Near) (old new : List ℕ) : Type 0 where
    pub keeps : (x : ℕ) → is_in old x ≡ true → is_in new x ≡ true
    pub places : ArePlaces new
    pub led : (x : ℕ) → is_in new x ≡ true → (is_in old x || leads_from (all_steps near) old x) ≡ true
    pub closed : (y x : ℕ) → is_in new y ≡ true → leads_to (one_step near) y x ≡ true → is_in new x ≡ true
