-- Kept answers: for which pairs of a filter and an element the answer is yes, and which pairs must be asked again. A set of
-- pairs is a test on a filter and an element.
use Rattle.std.specs.Prelude.{◌≡◌, ℕ, Bool, true, false, ◌&&◌, ◌||◌, List, [], ◌∷◌, cond}
use Rattle.std.specs.List.{list_any, sum_by, count_by, range_with_len}
use Rattle.page_tree.specs.Directions.{is_in}

-- a set of pairs of a filter and an element
abbrev pub Pairs : Type 0
Pairs = ℕ → ℕ → Bool

-- the pairs of these elements alone
abbrev pub among : List ℕ → Pairs → Pairs
among elements marks f x = marks f x && is_in elements x

-- the pairs of either
abbrev pub either : Pairs → Pairs → Pairs
either pending dirty f x = pending f x || dirty f x

-- The marks after each pending pair of these elements is asked again: the pair is in where the element carries a key of the
-- filter and the answer is yes.
abbrev pub asked_again : List ℕ → (answers carries pending marks : Pairs) → Pairs
asked_again elements answers carries pending marks f x =
    cond (is_in elements x && pending f x) (carries f x && answers f x) (marks f x)

-- the marks are the answers, but for what is pending
pub record IsRightBut (elements : List ℕ) (answers marks pending : Pairs) : Type 0 where
  pub right : (f x : ℕ) → is_in elements x ≡ true → pending f x ≡ false → marks f x ≡ answers f x
  pub gone : (f x : ℕ) → is_in elements x ≡ false → marks f x ≡ false

-- the marks are the answers
abbrev pub IsExact : List ℕ → (answers marks : Pairs) → Type 0
IsExact elements answers marks = (f x : ℕ) → marks f x ≡ (is_in elements x && answers f x)

-- an element carries a key of each filter that says yes of it
abbrev pub HasKeys : List ℕ → (answers carries : Pairs) → Type 0
HasKeys elements answers carries = (f x : ℕ) → is_in elements x ≡ true → answers f x ≡ true → carries f x ≡ true

-- Between two pages, each element whose answer differs is dirty, and each that came.
pub record SeesChange (old new : List ℕ) (before after dirty : Pairs) : Type 0 where
  pub complete : (f x : ℕ) → is_in old x ≡ true → is_in new x ≡ true → (before f x ≡ after f x → ⊥) → dirty f x ≡ true
  pub came : (f x : ℕ) → is_in old x ≡ false → is_in new x ≡ true → dirty f x ≡ true

-- the page behind a change: its elements, what the filters answer there, and what the change made dirty
pub record Stage : Type 0 where
  pub elements : List ℕ
  pub answers : Pairs
  pub dirty : Pairs

-- each change makes dirty what it touches, from one page to the next
abbrev pub Leads : List ℕ → Pairs → List Stage → Type 0
Leads old before [] = Unit {0}
Leads old before (s ∷ stages) = SeesChange old s.elements before s.answers s.dirty × Leads s.elements s.answers stages

-- the elements, and what the filters answer, behind all changes
abbrev pub last_elements : List ℕ → List Stage → List ℕ
last_elements old [] = old
last_elements old (s ∷ stages) = last_elements s.elements stages

abbrev pub last_answers : Pairs → List Stage → Pairs
last_answers before [] = before
last_answers before (s ∷ stages) = last_answers s.answers stages

-- what some change made dirty, in the page just behind that change
abbrev pub dirtied : List Stage → Pairs
dirtied stages f x = list_any (λ s. s.dirty f x) stages

-- the marks after each change has dropped those of the elements that went
abbrev pub marks_left : List Stage → Pairs → Pairs
marks_left [] marks = marks
marks_left (s ∷ stages) marks = marks_left stages (among s.elements marks)

-- how many of n filters are pending at x, x carrying a key of them
abbrev pub due_at : ℕ → (carries pending : Pairs) → ℕ → ℕ
due_at n carries pending x = count_by (λ f. pending f x && carries f x) (range_with_len 0 n)

-- how many pairs of n filters and these elements are pending, the element carrying a key of the filter
abbrev pub budget : ℕ → List ℕ → (carries pending : Pairs) → ℕ
budget n elements carries pending = sum_by (due_at n carries pending) elements
