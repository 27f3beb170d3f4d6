-- The laws of kept answers.
use Rattle.std.specs.Prelude.{◌≡◌, ℕ, ◌≤◌, ◌<◌, Bool, true, false, not, nat_eq, ◌&&◌, List, length}
use Rattle.std.specs.List.{IsDistinct, sum_by}
use Rattle.page_tree.specs.Directions.{is_in}
use Rattle.retest_laws.specs.Pending.{Pairs, among, either, asked_again, IsRightBut, IsExact, HasKeys, Stage, Leads, last_elements, last_answers, dirtied, marks_left, due_at, budget}

-- Changes one after the other: where the marks were right but for what was pending, they are right but for that and what some
-- change made dirty, once those of the elements that went are dropped.
abbrev pub Noted : Type 0
Noted =
    (stages : List Stage) (old : List ℕ) (before marks pending : Pairs) → Leads old before stages → IsRightBut old before marks pending →
    IsRightBut (last_elements old stages) (last_answers before stages) (marks_left stages marks) (either pending (dirtied stages))

-- Asking again what is pending makes the marks exact.
abbrev pub Retested : Type 0
Retested =
    (elements : List ℕ) (answers carries marks pending : Pairs) → HasKeys elements answers carries → IsRightBut elements answers marks pending →
    IsExact elements answers (asked_again elements answers carries pending marks)

-- Exact marks are right with nothing pending.
abbrev pub Resting : Type 0
Resting = (elements : List ℕ) (answers marks : Pairs) → IsExact elements answers marks → IsRightBut elements answers marks (λ f x. false)

-- No mark is right where each element is pending for each filter.
abbrev pub Starting : Type 0
Starting =
    (elements : List ℕ) (answers pending : Pairs) → ((f x : ℕ) → is_in elements x ≡ true → pending f x ≡ true) →
    IsRightBut elements answers (λ f x. false) pending

-- Where only elements were marked, dropping the marks of those that left keeps those of the elements there are.
abbrev pub Dropped : Type 0
Dropped =
    (old now : List ℕ) (marks : Pairs) (left : ℕ → Bool) → ((f x : ℕ) → is_in old x ≡ false → marks f x ≡ false) →
    ((x : ℕ) → left x ≡ (is_in old x && not (is_in now x))) → (f x : ℕ) → (marks f x && not (left x)) ≡ among now marks f x

-- Where filters of one group have one dirty set, and what is pending is known by groups, it is known by filters.
abbrev pub Grouped : Type 0
Grouped =
    (n : ℕ) (elements : List ℕ) (carries pending by_group : Pairs) (group : ℕ → ℕ) → ((f x : ℕ) → pending f x ≡ by_group (group f) x) →
    budget n elements carries pending ≡ budget n elements carries (λ f x. by_group (group f) x)

-- Visits of elements, none twice, have no more due than the budget.
abbrev pub Bounded : Type 0
Bounded =
    (n : ℕ) (elements visits : List ℕ) (carries pending : Pairs) → IsDistinct nat_eq visits →
    ((x : ℕ) → is_in visits x ≡ true → is_in elements x ≡ true) → sum_by (due_at n carries pending) visits ≤ budget n elements carries pending

-- Filters that are asked at an element, none twice and each due there, are no more than are due.
abbrev pub SoleAsking : Type 0
SoleAsking =
    (n : ℕ) (carries pending : Pairs) (x : ℕ) (asked : List ℕ) → IsDistinct nat_eq asked →
    ((f : ℕ) → is_in asked f ≡ true → (f < n) × ((pending f x && carries f x) ≡ true)) → length asked ≤ due_at n carries pending x
