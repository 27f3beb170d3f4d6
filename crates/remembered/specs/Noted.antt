-- The answers of tests by their places and by elements.
use Rattle.std.specs.Prelude.{◌≡◌, ℕ, Bool, ◌&&◌, ◌==◌, cond, nat_eq, List, [], length, Option, Some}
use Rattle.std.specs.List.{slice_index_or}
use Rattle.std.specs.Map.{lookup}

-- the answer that is remembered for the test at a place and an element
abbrev pub answer_at : List (List (ℕ × Bool)) → ℕ → ℕ → Option Bool
answer_at notes place x = lookup (nat_eq x) (slice_index_or notes place [])

-- one more answer is remembered
pub record Notes (old new : List (List (ℕ × Bool))) (place x : ℕ) (answer : Bool) : Type 0 where
  pub long : length new ≡ length old
  pub answers : (k z : ℕ) → answer_at new k z ≡ cond ((place == k) && (x == z)) (Some answer) (answer_at old k z)
