-- Nodes put in where others were put in before.
use Rattle.std.proofs.Common.{◌≡◌, ℕ, zero, suc, ◌+◌, ◌≤◌, length, refl, ◌∙◌, ap, inl, inr, arith}
use Rattle.page_tree.specs.Forest.{Content, Forest, empty, node, same, count, head, tops, find}
use Rattle.page_tree.specs.Edits.{joined, insert_at}
use Rattle.page_tree.proofs.Finding.{same_cases, find-none, or_else-empty}
use Rattle.dom_arena.specs.Slots.{last_behind}
use Rattle.dom_arena.specs.Linked.{from_place, before_place}
use Rattle.dom_arena.proofs.Added.{before_place-end, from_place-end}

-- what is found below the last node, and behind the first one
pub find_down : (k n : ℕ) (c : Content) (kids : Forest) → same k n ≡ 0 → find k (node n c kids empty) ≡ find k kids
find_down k n c kids other = elim (same_cases k n) [ inl q ↦ absurd (omega arith) | inr q ↦ rw q.2 (or_else-empty (find k kids)) ]

pub find_along : (k n : ℕ) (c : Content) (kids later : Forest) → same k n ≡ 0 → count k kids ≡ 0 → find k (node n c kids later) ≡ find k later
find_along k n c kids later other none = elim (same_cases k n) [ inl q ↦ absurd (omega arith) | inr q ↦ rw (q.2, find-none k kids none) refl ]

-- ---- children put in place of others

-- ---- nodes put in between siblings

-- the numbers beside that place: the last of them, and what stood behind the place
before-joined : (b : ℕ) (g f : Forest) → before_place b (length (tops g)) (joined g f) ≡ last_behind b g
before-joined b empty f = refl
before-joined b (node n c kids later) f = before-joined n later f

pub before-behind : (b j i : ℕ) (g f : Forest) → j ≡ i + length (tops g) → i ≤ length (tops f) → before_place b j (insert_at i g f) ≡ last_behind (before_place b i f) g
before-behind b j zero g empty e le = ap (λ (k : ℕ). before_place b k g) (let same : j ≡ length (tops g) = omega arith in same) ∙ before_place-end b g
before-behind b j (suc i) g empty e le = absurd (omega arith)
before-behind b j zero g (node n c kids later) e le =
    ap (λ (k : ℕ). before_place b k (joined g (node n c kids later))) (let same : j ≡ length (tops g) = omega arith in same) ∙ before-joined b g (node n c kids later)
before-behind b zero (suc i) g (node n c kids later) e le = absurd (omega arith)
before-behind b (suc j) (suc i) g (node n c kids later) e le = before-behind n j i g later (omega arith) (omega arith)

from-joined : (g f : Forest) → from_place (length (tops g)) (joined g f) ≡ f
from-joined empty f = refl
from-joined (node n c kids later) f = from-joined later f

pub from-behind : (j i : ℕ) (g f : Forest) → j ≡ i + length (tops g) → i ≤ length (tops f) → head (from_place j (insert_at i g f)) ≡ head (from_place i f)
from-behind j zero g empty e le = ap (λ (k : ℕ). head (from_place k g)) (let same : j ≡ length (tops g) = omega arith in same) ∙ from_place-end g
from-behind j (suc i) g empty e le = absurd (omega arith)
from-behind j zero g (node n c kids later) e le =
    ap (λ (k : ℕ). head (from_place k (joined g (node n c kids later)))) (let same : j ≡ length (tops g) = omega arith in same) ∙ ap head (from-joined g (node n c kids later))
from-behind zero (suc i) g (node n c kids later) e le = absurd (omega arith)
from-behind (suc j) (suc i) g (node n c kids later) e le = from-behind j i g later (omega arith) (omega arith)

-- how many stand there then
tops-joined : (g f : Forest) → length (tops (joined g f)) ≡ length (tops g) + length (tops f)
tops-joined empty f = omega arith
tops-joined (node n c kids later) f = omega (arith, tops-joined later f)

pub tops-inserted : (i : ℕ) (g f : Forest) → length (tops (insert_at i g f)) ≡ length (tops g) + length (tops f)
tops-inserted i g empty = omega arith
tops-inserted zero g (node n c kids later) = tops-joined g (node n c kids later)
tops-inserted (suc i) g (node n c kids later) = omega (arith, tops-inserted i g later)
