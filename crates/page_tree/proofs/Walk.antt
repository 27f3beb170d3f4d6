-- A walk over numbers that stand once, each from the one before it.
use Rattle.std.proofs.Common.{◌≡◌, ◌+◌, ◌<◌, ◌≤◌, ◌++◌, ℕ, cond, eqb, List, [], ◌∷◌, length, Option, Some, None, arith, refl, sym, ap, ◌∙◌, inl, inr}
use Rattle.page_tree.specs.Forest.{Forest, empty, node, same, count, numbers, first_in, behind}
use Rattle.page_tree.proofs.Finding.{same_cases, same-same}

-- how often a number stands in a list
abbrev pub times : ℕ → List ℕ → ℕ
times k [] = 0
times k (n ∷ ns) = same k n + times k ns

-- the numbers from the first k on
abbrev pub tail : ℕ → List ℕ → List ℕ
tail k [] = []
tail k (n ∷ ns) = cond (eqb k n) (n ∷ ns) (tail k ns)

-- what is left of a walk that stands at a number, or at the end
abbrev pub left_at : Option ℕ → List ℕ → List ℕ
left_at None ns = []
left_at (Some k) ns = tail k ns

abbrev pub rest_of : List ℕ → List ℕ
rest_of [] = []
rest_of (n ∷ ns) = ns

times-append : (k : ℕ) (ms ns : List ℕ) → times k (ms ++ ns) ≡ times k ms + times k ns
times-append k [] ns = omega arith
times-append k (m ∷ ms) ns = omega (arith, times-append k ms ns)

-- a number stands among a forest's numbers as often as it is counted
pub times-numbers : (k : ℕ) (f : Forest) → times k (numbers f) ≡ count k f
times-numbers k empty = refl
times-numbers k (node n c kids later) = omega (arith, times-append k (numbers kids) (numbers later), times-numbers k kids, times-numbers k later)

-- what stands behind a number is in the list
pub behind-times : (k m : ℕ) (ns : List ℕ) → behind k ns ≡ Some m → 0 < times m ns
behind-times k m [] e = let no : None ≡ Some m = e in cc
behind-times k m (n ∷ ns) e =
    elim (same_cases k n) [
      | inl p ↦ omega (arith, at_front ns (rw p.2 at e))
      | inr p ↦ let later : behind k ns ≡ Some m = rw p.2 at e in omega (arith, behind-times k m ns later)
    ]
  where
    at_front : (ms : List ℕ) → first_in ms ≡ Some m → 0 < times m ms
    at_front [] h = let no : None ≡ Some m = h in cc
    at_front (x ∷ ms) h = let same_one : x ≡ m = cc (h) in elim (same_cases m x) [ inl p ↦ omega (arith, p.1) | inr p ↦ absurd (p.0 (sym same_one)) ]

-- a number that is in the list begins what is left at it
pub tail-front : (k : ℕ) (ns : List ℕ) → 0 < times k ns → tail k ns ≡ k ∷ rest_of (tail k ns)
tail-front k [] h = absurd (omega arith)
tail-front k (n ∷ ns) h =
    elim (same_cases k n) [
      | inl p ↦ rw p.2 (ap (λ x. x ∷ ns) (sym p.0))
      | inr p ↦ rw p.2 (tail-front k ns (omega arith))
    ]

-- one step on: what is left is the rest
pub left_at-behind : (k : ℕ) (ns : List ℕ) → ((m : ℕ) → times m ns ≤ 1) → left_at (behind k ns) ns ≡ rest_of (tail k ns)
left_at-behind k [] once = refl
left_at-behind k (n ∷ ns) once =
    elim (same_cases k n) [
      | inl p ↦ rw p.2 (from_first ns once)
      | inr p ↦ rw p.2 (skipped (behind k ns) (behind-times k) refl ∙ left_at-behind k ns (λ m. omega (arith, once m)))
    ]
  where
    from_first : (ms : List ℕ) → ((m : ℕ) → times m (n ∷ ms) ≤ 1) → left_at (first_in ms) (n ∷ ms) ≡ ms
    from_first [] one = refl
    from_first (x ∷ ms) one =
        elim (same_cases x n) [
          | inl p ↦ absurd (omega (arith, one x, same-same x, p.1))
          | inr p ↦ rw p.2 (elim (same_cases x x) [ inl q ↦ rw q.2 refl | inr q ↦ absurd (q.0 refl) ])
        ]

    skipped : (r : Option ℕ) → ((m : ℕ) (ms : List ℕ) → behind k ms ≡ Some m → 0 < times m ms) → behind k ns ≡ r → left_at r (n ∷ ns) ≡ left_at r ns
    skipped None found e = refl
    skipped (Some m) found e =
        elim (same_cases m n) [
          | inl p ↦ absurd (omega (arith, found m ns e, once m, p.1))
          | inr p ↦ rw p.2 refl
        ]

-- one step of the walk from k
module _ (ns : List ℕ) (once : (m : ℕ) → times m ns ≤ 1) (at next : Option ℕ) (k : ℕ) (here : at ≡ Some k) (there : (m : ℕ) → at ≡ Some m → 0 < times m ns) (on : next ≡ behind k ns) where
  -- k and the rest were left
  pub left_was : left_at at ns ≡ k ∷ rest_of (tail k ns)
  left_was = ap (λ (o : Option ℕ). left_at o ns) here ∙ tail-front k ns (there k here)

  -- the rest is left now
  pub left_is : left_at next ns ≡ rest_of (tail k ns)
  left_is = ap (λ (o : Option ℕ). left_at o ns) on ∙ left_at-behind k ns once

  pub walk_falls : length (left_at next ns) < length (left_at at ns)
  walk_falls = omega (arith, ap length left_was, ap length left_is)

  pub walk_stays : (m : ℕ) → next ≡ Some m → 0 < times m ns
  walk_stays m e = behind-times k m ns (sym on ∙ e)

-- the numbers of a tree stand once
pub once_in_order : (f : Forest) → ((k : ℕ) → count k f ≤ 1) → (m : ℕ) → times m (numbers f) ≤ 1
once_in_order f once m = omega (arith, times-numbers m f, once m)
