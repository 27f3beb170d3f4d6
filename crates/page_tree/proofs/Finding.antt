-- Where a number stands in a forest.
use Rattle.std.proofs.Common.{◌≡◌, ℕ, ◌+◌, ◌<◌, ◌≤◌, ◌==◌, ◌||◌, ◌++◌, cond, eqb, true, false, refl, sym, ◌∙◌, ap, inl, inr, ◌⊎◌, arith}
use Rattle.std.proofs.lemmas.Bool.{cases_eq, eq-eqb, ne_eqb, or_cases, or_parts, both_ways}
use Rattle.std.proofs.lemmas.List.Folds.{list_any-append}
use Rattle.page_tree.specs.Forest.{Content, Forest, empty, node, rooted, same, count, numbers, find, or_else, children, later_of}
use Rattle.page_tree.specs.Directions.{is_in}

-- two numbers are equal or not, with what the tests say
pub same_cases : (k n : ℕ) → ((k ≡ n) × (same k n ≡ 1) × (eqb k n ≡ true)) ⊎ ((k ≡ n → ⊥) × (same k n ≡ 0) × (eqb k n ≡ false))
same_cases k n =
    elim (cases_eq k n) [
      | inl e ↦ inl (e, ap (λ b. cond b 1 0) (eq-eqb k n e), eq-eqb k n e)
      | inr e ↦ inr (e, ap (λ b. cond b 1 0) (ne_eqb k n e), ne_eqb k n e)
    ]

-- a number is the same as itself, and as one that equals it
pub same-same : (n : ℕ) → same n n ≡ 1
same-same n = elim (same_cases n n) [ inl p ↦ p.1 | inr p ↦ absurd (p.0 refl) ]

pub same-eq : (k n : ℕ) → k ≡ n → same k n ≡ 1
same-eq k n e = elim (same_cases k n) [ inl p ↦ p.1 | inr p ↦ absurd (p.0 e) ]

-- a number that is counted is not one that isn't
pub counted_apart : (k j : ℕ) (f : Forest) → 0 < count k f → count j f ≡ 0 → k ≡ j → ⊥
counted_apart k j f h z e = omega (arith, ap (λ (i : ℕ). count i f) e)

pub or_else-empty : (f : Forest) → or_else f empty ≡ f
or_else-empty empty = refl
or_else-empty (node n c kids later) = refl

-- a number that doesn't stand in the forest has no node
pub find-none : (k : ℕ) (f : Forest) → count k f ≡ 0 → find k f ≡ empty
find-none k empty h = refl
find-none k (node n c kids later) h =
    elim (same_cases k n) [
      | inl p ↦ absurd (omega arith)
      | inr p ↦ rw (p.2, find-none k kids (omega arith)) (find-none k later (omega arith))
    ]

-- a node that is there is not looked for further on
pub find-counted : (k : ℕ) (f g : Forest) → 0 < count k f → or_else (find k f) g ≡ find k f
find-counted k empty g h = absurd (omega arith)
find-counted k (node n c kids later) g h =
    elim (same_cases k n) [
      | inl q ↦ rw q.2 refl
      | inr q ↦ rw q.2 (elim (cases_eq (count k kids) 0) [
        | inl z ↦ rw (find-none k kids z) (find-counted k later g (omega arith))
        | inr z ↦ rw (find-counted k kids (find k later) (omega arith)) (find-counted k kids g (omega arith))
      ])
    ]

-- a node that is there is found with its number
pub found : (k : ℕ) (f : Forest) → 0 < count k f → (c : Content) × (kids : Forest) × (later : Forest) × (find k f ≡ node k c kids later)
found k empty h = absurd (omega arith)
found k (node n c kids later) h =
    elim (same_cases k n) [
      | inl q ↦ (c, kids, later, rw q.2 (ap (λ (j : ℕ). node j c kids later) (sym q.0)))
      | inr q ↦ elim (cases_eq (count k kids) 0) [
        | inl z ↦
            let r = found k later (omega arith) in
            let here : find k (node n c kids later) ≡ find k later = rw (q.2, find-none k kids z) refl in
            (r.0, r.1, r.2, here ∙ r.3)
        | inr z ↦
            let r = found k kids (omega arith) in
            let here : find k (node n c kids later) ≡ find k kids = rw (q.2, find-counted k kids (find k later) (omega arith)) refl in
            (r.0, r.1, r.2, here ∙ r.3)
      ]
    ]

-- what was found holds no number more often, nor do its parts
pub count-find : (j k : ℕ) (f : Forest) → count j (find k f) ≤ count j f
count-find j k empty = omega arith
count-find j k (node n c kids later) =
    elim (same_cases k n) [
      | inl p ↦ rw p.2 (omega arith)
      | inr p ↦ rw p.2 (elim (cases_eq (count k kids) 0) [
        | inl z ↦ rw (find-none k kids z) (omega (arith, count-find j k later))
        | inr z ↦ rw (find-counted k kids (find k later) (omega arith)) (omega (arith, count-find j k kids))
      ])
    ]

pub count-parts : (j : ℕ) (f : Forest) → count j (children f) + count j (later_of f) ≤ count j f
count-parts j empty = omega arith
count-parts j (node n c kids later) = omega arith

-- a node that stands once isn't below itself
pub count-below_itself : (k : ℕ) (f : Forest) → count k f ≡ 1 → count k (children (find k f)) ≡ 0
count-below_itself k f h =
    let r = found k f (omega arith) in
    omega (arith, count-find k k f, ap (count k) r.3, ap (λ (g : Forest). count k (children g)) r.3, same-same k)

-- the first node
pub find-first : (n : ℕ) (c : Content) (kids later : Forest) → find n (node n c kids later) ≡ node n c kids later
find-first n c kids later = rw (eq-eqb n n refl) refl

-- a node below the first one
pub find-below : (k n : ℕ) (c : Content) (kids later : Forest) → count k (node n c kids later) ≤ 1 → 0 < count k kids → find k (node n c kids later) ≡ find k kids
find-below k n c kids later once h =
    elim (same_cases k n) [
      | inl p ↦ absurd (omega arith)
      | inr p ↦ rw (p.2, find-none k later (omega arith)) (or_else-empty (find k kids))
    ]

-- a node behind the first one
pub find-behind : (k n : ℕ) (c : Content) (kids later : Forest) → count k (node n c kids later) ≤ 1 → 0 < count k later → find k (node n c kids later) ≡ find k later
find-behind k n c kids later once h =
    elim (same_cases k n) [
      | inl p ↦ absurd (omega arith)
      | inr p ↦ rw (p.2, find-none k kids (omega arith)) refl
    ]

-- nodes other than the document
pub find-rooted : (k : ℕ) (f : Forest) → (k ≡ 0 → ⊥) → find k (rooted f) ≡ find k f
find-rooted k f h = rw (ne_eqb k 0 h) (or_else-empty (find k f))

-- what stands among the numbers is counted
pub numbers-counted : (k : ℕ) (f : Forest) → is_in (numbers f) k ≡ true → 0 < count k f
numbers-counted k empty h = absurd (both_ways false refl h)
numbers-counted k (node n c kids later) h =
    elim (same_cases k n) [
      | inl p ↦ omega arith
      | inr p ↦
          let among : (is_in (numbers kids) k || is_in (numbers later) k) ≡ true =
          sym (list_any-append (λ y. y == k) (numbers kids) (numbers later))
          ∙ ap (λ b. b || is_in (numbers kids ++ numbers later) k) (sym (ne_eqb n k (λ e. p.0 (sym e)))) ∙ h in
          elim (or_cases (is_in (numbers kids) k) (is_in (numbers later) k) among) [
            | inl i ↦ omega (arith, numbers-counted k kids i)
            | inr i ↦ omega (arith, numbers-counted k later i)
          ]
    ]

-- and nothing else
pub numbers-none : (k : ℕ) (f : Forest) → is_in (numbers f) k ≡ false → count k f ≡ 0
numbers-none k empty h = refl
numbers-none k (node n c kids later) h =
    let parts = or_parts (n == k) (is_in (numbers kids ++ numbers later) k) h in
    let below = or_parts (is_in (numbers kids) k) (is_in (numbers later) k) (sym (list_any-append (λ y. y == k) (numbers kids) (numbers later)) ∙ parts.1) in
    elim (same_cases k n) [
      | inl p ↦ absurd (both_ways (n == k) parts.0 (eq-eqb n k (sym p.0)))
      | inr p ↦ omega (arith, numbers-none k kids below.0, numbers-none k later below.1)
    ]
