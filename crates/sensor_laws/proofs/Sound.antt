-- What a tree whose elements have different numbers, none of them 0, has around each element.
use Rattle.std.proofs.Common.{◌≡◌, ℕ, Bool, true, false, ◌==◌, ◌⊎◌, inl, inr, List, [], ◌∷◌, ◌++◌, map, find, Some, None, cond, option_map, unwrap_or, refl, sym, ap, ◌∙◌}
use Rattle.std.proofs.lemmas.Bool.{eqb-true, eq-eqb}
use Rattle.page_tree.specs.Directions.{is_in, numbers_of}
use Rattle.page_tree.specs.Forest.{Forest, Tree, comment, document, element, empty, node, text}
use Rattle.page_tree.specs.Standings.{Sibling, Standing, above, all, attrs, before, elements, name, standing, standings}
use Rattle.sensor_laws.specs.Frame.{IsDistinct, IsSound}
use Rattle.sensor_laws.proofs.Any.{never_true, or_parts, or-left, or-right, no, both, here}

-- a standing is in a list
abbrev pub In : Standing → List Standing → Type 0
In s [] = ⊥
In s (x ∷ xs) = (x ≡ s) ⊎ In s xs

pub in-left : (s : Standing) (xs ys : List Standing) → In s xs → In s (xs ++ ys)
in-left s [] ys i = absurd i
in-left s (x ∷ xs) ys (inl e) = inl e
in-left s (x ∷ xs) ys (inr i) = inr (in-left s xs ys i)

pub in-right : (s : Standing) (xs ys : List Standing) → In s ys → In s (xs ++ ys)
in-right s [] ys i = i
in-right s (x ∷ xs) ys i = inr (in-right s xs ys i)

pub in-either : (s : Standing) (xs ys : List Standing) → In s (xs ++ ys) → In s xs ⊎ In s ys
in-either s [] ys i = inr i
in-either s (x ∷ xs) ys (inl e) = inl (inl e)
in-either s (x ∷ xs) ys (inr i) = elim (in-either s xs ys i) [ inl j ↦ inl (inr j) | inr j ↦ inr j ]

abbrev pub named : List Standing → List ℕ
named xs = map (λ s. s.number) xs

pub in_named : (s : Standing) (xs : List Standing) → In s xs → is_in (named xs) s.number ≡ true
in_named s [] i = absurd i
in_named s (x ∷ xs) (inl e) = or-left (x.number == s.number) (is_in (named xs) s.number) (eq-eqb _ _ (ap (λ r. r.number) e))
in_named s (x ∷ xs) (inr i) = or-right (x.number == s.number) (is_in (named xs) s.number) (in_named s xs i)

pub lookup : (xs : List Standing) → IsDistinct (named xs) → (s : Standing) → In s xs → find (λ e. e.number == s.number) xs ≡ Some s
lookup [] d s i = absurd i
lookup (x ∷ xs) d s (inl e) = ap (λ b. cond b (Some x) (find (λ r. r.number == s.number) xs)) (eq-eqb _ _ (ap (λ r. r.number) e)) ∙ ap Some e
lookup (x ∷ xs) d s (inr i) =
    ap (λ b. cond b (Some x) (find (λ r. r.number == s.number) xs))
    (no (x.number == s.number) (λ h. both (is_in (named xs) x.number) (ap (is_in (named xs)) (eqb-true x.number s.number h) ∙ in_named s xs i) d.0))
    ∙ lookup xs d.1 s i

-- what a look-up finds
abbrev pub View : List Standing → ℕ → Type 0
View xs x = (find (λ e. e.number == x) xs ≡ None) ⊎ ((s : Standing) × In s xs × (s.number ≡ x) × (find (λ e. e.number == x) xs ≡ Some s))

pub view : (xs : List Standing) (x : ℕ) → View xs x
view [] x = inl refl
view (y ∷ xs) x = case (y.number == x) refl (view xs x)
  where
    case : (b : Bool) → (y.number == x) ≡ b → View xs x → View (y ∷ xs) x
    case true e v = inr (y, inl refl, eqb-true y.number x e, ap (λ c. cond c (Some y) (find (λ r. r.number == x) xs)) e)
    case false e (inl n) = inl (ap (λ c. cond c (Some y) (find (λ r. r.number == x) xs)) e ∙ n)
    case false e (inr v) = inr (v.0, inr v.1, v.2, ap (λ c. cond c (Some y) (find (λ r. r.number == x) xs)) e ∙ v.3)

abbrev first : List ℕ → ℕ
first [] = 0
first (x ∷ xs) = x

abbrev tail : List ℕ → List ℕ
tail [] = []
tail (x ∷ xs) = xs

-- the one above stands in the forest, or is what the forest stands below
climbs_in : (f : Forest) (up : List ℕ) (seen : List Sibling) (s : Standing) → In s (standings up seen f) →
    (z : ℕ) (more : List ℕ) → s.above ≡ z ∷ more →
    (up ≡ z ∷ more) ⊎ ((r : Standing) × In r (standings up seen f) × (r.number ≡ z) × (r.above ≡ more))
climbs_in empty up seen s i z more e = absurd i
climbs_in (node n (text b) kids rest) up seen s i z more e = climbs_in rest up seen s i z more e
climbs_in (node n document kids rest) up seen s i z more e = climbs_in rest up seen s i z more e
climbs_in (node n (comment b) kids rest) up seen s i z more e = climbs_in rest up seen s i z more e
climbs_in (node n (element name attrs) kids rest) up seen s (inl is) z more e = inl (ap (λ r. r.above) is ∙ e)
climbs_in (node n (element name attrs) kids rest) up seen s (inr i) z more e =
    elim (in-either s (standings (n ∷ up) [] kids) (standings up (record { number = n; name = name } ∷ seen) rest) i) [
      | inl j ↦ elim (climbs_in kids (n ∷ up) [] s j z more e) [
        | inl is ↦ inr (_, inl refl, ap first is, ap tail is)
        | inr r ↦ inr (r.0, inr (in-left r.0 _ _ r.1), r.2, r.3)
      ]
      | inr j ↦ elim (climbs_in rest up (record { number = n; name = name } ∷ seen) s j z more e) [
        | inl is ↦ inl is
        | inr r ↦ inr (r.0, inr (in-right r.0 (standings (n ∷ up) [] kids) _ r.1), r.2, r.3)
      ]
    ]

-- an earlier sibling stands in the forest, below the same
shared_in : (f : Forest) (up : List ℕ) (seen : List Sibling) (s : Standing) → In s (standings up seen f) →
    (b : ℕ) → is_in (numbers_of s.before) b ≡ true →
    ((is_in (numbers_of seen) b ≡ true) × (s.above ≡ up)) ⊎ ((r : Standing) × In r (standings up seen f) × (r.number ≡ b) × (r.above ≡ s.above))
shared_in empty up seen s i b h = absurd i
shared_in (node n (text c) kids rest) up seen s i b h = shared_in rest up seen s i b h
shared_in (node n document kids rest) up seen s i b h = shared_in rest up seen s i b h
shared_in (node n (comment c) kids rest) up seen s i b h = shared_in rest up seen s i b h
shared_in (node n (element name attrs) kids rest) up seen s (inl is) b h =
    inl (ap (λ r. is_in (numbers_of r.before) b) is ∙ h, ap (λ r. r.above) (sym is))
shared_in (node n (element name attrs) kids rest) up seen s (inr i) b h =
    elim (in-either s (standings (n ∷ up) [] kids) (standings up (record { number = n; name = name } ∷ seen) rest) i) [
      | inl j ↦ elim (shared_in kids (n ∷ up) [] s j b h) [
        | inl k ↦ never_true k.0
        | inr r ↦ inr (r.0, inr (in-left r.0 _ _ r.1), r.2, r.3)
      ]
      | inr j ↦ elim (shared_in rest up (record { number = n; name = name } ∷ seen) s j b h) [
        | inl k ↦ elim (or_parts (n == b) (is_in (numbers_of seen) b) k.0) [
          | inl e ↦ inr (_, inl refl, eqb-true n b e, sym k.1)
          | inr m ↦ inl (m, k.1)
        ]
        | inr r ↦ inr (r.0, inr (in-right r.0 (standings (n ∷ up) [] kids) _ r.1), r.2, r.3)
      ]
    ]

module _ (t : Tree) (distinct : IsDistinct (all t)) (lone : is_in (all t) 0 ≡ false) where
  none_above : (z : ℕ) (more : List ℕ) → [] ≡ z ∷ more → ⊥
  none_above z more e = both (is_in [] z) (ap (λ l. is_in l z) e ∙ here z more) refl

  pub known : (s : Standing) → In s (elements t) → standing t s.number ≡ Some s
  unfolding standing
  known s i = lookup (elements t) distinct s i

  pub above_is : (x : ℕ) (s : Standing) → In s (elements t) → s.number ≡ x → above t x ≡ s.above
  above_is x s i e = ap (above t) (sym e) ∙ ap (λ o. unwrap_or (option_map (λ r. r.above) o) []) (known s i)

  pub before_is : (x : ℕ) (s : Standing) → In s (elements t) → s.number ≡ x → before t x ≡ s.before
  before_is x s i e = ap (before t) (sym e) ∙ ap (λ o. unwrap_or (option_map (λ r. r.before) o) []) (known s i)

  pub in_all : (x : ℕ) (s : Standing) → In s (elements t) → s.number ≡ x → is_in (all t) x ≡ true
  in_all x s i e = ap (is_in (all t)) (sym e) ∙ in_named s (elements t) i

  one_up : (s : Standing) → In s (elements t) → (z : ℕ) (more : List ℕ) → s.above ≡ z ∷ more →
      (r : Standing) × In r (elements t) × (r.number ≡ z) × (r.above ≡ more)
  unfolding elements
  one_up s i z more e = elim (climbs_in t.nodes [] [] s i z more e) [
    | inl is ↦ absurd (none_above z more is)
    | inr r ↦ r
  ]

  one_before : (s : Standing) → In s (elements t) → (b : ℕ) → is_in (numbers_of s.before) b ≡ true →
      (r : Standing) × In r (elements t) × (r.number ≡ b) × (r.above ≡ s.above)
  unfolding elements
  one_before s i b h = elim (shared_in t.nodes [] [] s i b h) [
    | inl k ↦ never_true k.0
    | inr r ↦ r
  ]

  -- what stands above stands in the tree
  all_up : (l : List ℕ) (s : Standing) → In s (elements t) → s.above ≡ l → (z : ℕ) → is_in l z ≡ true →
      (r : Standing) × In r (elements t) × (r.number ≡ z)
  all_up [] s i e z h = never_true h
  all_up (y ∷ l) s i e z h =
      let r = one_up s i y l e in
      elim (or_parts (y == z) (is_in l z) h) [ inl n ↦ (r.0, r.1, r.2 ∙ eqb-true y z n) | inr n ↦ all_up l r.0 r.1 r.3 z n ]

  at : (x : ℕ) → View (elements t) x
  at x = view (elements t) x

  above_none : (x : ℕ) → find (λ r. r.number == x) (elements t) ≡ None → above t x ≡ []
  unfolding standing
  above_none x n = ap (λ o. unwrap_or (option_map (λ r. r.above) o) []) n

  before_none : (x : ℕ) → find (λ r. r.number == x) (elements t) ≡ None → before t x ≡ []
  unfolding standing
  before_none x n = ap (λ o. unwrap_or (option_map (λ r. r.before) o) []) n

  pub sound : IsSound t
  sound = record {
    lone = lone;
    inside = λ x z h. elim (at x) [
      | inl n ↦ never_true (ap (λ l. is_in l z) (sym (above_none x n)) ∙ h)
      | inr v ↦ (let q = all_up v.0.above v.0 v.1 refl z (ap (λ l. is_in l z) (sym (above_is x v.0 v.1 v.2)) ∙ h) in in_all z q.0 q.1 q.2)
    ];
    climbs = λ x z more e. elim (at x) [
      | inl n ↦ absurd (none_above z more (sym (above_none x n) ∙ e))
      | inr v ↦ (let q = one_up v.0 v.1 z more (sym (above_is x v.0 v.1 v.2) ∙ e) in sym (above_is z q.0 q.1 q.2 ∙ q.3))
    ];
    shared = λ x z h. elim (at z) [
      | inl n ↦ never_true (ap (λ l. is_in (numbers_of l) x) (sym (before_none z n)) ∙ h)
      | inr v ↦ (
          let q = one_before v.0 v.1 x (ap (λ l. is_in (numbers_of l) x) (sym (before_is z v.0 v.1 v.2)) ∙ h) in
          (in_all x q.0 q.1 q.2, above_is x q.0 q.1 q.2 ∙ q.3 ∙ sym (above_is z v.0 v.1 v.2)))
    ];
  }
