-- What edits of a forest leave as it was.
use Rattle.std.proofs.Common.{◌≡◌, ℕ, zero, suc, ◌+◌, ◌<◌, ◌≤◌, Bool, true, false, ◌==◌, ◌⊎◌, inl, inr, List, [], ◌∷◌, cond, Option, None, Some, unwrap_or, refl, sym, ap, ap₂, ◌∙◌, arith}
use Rattle.std.specs.Str.{bytes_eq}
use Rattle.std.proofs.lemmas.Bool.{eqb-true, eq-eqb, ne_eqb, cases_eq}
use Rattle.std.proofs.lemmas.Slice.Eq.{bytes_eq-Decides}
use Rattle.page_tree.specs.Forest.{Content, document, Forest, empty, node, Tree, count, tops, find, or_else, children, content, value_at}
use Rattle.page_tree.specs.Edits.{joined, insert_at, with_children, without, pruned, alone, content_at, with_attr, without_attr}
use Rattle.page_tree.specs.Directions.{is_in}
use Rattle.page_tree.proofs.Finding.{same_cases, or_else-empty, find-none, find-first, find-below, find-behind, find-rooted}
use Rattle.page_tree.proofs.Around.{counted_first, where_is}
use Rattle.selector_meaning.specs.Texts.{Bytes}
use Rattle.sensor_laws.proofs.Any.{never_true, or_parts, or-left, or-right, no, here}
use Rattle.sensor_laws.proofs.Relations.{cases}
use Rattle.sensor_laws.proofs.Pruned.{cut-gone, cut-kept}

-- ---- attributes of other names
pub value_set : (name value other : Bytes) (attrs : List (Bytes × Bytes)) → bytes_eq name other ≡ false → value_at other attrs ≡ value_at other (with_attr name value attrs)
value_set name value other [] apart = sym (ap (λ b. cond b (Some value) None) apart)
value_set name value other (a ∷ attrs) apart =
    cases (bytes_eq a.0 name)
    (λ is. let far : bytes_eq a.0 other ≡ false = ap (λ (n : Bytes). bytes_eq n other) ((bytes_eq-Decides a.0 name).0 is) ∙ apart in
    ap (λ b. cond b (Some a.1) (value_at other attrs)) far
    ∙ sym (ap (λ b. value_at other (cond b ((name, value) ∷ attrs) (a ∷ with_attr name value attrs))) is ∙ ap (λ b. cond b (Some value) (value_at other attrs)) apart))
    (λ is. ap (λ o. cond (bytes_eq a.0 other) (Some a.1) o) (value_set name value other attrs apart)
    ∙ sym (ap (λ b. value_at other (cond b ((name, value) ∷ attrs) (a ∷ with_attr name value attrs))) is))

pub value_dropped : (name other : Bytes) (attrs : List (Bytes × Bytes)) → bytes_eq name other ≡ false → value_at other attrs ≡ value_at other (without_attr name attrs)
value_dropped name other [] apart = refl
value_dropped name other (a ∷ attrs) apart =
    cases (bytes_eq a.0 name)
    (λ is. let far : bytes_eq a.0 other ≡ false = ap (λ (n : Bytes). bytes_eq n other) ((bytes_eq-Decides a.0 name).0 is) ∙ apart in
    ap (λ b. cond b (Some a.1) (value_at other attrs)) far
    ∙ sym (ap (λ b. value_at other (cond b attrs (a ∷ without_attr name attrs))) is))
    (λ is. ap (λ o. cond (bytes_eq a.0 other) (Some a.1) o) (value_dropped name other attrs apart)
    ∙ sym (ap (λ b. value_at other (cond b attrs (a ∷ without_attr name attrs))) is))

-- ---- the content of a node other than the document
pub content_there : (t : Tree) (n : ℕ) (c : Content) → content_at n t ≡ c → (c ≡ document → ⊥) → content (find n t.nodes) ≡ Some c
content_there t n c is other =
    elim (cases_eq n 0) [
      | inl z ↦ absurd (other (sym is ∙ ap (λ (k : ℕ). content_at k t) z))
      | inr z ↦ pick (content (find n t.nodes)) (sym (ap (λ (f : Forest). unwrap_or (content f) document) (find-rooted n t.nodes z)) ∙ is)
    ]
  where
    pick : (o : Option Content) → unwrap_or o document ≡ c → o ≡ Some c
    pick None h = absurd (other (sym h))
    pick (Some d) h = ap Some h

-- ---- pruned forests
module _ (top : ℕ → Bool) where
  pub pruned-kept : (f : Forest) → ((x : ℕ) → 0 < count x f → top x ≡ false) → pruned top f ≡ f
  pruned-kept empty h = refl
  pruned-kept (node n c kids later) h =
      cut-kept top top 0 n c kids later (h n (counted_first n c kids later))
      ∙ ap₂ (node n c) (pruned-kept kids (λ x i. h x (omega arith))) (pruned-kept later (λ x i. h x (omega arith)))

  abbrev AllTop : Forest → Type 0
  AllTop new = (x : ℕ) → is_in (tops new) x ≡ true → top x ≡ true

  pruned-tops : (new : Forest) → AllTop new → pruned top new ≡ empty
  pruned-tops empty h = refl
  pruned-tops (node n c kids later) h =
      cut-gone top top 0 n c kids later (h n (here n (tops later))) ∙ pruned-tops later (λ x i. h x (or-right (n == x) (is_in (tops later) x) i))

  pruned-joined : (new g : Forest) → AllTop new → pruned top (joined new g) ≡ pruned top g
  pruned-joined empty g h = refl
  pruned-joined (node n c kids later) g h =
      cut-gone top top 0 n c kids (joined later g) (h n (here n (tops later))) ∙ pruned-joined later g (λ x i. h x (or-right (n == x) (is_in (tops later) x) i))

  pub pruned-inserted : (place : ℕ) (new g : Forest) → AllTop new → pruned top (insert_at place new g) ≡ pruned top g
  pruned-inserted zero new empty h = pruned-tops new h
  pruned-inserted (suc place) new empty h = pruned-tops new h
  pruned-inserted zero new (node n c kids later) h = pruned-joined new (node n c kids later) h
  pruned-inserted (suc place) new (node n c kids later) h =
      cases (top n)
      (λ g. cut-gone top top 0 n c kids (insert_at place new later) g ∙ pruned-inserted place new later h ∙ sym (cut-gone top top 0 n c kids later g))
      (λ g. cut-kept top top 0 n c kids (insert_at place new later) g ∙ ap (node n c (pruned top kids)) (pruned-inserted place new later h) ∙ sym (cut-kept top top 0 n c kids later g))

pub pruned-alike : (p q : ℕ → Bool) (f : Forest) → ((x : ℕ) → p x ≡ q x) → pruned p f ≡ pruned q f
pruned-alike p q empty h = refl
pruned-alike p q (node n c kids later) h =
    ap (λ b. cond b (pruned p later) (node n c (pruned p kids) (pruned p later))) (h n)
    ∙ ap₂ (λ k l. cond (q n) l (node n c k l)) (pruned-alike p q kids h) (pruned-alike p q later h)

pub without-pruned : (k : ℕ) (f : Forest) → ((x : ℕ) → count x f ≤ 1) → without k f ≡ pruned (λ j. j == k) f
without-pruned k empty once = refl
without-pruned k (node n c kids later) once =
    elim (same_cases k n) [
      | inl is ↦
          rw is.2 (sym (cut-gone (λ j. j == k) (λ j. j == k) 0 n c kids later (eq-eqb n k (sym is.0))
          ∙ pruned-kept (λ j. j == k) later (λ x i. no (x == k) (λ e. omega (arith, once k, ap (λ (j : ℕ). count j later) (eqb-true x k e))))))
      | inr is ↦
          rw is.2 (ap₂ (node n c) (without-pruned k kids (λ x. omega (arith, once x))) (without-pruned k later (λ x. omega (arith, once x)))
          ∙ sym (cut-kept (λ j. j == k) (λ j. j == k) 0 n c kids later (ne_eqb n k (λ e. is.0 (sym e)))))
    ]

pub without-fewer : (k x : ℕ) (f : Forest) → count x (without k f) ≤ count x f
without-fewer k x empty = omega arith
without-fewer k x (node n c kids later) =
    elim (same_cases k n) [
      | inl is ↦ rw is.2 (omega arith)
      | inr is ↦ rw is.2 (omega (arith, without-fewer k x kids, without-fewer k x later))
    ]

pub without-none : (k x : ℕ) (f : Forest) → ((j : ℕ) → count j f ≤ 1) → count k (without k f) ≡ 0
without-none k x empty once = refl
without-none k x (node n c kids later) once =
    elim (same_cases k n) [
      | inl is ↦ rw is.2 (omega (arith, once k))
      | inr is ↦ rw is.2 (omega (arith, without-none k x kids (λ j. omega (arith, once j)), without-none k x later (λ j. omega (arith, once j))))
    ]

-- ---- new children of a node
pub absent : (p : ℕ) (g f : Forest) → count p f ≡ 0 → with_children p g f ≡ f
absent p g empty z = refl
absent p g (node n c kids later) z =
    elim (same_cases p n) [
      | inl is ↦ absurd (omega arith)
      | inr is ↦ rw is.2 (ap₂ (node n c) (absent p g kids (omega arith)) (absent p g later (omega arith)))
    ]

module _ (p : ℕ) (g : Forest) where
  -- where p stands, and what is there then
  abbrev Splits : (n : ℕ) (c : Content) (kids later : Forest) → Type 0
  Splits n c kids later =
      ((p ≡ n) × (with_children p g (node n c kids later) ≡ node n c g later) × (count p later ≡ 0))
      ⊎ (((p ≡ n → ⊥) × (0 < count p kids) × (with_children p g (node n c kids later) ≡ node n c (with_children p g kids) later) × (count p later ≡ 0))
      ⊎ ((p ≡ n → ⊥) × (0 < count p later) × (with_children p g (node n c kids later) ≡ node n c kids (with_children p g later)) × (count p kids ≡ 0)))

  splits : (n : ℕ) (c : Content) (kids later : Forest) → count p (node n c kids later) ≤ 1 → 0 < count p (node n c kids later) → Splits n c kids later
  splits n c kids later once there =
      elim (same_cases p n) [
        | inl is ↦ inl (is.0, rw is.2 (ap (node n c g) (absent p g later (omega arith))), omega arith)
        | inr is ↦ elim (cases_eq (count p kids) 0) [
          | inl z ↦ inr (inr (is.0, omega arith, rw is.2 (ap (λ k. node n c k (with_children p g later)) (absent p g kids z)), z))
          | inr z ↦ inr (inl (is.0, omega arith, rw is.2 (ap (node n c (with_children p g kids)) (absent p g later (omega arith))), omega arith))
        ]
      ]

  -- the old children stay where the new ones are pruned
  pub pruned-within : (top : ℕ → Bool) (f : Forest) → count p f ≤ 1 → 0 < count p f → ((x : ℕ) → 0 < count x f → top x ≡ false) →
      pruned top g ≡ children (find p f) → pruned top (with_children p g f) ≡ f
  pruned-within top empty once there out is = refl
  pruned-within top (node n c kids later) once there out is =
      let g0 : top n ≡ false = out n (counted_first n c kids later) in
      let stays_kids : pruned top kids ≡ kids = pruned-kept top kids (λ x i. out x (omega arith)) in
      let stays_later : pruned top later ≡ later = pruned-kept top later (λ x i. out x (omega arith)) in
      elim (splits n c kids later once there) [
        | inl at ↦ ap (pruned top) at.1 ∙ cut-kept top top 0 n c g later g0
            ∙ ap₂ (node n c) (is ∙ ap children (ap (λ (k : ℕ). find k (node n c kids later)) at.0 ∙ find-first n c kids later)) stays_later
        | inr more ↦ elim more [
          | inl at ↦ ap (pruned top) at.2 ∙ cut-kept top top 0 n c (with_children p g kids) later g0
              ∙ ap₂ (node n c) (pruned-within top kids (omega arith) at.1 (λ x i. out x (omega arith)) (is ∙ ap children (find-below p n c kids later once at.1))) stays_later
          | inr at ↦ ap (pruned top) at.2 ∙ cut-kept top top 0 n c kids (with_children p g later) g0
              ∙ ap₂ (node n c) stays_kids (pruned-within top later (omega arith) at.1 (λ x i. out x (omega arith)) (is ∙ ap children (find-behind p n c kids later once at.1)))
        ]
      ]

  -- the new children are those of p
  pub children-within : (f : Forest) → count p f ≤ 1 → 0 < count p f → children (find p (with_children p g f)) ≡ g
  children-within empty once there = absurd (omega arith)
  children-within (node n c kids later) once there =
      elim (splits n c kids later once there) [
        | inl at ↦ ap (λ (h : Forest). children (find p h)) at.1 ∙ ap children (ap (λ (k : ℕ). find k (node n c g later)) at.0 ∙ find-first n c g later)
        | inr more ↦ elim more [
          | inl at ↦ ap (λ (h : Forest). children (find p h)) at.2
              ∙ rw (ne_eqb p n at.0, find-none p later at.3, or_else-empty (find p (with_children p g kids))) (children-within kids (omega arith) at.1)
          | inr at ↦ ap (λ (h : Forest). children (find p h)) at.2
              ∙ rw (ne_eqb p n at.0, find-none p kids at.3) (children-within later (omega arith) at.1)
        ]
      ]

  -- a node that is new is found among the new children
  pub find-within : (k : ℕ) (f : Forest) → count p f ≤ 1 → 0 < count p f → count k f ≡ 0 → find k (with_children p g f) ≡ find k g
  find-within k empty once there z = absurd (omega arith)
  find-within k (node n c kids later) once there z =
      let apart : k ≡ n → ⊥ = λ e. elim (same_cases k n) [ inl s ↦ omega arith | inr s ↦ s.0 e ] in
      elim (splits n c kids later once there) [
        | inl at ↦ ap (find k) at.1 ∙ rw (ne_eqb k n apart, find-none k later (omega arith), or_else-empty (find k g)) refl
        | inr more ↦ elim more [
          | inl at ↦ ap (find k) at.2
              ∙ rw (ne_eqb k n apart, find-none k later (omega arith), or_else-empty (find k (with_children p g kids))) (find-within k kids (omega arith) at.1 (omega arith))
          | inr at ↦ ap (find k) at.2 ∙ rw (ne_eqb k n apart, find-none k kids (omega arith)) (find-within k later (omega arith) at.1 (omega arith))
        ]
      ]

tops-joined : (x : ℕ) (new g : Forest) → is_in (tops new) x ≡ true → is_in (tops (joined new g)) x ≡ true
tops-joined x empty g h = never_true h
tops-joined x (node n c kids later) g h = elim (or_parts (n == x) (is_in (tops later) x) h) [
  | inl i ↦ or-left (n == x) (is_in (tops (joined later g)) x) i
  | inr i ↦ or-right (n == x) (is_in (tops (joined later g)) x) (tops-joined x later g i)
]

pub tops-inserted : (x place : ℕ) (new g : Forest) → is_in (tops new) x ≡ true → is_in (tops (insert_at place new g)) x ≡ true
tops-inserted x zero new empty h = h
tops-inserted x (suc place) new empty h = h
tops-inserted x zero new (node n c kids later) h = tops-joined x new (node n c kids later) h
tops-inserted x (suc place) new (node n c kids later) h = or-right (n == x) (is_in (tops (insert_at place new later)) x) (tops-inserted x place new later h)

-- one new node, found with what is below it
pub alone-inserted : (n : ℕ) (c : Content) (kids : Forest) (place : ℕ) (g : Forest) → count n g ≡ 0 →
    alone (find n (insert_at place (node n c kids empty) g)) ≡ node n c kids empty
alone-inserted n c kids zero empty z = ap alone (find-first n c kids empty)
alone-inserted n c kids (suc place) empty z = ap alone (find-first n c kids empty)
alone-inserted n c kids zero (node m d inner later) z = ap alone (find-first n c kids (node m d inner later))
alone-inserted n c kids (suc place) (node m d inner later) z =
    elim (same_cases n m) [
      | inl is ↦ absurd (omega arith)
      | inr is ↦ rw (is.2, find-none n inner (omega arith)) (alone-inserted n c kids place later (omega arith))
    ]

-- a node that stands in a forest is found under its number
pub found_as : (k : ℕ) (f : Forest) → ((j : ℕ) → count j f ≤ 1) → 0 < count k f → (c : Content) × (kids : Forest) × (later : Forest) × (find k f ≡ node k c kids later)
found_as k empty once there = absurd (omega arith)
found_as k (node n c kids later) once there =
    elim (where_is k n c kids later there) [
      | inl is ↦ (c, kids, later, ap (λ (j : ℕ). find j (node n c kids later)) is ∙ find-first n c kids later ∙ ap (λ (j : ℕ). node j c kids later) (sym is))
      | inr more ↦ elim more [
        | inl i ↦ (let r = found_as k kids (λ j. omega (arith, once j)) i in (r.0, r.1, r.2, find-below k n c kids later (once k) i ∙ r.3))
        | inr i ↦ (let r = found_as k later (λ j. omega (arith, once j)) i in (r.0, r.1, r.2, find-behind k n c kids later (once k) i ∙ r.3))
      ]
    ]

pub find-fewer : (p x : ℕ) (f : Forest) → count x (find p f) ≤ count x f
find-fewer p x empty = omega arith
find-fewer p x (node n c kids later) =
    elim (same_cases p n) [
      | inl is ↦ rw is.2 (omega arith)
      | inr is ↦ rw is.2 (omega (arith, or_else-fewer (find p kids) (find p later), find-fewer p x kids, find-fewer p x later))
    ]
  where
    or_else-fewer : (a b : Forest) → count x (or_else a b) ≤ count x a + count x b
    or_else-fewer empty b = omega arith
    or_else-fewer (node m d inner rest) b = omega arith

pub children-fewer : (x : ℕ) (f : Forest) → count x (children f) ≤ count x f
children-fewer x empty = omega arith
children-fewer x (node n c kids later) = omega arith
