-- The way along the last nodes of a forest, and what is hung behind its end.
use Rattle.std.proofs.Common.{◌≡◌, ℕ, zero, suc, ◌+◌, ◌≤◌, true, refl, ◌∙◌, ap, inl, inr, arith}
use Rattle.page_tree.specs.Forest.{Content, Forest, empty, node, same, count, find, children}
use Rattle.page_tree.specs.Edits.{joined, insert_at, with_children}
use Rattle.page_tree.specs.Fragments.{hung}
use Rattle.page_tree.proofs.Finding.{same_cases, same-same}
use Rattle.page_tree.proofs.Totals.{with_children-none}
use Rattle.dom_arena.specs.declared.table.Slot.{Slot}
use Rattle.dom_arena.specs.Contents.{payload_of, may_hold}
use Rattle.dom_arena.specs.Slots.{climbed, last_behind}
use Rattle.dom_arena.specs.Linked.{Linked}
use Rattle.dom_arena.proofs.Regrafts.{find_down, find_along}

-- so many nodes stand below each other along the last ones, and may have children
abbrev pub OnWay : ℕ → Forest → Type 0
OnWay zero g = Unit {0}
OnWay (suc d) empty = ⊥
OnWay (suc d) (node n c kids empty) = (may_hold (payload_of c) ≡ true) × OnWay d kids
OnWay (suc d) (node n c kids (node m e inner later)) = OnWay (suc d) (node m e inner later)

-- the number so many levels down along the last nodes, from that of their parent
abbrev pub way_at : ℕ → ℕ → Forest → ℕ
way_at up zero g = up
way_at up (suc d) empty = up
way_at up (suc d) (node n c kids empty) = way_at n d kids
way_at up (suc d) (node n c kids (node m e inner later)) = way_at up (suc d) (node m e inner later)

-- the slots know the parents of a forest, and what its nodes are
abbrev pub Under : (ℕ → Slot) → ℕ → Forest → Type 0
Under s p empty = Unit {0}
Under s p (node n c kids later) = ((s n).parent ≡ p) × ((s n).payload ≡ payload_of c) × Under s n kids × Under s p later

-- linked slots know both
pub Under-linked : (s : ℕ → Slot) (p b : ℕ) (f : Forest) → Linked s p b f → Under s p f
Under-linked s p b empty l = tt
Under-linked s p b (node n c kids later) l = (
  ap (λ (x : Slot). x.parent) l.0,
  ap (λ (x : Slot). x.payload) l.0,
  Under-linked s n 0 kids l.1,
  Under-linked s p n later l.2,
)

-- so of the nodes that were put in between others
Under-joined : (s : ℕ → Slot) (p : ℕ) (g f : Forest) → Under s p (joined g f) → Under s p g
Under-joined s p empty f u = tt
Under-joined s p (node n c kids later) f u = (u.0, u.1, u.2, Under-joined s p later f u.3)

pub Under-insert : (s : ℕ → Slot) (p i : ℕ) (g f : Forest) → Under s p (insert_at i g f) → Under s p g
Under-insert s p i g empty u = u
Under-insert s p zero g (node n c kids later) u = Under-joined s p g (node n c kids later) u
Under-insert s p (suc i) g (node n c kids later) u = Under-insert s p i g later u.3

-- one level less
OnWay-front : (d : ℕ) (g : Forest) → OnWay (suc d) g → OnWay d g
OnWay-front zero g w = tt
OnWay-front (suc d) empty w = absurd w
OnWay-front (suc d) (node n c kids empty) w = (w.0, OnWay-front d kids w.1)
OnWay-front (suc d) (node n c kids (node m e inner later)) w = OnWay-front (suc d) (node m e inner later) w

-- fewer levels
pub OnWay-less : (l d : ℕ) (g : Forest) → d ≤ l → OnWay l g → OnWay d g
OnWay-less zero zero g le w = tt
OnWay-less zero (suc d) g le w = absurd (omega arith)
OnWay-less (suc l) d g le w =
    elim (same_cases d (suc l)) [
      | inl q ↦ subst_way q.0
      | inr q ↦ OnWay-less l d g (omega (arith, q.0)) (OnWay-front l g w)
    ]
  where
    subst_way : d ≡ suc l → OnWay d g
    subst_way e = rw e w

-- the node at its end is one of the forest
pub way_counts : (up d : ℕ) (g : Forest) → OnWay (suc d) g → 1 ≤ count (way_at up (suc d) g) g
way_counts up d empty w = absurd w
way_counts up zero (node n c kids empty) w = omega (arith, same-same n)
way_counts up (suc d) (node n c kids empty) w = omega (arith, way_counts n d kids w.1)
way_counts up d (node n c kids (node m e inner later)) w = omega (arith, way_counts up d (node m e inner later) w)

-- its parent is the node one level up
pub way_parent : (s : ℕ → Slot) (p d : ℕ) (g : Forest) → OnWay (suc d) g → Under s p g → (s (way_at p (suc d) g)).parent ≡ way_at p d g
way_parent s p d empty w u = absurd w
way_parent s p zero (node n c kids empty) w u = u.0
way_parent s p (suc d) (node n c kids empty) w u = way_parent s n d kids w.1 u.2
way_parent s p zero (node n c kids (node m e inner later)) w u = way_parent s p zero (node m e inner later) w u.3
way_parent s p (suc d) (node n c kids (node m e inner later)) w u = way_parent s p (suc d) (node m e inner later) w u.3

-- it may have children
pub way_holds : (s : ℕ → Slot) (p d : ℕ) (g : Forest) → OnWay (suc d) g → Under s p g → may_hold (s (way_at p (suc d) g)).payload ≡ true
way_holds s p d empty w u = absurd w
way_holds s p zero (node n c kids empty) w u = ap may_hold u.1 ∙ w.0
way_holds s p (suc d) (node n c kids empty) w u = way_holds s n d kids w.1 u.2
way_holds s p d (node n c kids (node m e inner later)) w u = way_holds s p d (node m e inner later) w u.3

-- so many steps up lead so many levels up
pub climbed-way : (s : ℕ → Slot) (p m d l : ℕ) (g : Forest) → l ≡ m + d → OnWay l g → Under s p g → climbed s m (way_at p l g) ≡ way_at p d g
climbed-way s p zero d l g e w u = ap (λ (k : ℕ). way_at p k g) (let same : l ≡ d = omega arith in same)
climbed-way s p (suc m) d zero g e w u = absurd (omega arith)
climbed-way s p (suc m) d (suc l) g e w u =
    ap (λ (k : ℕ). climbed s m k) (way_parent s p l g w u) ∙ climbed-way s p m d l g (omega arith) (OnWay-front l g w) u

-- ---- a node hung behind the end

-- new last children of the node at the end are nodes that hang there
pub hangs : (up d : ℕ) (new g : Forest) → OnWay (suc d) g → count (way_at up (suc d) g) g ≤ 1
    → with_children (way_at up (suc d) g) (joined (children (find (way_at up (suc d) g) g)) new) g ≡ hung (suc d) new g
hangs up d new empty w h = absurd w
hangs up zero new (node n c kids empty) w h = elim (same_cases n n) [ inl q ↦ rw q.2 refl | inr q ↦ absurd (q.0 refl) ]
hangs up (suc d) new (node n c kids empty) w h =
    let q = way_at n (suc d) kids in
    let other : same q n ≡ 0 = omega (arith, way_counts n d kids w.1) in
    down q n c kids empty new other refl ∙ ap (λ inner. node n c inner empty) (hangs n d new kids w.1 (omega arith))
  where
    down : (q n : ℕ) (c : Content) (kids later new : Forest) → same q n ≡ 0 → later ≡ empty
        → with_children q (joined (children (find q (node n c kids empty))) new) (node n c kids empty) ≡ node n c (with_children q (joined (children (find q kids)) new) kids) empty
    down q n c kids later new other e = ap (λ g. with_children q g (node n c kids empty)) (ap (λ x. joined (children x) new) (find_down q n c kids other)) ∙ apart
      where
        apart : with_children q (joined (children (find q kids)) new) (node n c kids empty) ≡ node n c (with_children q (joined (children (find q kids)) new) kids) empty
        apart = elim (same_cases q n) [ inl r ↦ absurd (omega arith) | inr r ↦ rw r.2 refl ]
hangs up d new (node n c kids (node m e inner later)) w h =
    let q = way_at up (suc d) (node m e inner later) in
    let one : 1 ≤ count q (node m e inner later) = way_counts up d (node m e inner later) w in
    let other : same q n ≡ 0 = omega arith in
    let none : count q kids ≡ 0 = omega arith in
    along q n c kids (node m e inner later) new other none ∙ ap (λ rest. node n c kids rest) (hangs up d new (node m e inner later) w (omega arith))
  where
    along : (q n : ℕ) (c : Content) (kids later new : Forest) → same q n ≡ 0 → count q kids ≡ 0
        → with_children q (joined (children (find q (node n c kids later))) new) (node n c kids later) ≡ node n c kids (with_children q (joined (children (find q later)) new) later)
    along q n c kids later new other none = ap (λ g. with_children q g (node n c kids later)) (ap (λ x. joined (children x) new) (find_along q n c kids later other none)) ∙ apart
      where
        apart : with_children q (joined (children (find q later)) new) (node n c kids later) ≡ node n c kids (with_children q (joined (children (find q later)) new) later)
        apart = elim (same_cases q n) [ inl r ↦ absurd (omega arith) | inr r ↦ rw (r.2, with_children-none q (joined (children (find q later)) new) kids none) refl ]

-- a node in front of others is not on the way
behind_way : (d : ℕ) (n : ℕ) (c : Content) (kids later : Forest) → OnWay (suc d) later → OnWay (suc d) (node n c kids later)
behind_way d n c kids empty w = absurd w
behind_way d n c kids (node m e inner later) w = w

behind_at : (up d : ℕ) (n : ℕ) (c : Content) (kids later : Forest) → OnWay (suc d) later → way_at up (suc d) (node n c kids later) ≡ way_at up (suc d) later
behind_at up d n c kids empty w = absurd w
behind_at up d n c kids (node m e inner later) w = refl

-- the way to where the node hangs stays
pub OnWay-hung : (d n : ℕ) (c : Content) (g : Forest) → OnWay d g → OnWay d (hung d (node n c empty empty) g)
OnWay-hung zero n c g w = tt
OnWay-hung (suc d) n c empty w = absurd w
OnWay-hung (suc d) n c (node m e kids empty) w = (w.0, OnWay-hung d n c kids w.1)
OnWay-hung (suc d) n c (node m e kids (node o f inner later)) w =
    behind_way d m e kids (hung (suc d) (node n c empty empty) (node o f inner later)) (OnWay-hung (suc d) n c (node o f inner later) w)

pub way_at-hung : (up d n : ℕ) (c : Content) (g : Forest) → OnWay d g → way_at up d (hung d (node n c empty empty) g) ≡ way_at up d g
way_at-hung up zero n c g w = refl
way_at-hung up (suc d) n c empty w = absurd w
way_at-hung up (suc d) n c (node m e kids empty) w = way_at-hung m d n c kids w.1
way_at-hung up (suc d) n c (node m e kids (node o f inner later)) w =
    behind_at up d m e kids (hung (suc d) (node n c empty empty) (node o f inner later)) (OnWay-hung (suc d) n c (node o f inner later) w)
    ∙ way_at-hung up (suc d) n c (node o f inner later) w

-- a node that may have children goes on it
OnWay-joined : (n : ℕ) (c : Content) (g : Forest) → may_hold (payload_of c) ≡ true → OnWay 1 (joined g (node n c empty empty))
OnWay-joined n c empty h = (h, tt)
OnWay-joined n c (node m e kids later) h = behind_way 0 m e kids (joined later (node n c empty empty)) (OnWay-joined n c later h)

way_at-joined : (up n : ℕ) (c : Content) (g : Forest) → may_hold (payload_of c) ≡ true → way_at up 1 (joined g (node n c empty empty)) ≡ n
way_at-joined up n c empty h = refl
way_at-joined up n c (node m e kids later) h =
    behind_at up 0 m e kids (joined later (node n c empty empty)) (OnWay-joined n c later h) ∙ way_at-joined up n c later h

pub OnWay-more : (d n : ℕ) (c : Content) (g : Forest) → OnWay d g → may_hold (payload_of c) ≡ true → OnWay (suc d) (hung d (node n c empty empty) g)
OnWay-more zero n c g w h = OnWay-joined n c g h
OnWay-more (suc d) n c empty w h = absurd w
OnWay-more (suc d) n c (node m e kids empty) w h = (w.0, OnWay-more d n c kids w.1 h)
OnWay-more (suc d) n c (node m e kids (node o f inner later)) w h =
    behind_way (suc d) m e kids (hung (suc d) (node n c empty empty) (node o f inner later)) (OnWay-more (suc d) n c (node o f inner later) w h)

pub way_at-more : (up d n : ℕ) (c : Content) (g : Forest) → OnWay d g → may_hold (payload_of c) ≡ true → way_at up (suc d) (hung d (node n c empty empty) g) ≡ n
way_at-more up zero n c g w h = way_at-joined up n c g h
way_at-more up (suc d) n c empty w h = absurd w
way_at-more up (suc d) n c (node m e kids empty) w h = way_at-more m d n c kids w.1 h
way_at-more up (suc d) n c (node m e kids (node o f inner later)) w h =
    behind_at up (suc d) m e kids (hung (suc d) (node n c empty empty) (node o f inner later)) (OnWay-more (suc d) n c (node o f inner later) w h)
    ∙ way_at-more up (suc d) n c (node o f inner later) w h

-- the last top: the node where it hangs at the top, else what it was
pub last_top-joined : (b n : ℕ) (c : Content) (g : Forest) → last_behind b (joined g (node n c empty empty)) ≡ n
last_top-joined b n c empty = refl
last_top-joined b n c (node m e kids later) = last_top-joined m n c later

pub last_top-hung : (b d n : ℕ) (c : Content) (g : Forest) → OnWay (suc d) g → last_behind b (hung (suc d) (node n c empty empty) g) ≡ last_behind b g
last_top-hung b d n c empty w = absurd w
last_top-hung b d n c (node m e kids empty) w = refl
last_top-hung b d n c (node m e kids (node o f inner later)) w = last_top-hung m d n c (node o f inner later) w
