-- What the nodes of a fragment are as a forest, and what a tree keeps that gets one.
use Rattle.std.proofs.Common.{◌≡◌, ℕ, zero, suc, ◌+◌, ◌<◌, ◌≤◌, max, List, [], ◌∷◌, length, Option, Some, None, refl, sym, ◌∙◌, ap, inl, inr, arith}
use Rattle.std.proofs.lemmas.Bool.{cases_lt, le-ltb, lt-ltb, lt-leb, le-leb}
use Rattle.std.specs.Prelude.{nat_le, option_map}
use Rattle.page_tree.specs.Forest.{Content, document, element, text, comment, Forest, empty, node, Tree, rooted, same, count, size, height, depth_in}
use Rattle.page_tree.specs.Edits.{joined, pruned}
use Rattle.page_tree.specs.Fragments.{Limit, hung, with_nodes_at, fragment_nodes, with_fragment, deepest_behind, AreNodesFrom, IsFragment, limit_passed}
use Rattle.page_tree.specs.Refusals.{past_limit, parent_refused, limits_refused, place_refused, graft_refused}
use Rattle.page_tree.specs.Trees.{MayHave, IsGrown, IsOrdinary, AreOrdinary, IsTree}
use Rattle.page_tree.proofs.Finding.{same_cases}
use Rattle.page_tree.proofs.Totals.{total, total-count, total-size, total-joined}
use Rattle.page_tree.proofs.Depths.{depth_in-some, depth_in-height, height-joined}
use Rattle.page_tree.proofs.Cuts.{grafted-part}
use Rattle.page_tree.proofs.Keeps.{Named, Every-joined, no_refusal, parent_there, IsTree-placed}

-- ---- nodes hung behind the last ones

pub total-hung : (w : ℕ → ℕ) (d : ℕ) (new f : Forest) → total w (hung d new f) ≡ total w f + total w new
total-hung w zero new f = total-joined w f new
total-hung w (suc d) new empty = omega arith
total-hung w (suc d) new (node n c kids empty) = omega (arith, total-hung w d new kids)
total-hung w (suc d) new (node n c kids (node m e inner later)) = omega (arith, total-hung w (suc d) new (node m e inner later))

pub count-hung : (k d : ℕ) (new f : Forest) → count k (hung d new f) ≡ count k f + count k new
count-hung k d new f = omega (arith, total-hung (same k) d new f, total-count k (hung d new f), total-count k f, total-count k new)

pub size-hung : (d : ℕ) (new f : Forest) → size (hung d new f) ≡ size f + size new
size-hung d new f = omega (arith, total-hung (λ _. 1) d new f, total-size (hung d new f), total-size f, total-size new)

pub height-hung : (d : ℕ) (new f : Forest) → height (hung d new f) ≤ max (height f) (d + height new)
height-hung zero new f = omega (arith, height-joined f new)
height-hung (suc d) new empty = omega arith
height-hung (suc d) new (node n c kids empty) = omega (arith, height-hung d new kids)
height-hung (suc d) new (node n c kids (node m e inner later)) = omega (arith, height-hung (suc d) new (node m e inner later))

ordinary-hung : (d n : ℕ) (c : Content) (f : Forest) → IsOrdinary c → AreOrdinary f → AreOrdinary (hung d (node n c empty empty) f)
ordinary-hung zero n c f o h = Every-joined Named f (node n c empty empty) h (o, tt, tt)
ordinary-hung (suc d) n c empty o h = (o, tt, tt)
ordinary-hung (suc d) n c (node m e kids empty) o h = (h.0, ordinary-hung d n c kids o h.1, tt)
ordinary-hung (suc d) n c (node m e kids (node i f inner later)) o h = (h.0, h.1, ordinary-hung (suc d) n c (node i f inner later) o h.2)

-- so many nodes stand below each other along the last ones, and may have any children
abbrev pub IsWay : ℕ → Forest → Type 0
IsWay zero g = Unit {0}
IsWay (suc d) empty = ⊥
IsWay (suc d) (node n c kids empty) = ((g : Forest) → MayHave c g) × IsWay d kids
IsWay (suc d) (node n c kids (node m e inner later)) = IsWay (suc d) (node m e inner later)

way_front : (d : ℕ) (g : Forest) → IsWay (suc d) g → IsWay d g
way_front zero g w = tt
way_front (suc d) empty w = absurd w
way_front (suc d) (node n c kids empty) w = (w.0, way_front d kids w.1)
way_front (suc d) (node n c kids (node m e inner later)) w = way_front (suc d) (node m e inner later) w

way_less : (l d : ℕ) (g : Forest) → d ≤ l → IsWay l g → IsWay d g
way_less zero zero g le w = tt
way_less zero (suc d) g le w = absurd (omega arith)
way_less (suc l) d g le w =
    elim (same_cases d (suc l)) [
      | inl q ↦ whole q.0
      | inr q ↦ way_less l d g (omega (arith, q.0)) (way_front l g w)
    ]
  where
    whole : d ≡ suc l → IsWay d g
    whole e = rw e w

way_behind_first : (d n : ℕ) (c : Content) (kids later : Forest) → IsWay (suc d) later → IsWay (suc d) (node n c kids later)
way_behind_first d n c kids empty w = absurd w
way_behind_first d n c kids (node m e inner later) w = w

module _ (n : ℕ) (c : Content) where
  abbrev new : Forest
  new = node n c empty empty

  way_stays : (d : ℕ) (g : Forest) → IsWay d g → IsWay d (hung d new g)
  way_stays zero g w = tt
  way_stays (suc d) empty w = absurd w
  way_stays (suc d) (node m e kids empty) w = (w.0, way_stays d kids w.1)
  way_stays (suc d) (node m e kids (node o f inner later)) w =
      way_behind_first d m e kids (hung (suc d) new (node o f inner later)) (way_stays (suc d) (node o f inner later) w)

  module _ (holds : (g : Forest) → MayHave c g) where
    way_joined : (g : Forest) → IsWay 1 (joined g new)
    way_joined empty = (holds, tt)
    way_joined (node m e kids later) = way_behind_first 0 m e kids (joined later new) (way_joined later)

    way_goes_on : (d : ℕ) (g : Forest) → IsWay d g → IsWay (suc d) (hung d new g)
    way_goes_on zero g w = way_joined g
    way_goes_on (suc d) empty w = absurd w
    way_goes_on (suc d) (node m e kids empty) w = (w.0, way_goes_on d kids w.1)
    way_goes_on (suc d) (node m e kids (node o f inner later)) w =
        way_behind_first (suc d) m e kids (hung (suc d) new (node o f inner later)) (way_goes_on (suc d) (node o f inner later) w)

  grown-hung : (d : ℕ) (f : Forest) → MayHave c empty → IsWay d f → IsGrown f → IsGrown (hung d new f)
  grown-hung zero f none w h = Every-joined MayHave f new h (none, tt, tt)
  grown-hung (suc d) empty none w h = absurd w
  grown-hung (suc d) (node m e kids empty) none w h = (w.0 (hung d new kids), grown-hung d kids none w.1 h.1, tt)
  grown-hung (suc d) (node m e kids (node i f inner later)) none w h = (h.0, h.1, grown-hung (suc d) (node i f inner later) none w h.2)

way_behind : (d n : ℕ) (c : Content) (g : Forest) → IsWay d g → IsWay (deepest_behind d c) (hung d (node n c empty empty) g)
way_behind d n document g w = way_stays n document d g w
way_behind d n (element name attrs) g w = way_goes_on n (element name attrs) (λ kids. tt) d g w
way_behind d n (text bytes) g w = way_stays n (text bytes) d g w
way_behind d n (comment bytes) g w = way_stays n (comment bytes) d g w

childless : (c : Content) → MayHave c empty
childless document = tt
childless (element name attrs) = tt
childless (text bytes) = refl
childless (comment bytes) = refl

-- ---- the limits

-- a node that keeps both leaves it to the others
pub limits_step : (depth live : ℕ) (x : ℕ × Content) (part : List (ℕ × Content)) → depth + suc x.0 ≤ 512 → live < 1000000 → limit_passed depth live (x ∷ part) ≡ limit_passed depth (suc live) part
limits_step depth live x part deep few = rw (le-ltb 512 (depth + suc x.0) deep, lt-leb 1000000 live few) refl

-- where none is passed the first node keeps both
pub limits_kept : (depth live : ℕ) (x : ℕ × Content) (part : List (ℕ × Content)) → limit_passed depth live (x ∷ part) ≡ None
    → (depth + suc x.0 ≤ 512) × (live < 1000000) × (limit_passed depth (suc live) part ≡ None)
limits_kept depth live x part h =
    elim (cases_lt 512 (depth + suc x.0)) [
      | inl lt ↦ let e = rw (lt-ltb 512 (depth + suc x.0) lt) at h in cc
      | inr deep ↦ elim (cases_lt live 1000000) [
        | inl few ↦ (deep, few, sym (limits_step depth live x part deep few) ∙ h)
        | inr le ↦ let e = rw (le-ltb 512 (depth + suc x.0) deep, le-leb 1000000 live le) at h in cc
      ]
    ]

-- so all nodes together keep both
pub few-nodes : (depth live : ℕ) (part : List (ℕ × Content)) → limit_passed depth live part ≡ None → live ≤ 1000000 → live + length part ≤ 1000000
few-nodes depth live [] h le = omega arith
few-nodes depth live (x ∷ part) h le =
    let kept = limits_kept depth live x part h in
    omega (arith, few-nodes depth (suc live) part kept.2 (omega (arith, kept.1)))

pub height-nodes : (depth live number : ℕ) (part : List (ℕ × Content)) (f : Forest) → limit_passed depth live part ≡ None → depth + height f ≤ 512 → depth + height (with_nodes_at number part f) ≤ 512
height-nodes depth live number [] f h le = le
height-nodes depth live number (x ∷ part) f h le =
    let kept = limits_kept depth live x part h in
    height-nodes depth (suc live) (suc number) part (hung x.0 (node number x.1 empty empty) f) kept.2 (omega (arith, le, kept.0, height-hung x.0 (node number x.1 empty empty) f))

-- ---- all nodes of a fragment

-- their numbers are those from `number` on, one for each
pub count-nodes : (k number : ℕ) (part : List (ℕ × Content)) (f : Forest) →
    (k < number → count k (with_nodes_at number part f) ≡ count k f)
    × (number + length part ≤ k → count k (with_nodes_at number part f) ≡ count k f)
    × (count k (with_nodes_at number part f) ≤ count k f + 1)
count-nodes k number [] f = (λ _. refl, λ _. refl, omega arith)
count-nodes k number (x ∷ part) f =
    let r = count-nodes k (suc number) part (hung x.0 (node number x.1 empty empty) f) in
    let one = count-hung k x.0 (node number x.1 empty empty) f in
    elim (same_cases k number) [
      | inl q ↦ (λ lt. absurd (omega (arith, q.0, lt)), λ le. absurd (omega (arith, q.0, le)), omega (arith, r.0 (omega (arith, q.0)), one, q.1))
      | inr q ↦ (λ lt. omega (arith, r.0 (omega (arith, lt)), one, q.1), λ le. omega (arith, r.1 (omega (arith, le)), one, q.1), omega (arith, r.2, one, q.1))
    ]

pub size-nodes : (number : ℕ) (part : List (ℕ × Content)) (f : Forest) → size (with_nodes_at number part f) ≡ size f + length part
size-nodes number [] f = omega arith
size-nodes number (x ∷ part) f =
    omega (arith, size-nodes (suc number) part (hung x.0 (node number x.1 empty empty) f), size-hung x.0 (node number x.1 empty empty) f)

pub ordinary-nodes : (most number : ℕ) (part : List (ℕ × Content)) (f : Forest) → AreNodesFrom most part → AreOrdinary f → AreOrdinary (with_nodes_at number part f)
ordinary-nodes most number [] f a h = h
ordinary-nodes most number (x ∷ part) f a h =
    ordinary-nodes (deepest_behind x.0 x.1) (suc number) part (hung x.0 (node number x.1 empty empty) f) a.2 (ordinary-hung x.0 number x.1 f a.1 h)

pub grown-nodes : (most number : ℕ) (part : List (ℕ × Content)) (f : Forest) → AreNodesFrom most part → IsWay most f → IsGrown f → IsGrown (with_nodes_at number part f)
grown-nodes most number [] f a w h = h
grown-nodes most number (x ∷ part) f a w h =
    let way : IsWay x.0 f = way_less most x.0 f a.0 w in
    grown-nodes (deepest_behind x.0 x.1) (suc number) part (hung x.0 (node number x.1 empty empty) f) a.2
    (way_behind x.0 number x.1 f way)
    (grown-hung number x.1 x.0 f (childless x.1) way h)

-- ---- a tree with a fragment

no_limit : (depth live : ℕ) (part : List (ℕ × Content)) → limits_refused (Some depth) live part ≡ None → limit_passed depth live part ≡ None
no_limit depth live part h = by_case (limit_passed depth live part) h
  where
    by_case : (o : Option Limit) → option_map past_limit o ≡ None → o ≡ None
    by_case None e = refl
    by_case (Some limit) e = let no : Some (past_limit limit) ≡ None = e in cc

module _ (t : Tree) (tree : IsTree t) (p place : ℕ) (part : List (ℕ × Content)) where
  -- the nodes with new numbers are those of the fragment: without them the tree is as before
  pub with_fragment-part : pruned (λ x. nat_le t.next x) (with_fragment p place part t).nodes ≡ t.nodes
  with_fragment-part =
      grafted-part (λ x. nat_le t.next x) p place (fragment_nodes t.next part) t.nodes (tree.once p)
      (λ x h. elim (cases_lt x t.next) [
        | inl lt ↦ absurd (omega (arith, h, (count-nodes x t.next part empty).0 lt))
        | inr le ↦ le-leb t.next x le
      ])
      (λ x h. elim (cases_lt x t.next) [
        | inl lt ↦ lt-leb t.next x lt
        | inr le ↦ absurd (omega (arith, h, tree.below x le))
      ])

  pub IsTree-with_fragment : IsFragment part → graft_refused p place part t ≡ None → IsTree (with_fragment p place part t)
  IsTree-with_fragment fragment accepted =
      let causes = no_refusal (place_refused p place t) _ accepted in
      let parent = no_refusal (parent_refused p t) _ causes.0 in
      let depth = depth_in-some p 0 (rooted t.nodes) (parent_there t p parent.0) in
      let limits = no_limit depth.0 (size t.nodes) part (ap (λ (o : Option ℕ). limits_refused o (size t.nodes) part) (sym depth.1) ∙ causes.1) in
      IsTree-placed t tree p place (t.next + size (fragment_nodes t.next part)) depth.0 (fragment_nodes t.next part) parent.0 depth.1
      (grown-nodes 0 t.next part empty fragment tt tt)
      (ordinary-nodes 0 t.next part empty fragment tt)
      (λ k. elim (cases_lt k t.next) [
        | inl lt ↦ omega (arith, tree.once k, (count-nodes k t.next part empty).0 lt)
        | inr le ↦ omega (arith, tree.below k le, (count-nodes k t.next part empty).2)
      ])
      (λ k le. omega (arith, size-nodes t.next part empty, tree.below k (omega (arith, le)), (count-nodes k t.next part empty).1 (omega (arith, le, size-nodes t.next part empty))))
      (omega (arith, size-nodes t.next part empty, few-nodes depth.0 (size t.nodes) part limits (omega (arith, tree.few))))
      (height-nodes depth.0 (size t.nodes) t.next part empty limits (shallow_parent depth.0 depth.1))
    where
      shallow_parent : (e : ℕ) → depth_in p 0 (rooted t.nodes) ≡ Some e → e + 0 ≤ 512
      shallow_parent e h = omega (arith, depth_in-height p 0 e (rooted t.nodes) h, tree.low)
