-- Taking the outermost of some elements out, one after another, leaves what is left without all of them.
use Rattle.std.proofs.Common.{◌≡◌, ℕ, ◌<◌, ◌≤◌, Bool, true, false, not, cond, ◌&&◌, ◌||◌, ◌==◌, List, [], ◌∷◌, map, filter, refl, sym, ap, ap₂, ◌∙◌, inl, inr, arith}
use Rattle.std.proofs.Math.Bool as bool
use Rattle.std.proofs.lemmas.Bool.{or_from, cases_eq, ne_eqb}
use Rattle.std.proofs.lemmas.Bool.Decides.{nat_tests}
use Rattle.std.specs.List.{list_any}
use Rattle.selector_tree.specs.declared.filter.Filter.{Filter}
use Rattle.selector_meaning.specs.Texts.{Bytes}
use Rattle.page_tree.specs.Forest.{Content, document, element, text, comment, Forest, empty, node, Tree, count}
use Rattle.page_tree.specs.Trees.{IsTree}
use Rattle.page_tree.specs.Standings.{Sibling, standings, standing, elements, above}
use Rattle.page_tree.specs.Directions.{is_in}
use Rattle.page_tree.specs.Edits.{pruned, without, detached}
use Rattle.page_tree.proofs.Members.{is_in-filter}
use Rattle.page_tree.proofs.Finding.{same-same}
use Rattle.page_tree.proofs.Totals.{count-without, without-none}
use Rattle.page_tree.proofs.Cuts.{without-one, pruned-kept}
use Rattle.page_tree.proofs.Elements.{HasRoom, HaveRoom, chosen, chosen-none, once-tree, room-tree}
use Rattle.page_tree.proofs.Around.{above_of, with_sibling, counted_first, chosen-first, chosen-below, chosen-behind}
use Rattle.engine_meaning.specs.Rounds.{without_each, removed_rows, removed, is_outermost, taken_row, taken_in, round}
use Rattle.engine_meaning.proofs.Cuts.{pruned-alike, pruned-nothing, pruned-twice}

module _ (t : Tree) (gone : ℕ → Bool) where
  -- the element is gone, and nothing above it
  abbrev pub is_outer : ℕ → Bool
  is_outer x = gone x && not (list_any gone (above t x))

  -- the elements of a forest stand so in the tree
  abbrev Stand : List ℕ → List Sibling → Forest → Type 0
  Stand ups before f = (k : ℕ) → 0 < count k f → standing t k ≡ chosen k (standings ups before f)

  outer_by : (n : ℕ) (ups : List ℕ) → above t n ≡ ups → list_any gone ups ≡ false → is_outer n ≡ gone n
  outer_by n ups e none =
      ap (λ l. gone n && not (list_any gone l)) e ∙ ap (λ b. gone n && not b) none ∙ bool.and-true (gone n)

  -- the first node, behind which its number doesn't stand again
  behind_none : (n : ℕ) (c : Content) (kids later : Forest) → count n (node n c kids later) ≤ 1 → count n later ≡ 0
  behind_none n c kids later once = omega (arith, same-same n)

  -- the ancestors of the first node, if it is an element; else none
  outer_first : (n : ℕ) (c : Content) (kids later : Forest) (ups : List ℕ) (before : List Sibling) → count n (node n c kids later) ≤ 1
      → Stand ups before (node n c kids later) → list_any gone ups ≡ false → is_outer n ≡ gone n
  outer_first n (element called given) kids later ups before once stand none =
      outer_by n ups
      (ap above_of (stand n (counted_first n (element called given) kids later)) ∙ ap above_of (chosen-first n called given kids later ups before)) none
  outer_first n document kids later ups before once stand none =
      outer_by n []
      (ap above_of (stand n (counted_first n document kids later)) ∙ ap above_of (chosen-none n later ups before (behind_none n document kids later once)))
      refl
  outer_first n (text bytes) kids later ups before once stand none =
      outer_by n []
      (ap above_of (stand n (counted_first n (text bytes) kids later)) ∙ ap above_of (chosen-none n later ups before (behind_none n (text bytes) kids later once)))
      refl
  outer_first n (comment bytes) kids later ups before once stand none =
      outer_by n []
      (ap above_of (stand n (counted_first n (comment bytes) kids later)) ∙ ap above_of (chosen-none n later ups before (behind_none n (comment bytes) kids later once)))
      refl

  -- below no gone element, leaving the outermost out is leaving all out
  outer_below : (f : Forest) (ups : List ℕ) (before : List Sibling) → HaveRoom f → ((k : ℕ) → count k f ≤ 1) → Stand ups before f
      → list_any gone ups ≡ false → pruned is_outer f ≡ pruned gone f
  outer_below empty ups before room once stand none = refl
  outer_below (node n c kids later) ups before room once stand none =
      pick (is_outer n) (gone n) (outer_first n c kids later ups before (once n) stand none)
      (λ stays. outer_below kids (n ∷ ups) [] room.1 (λ k. omega (arith, once k)) below (or_from (gone n) (list_any gone ups) stays none))
      (outer_below later ups (with_sibling n c before) room.2 (λ k. omega (arith, once k)) behind none)
    where
      behind : Stand ups (with_sibling n c before) later
      behind k h = stand k (omega arith) ∙ chosen-behind k n c kids later (once k) h ups before

      below : Stand (n ∷ ups) [] kids
      below k h = stand k (omega arith) ∙ chosen-below k n c kids later (once k) h room.0 ups before

      pick : (b d : Bool) → b ≡ d → (d ≡ false → pruned is_outer kids ≡ pruned gone kids) → pruned is_outer later ≡ pruned gone later →
          cond b (pruned is_outer later) (node n c (pruned is_outer kids) (pruned is_outer later)) ≡ cond d (pruned gone later) (node n c (pruned gone kids) (pruned gone later))
      pick true true e k l = l
      pick true false e k l = absurd (cc)
      pick false true e k l = absurd (cc)
      pick false false e k l = ap₂ (node n c) (k refl) l

  stands : Stand [] [] t.nodes
  unfolding standing elements
  stands k h = refl

  pub outer_pruned : IsTree t → pruned is_outer t.nodes ≡ pruned gone t.nodes
  outer_pruned tree = outer_below t.nodes [] [] (room-tree t tree) (once-tree t tree) stands refl

-- ---- one after another

-- a node that is there or not
without-named : (n : ℕ) (f : Forest) → ((k : ℕ) → count k f ≤ 1) → without n f ≡ pruned (λ x. x == n) f
without-named n f once =
    elim (cases_eq (count n f) 0) [
      | inl none ↦ without-none n f none ∙ sym (pruned-kept (λ x. x == n) f (λ x h. ne_eqb x n (λ e. omega (arith, ap (λ (i : ℕ). count i f) e))))
      | inr there ↦ sym (without-one f once n (omega arith))
    ]

turned : (x n : ℕ) → (x == n) ≡ (n == x)
turned x n = grind (arith, nat_tests)

pub each-pruned : (ns : List ℕ) (t : Tree) → ((k : ℕ) → count k t.nodes ≤ 1) → (without_each t ns).nodes ≡ pruned (is_in ns) t.nodes
each-pruned [] t once = sym (pruned-nothing t.nodes)
each-pruned (n ∷ ns) t once =
    each-pruned ns (detached n t) (λ k. omega (arith, count-without k n t.nodes (once n), once k))
    ∙ ap (pruned (is_in ns)) (without-named n t.nodes once)
    ∙ pruned-twice (λ x. x == n) (is_in ns) t.nodes
    ∙ pruned-alike (λ x. (x == n) || is_in ns x) (is_in (n ∷ ns)) (λ x. ap (λ b. b || is_in ns x) (turned x n)) t.nodes

pub each-next : (ns : List ℕ) (t : Tree) → (without_each t ns).next ≡ t.next
each-next [] t = refl
each-next (n ∷ ns) t = each-next ns (detached n t)

-- ---- a round

module _ (found : Bytes → ℕ → Bytes → Bool) (filters : List Filter) (path : Bytes) (t : Tree) where
  -- the elements of some rows
  nodes_of : (number : ℕ) (p : ℕ → Bool) (rows : List (ℕ × List ℕ)) →
      map (λ row. row.node) (map (taken_row found filters path t number) (filter (λ row. p row.0) rows)) ≡ filter p (map (λ row. row.0) rows)
  nodes_of number p [] = refl
  nodes_of number p (row ∷ rows) = pick (p row.0) (nodes_of number p rows)
    where
      pick : (b : Bool) → map (λ row. row.node) (map (taken_row found filters path t number) (filter (λ row. p row.0) rows)) ≡ filter p (map (λ row. row.0) rows) →
          map (λ row. row.node) (map (taken_row found filters path t number) (cond b (row ∷ filter (λ row. p row.0) rows) (filter (λ row. p row.0) rows)))
          ≡ cond b (row.0 ∷ filter p (map (λ row. row.0) rows)) (filter p (map (λ row. row.0) rows))
      pick true e = ap (λ ns. row.0 ∷ ns) e
      pick false e = e

  -- taking the elements of a round out one after another is taking all out at once
  pub each-round : (number : ℕ) → IsTree t → without_each t (map (λ row. row.node) (taken_in found filters path t number)) ≡ round found filters path t
  each-round number tree =
      ap₂ (λ (f : Forest) (n : ℕ). record { nodes = f; next = n })
      (
      each-pruned ns t (once-tree t tree)
      ∙ pruned-alike (is_in ns) (is_outer t gone)
      (λ x. ap (λ (l : List ℕ). is_in l x) (nodes_of number outermost (removed_rows found filters path t)) ∙ is_in-filter outermost (removed found filters path t) x)
      t.nodes
      ∙ outer_pruned t gone tree
      ) (each-next ns t)
    where
      gone : ℕ → Bool
      gone = is_in (removed found filters path t)

      outermost : ℕ → Bool
      outermost = is_outermost found filters path t

      ns : List ℕ
      ns = map (λ row. row.node) (taken_in found filters path t number)
