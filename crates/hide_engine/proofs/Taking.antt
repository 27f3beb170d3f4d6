-- The rows of a round, one element after another, and what is left behind it.
use Rattle.std.proofs.Common.{◌≡◌, ℕ, suc, ◌<◌, ◌+◌, ◌++◌, Bool, true, false, not, ◌&&◌, ◌||◌, cond, List, [], ◌∷◌, map, filter, length, Option, Some, None, Result, Ok, Err, IsOk, OnOk, OnErr, MatchOption, refl, sym, ap, ◌∙◌, inl, inr, arith, append_assoc, nat_eq, take, get_or}
use Rattle.std.specs.List.{list_any, IsDistinct}
use Rattle.std.specs.Map.{keys_of}
use Rattle.std.proofs.lemmas.Bool.{cases_eq, ne_eqb}
use Rattle.std.proofs.lemmas.List.{map-append, take_more}
use Rattle.std.proofs.lemmas.List.Elements.{filter-append}
use Rattle.page_tree.specs.Forest.{Forest, empty, or_else, Tree, count}
use Rattle.page_tree.specs.Trees.{IsTree}
use Rattle.page_tree.specs.Standings.{all, above}
use Rattle.page_tree.specs.Directions.{is_in}
use Rattle.page_tree.specs.Edits.{detached}
use Rattle.page_tree.specs.Refusals.{Refusal, detach_refused, node_among}
use Rattle.page_tree.proofs.Finding.{found}
use Rattle.page_tree.proofs.Totals.{without-none}
use Rattle.dom_arena.specs.declared.refusals.DomError.{DomError}
use Rattle.dom_arena.specs.Refusals.{error_of}
use Rattle.cos_patterns.specs.Found.{pattern_found}
use Rattle.kept_marks.specs.Kept.{row}
use Rattle.selector_tree.specs.declared.filter.Action.TheVariants.{Remove}
use Rattle.selector_tree.specs.declared.filter.Filter.{Filter}
use Rattle.selector_tree.specs.declared.filter.Taken.{Taken}
use Rattle.selector_meaning.specs.Meaning.{selects}
use Rattle.selector_meaning.specs.Hidden.{places_from, with_row, rows_of}
use Rattle.selector_meaning.proofs.Rows.{with_row-append}
use Rattle.engine_meaning.specs.Hidden.{acts_on}
use Rattle.engine_meaning.specs.Filters.{is_remove}
use Rattle.engine_meaning.specs.Rounds.{is_outermost, taken_row, taken_in, removed, removed_rows, without_each}
use Rattle.engine_meaning.specs.States.{State}
use Rattle.hide_engine.specs.Exact.{AreExact}
use Rattle.hide_engine.specs.Chosen.{acting_rows}
use Rattle.hide_engine.specs.Removing.{taken_rows}
use Rattle.hide_engine.proofs.Acted.{acted_length}

taken_rows-append : (s : State) (a b : List (ℕ × List ℕ)) → taken_rows s (a ++ b) ≡ taken_rows s a ++ taken_rows s b
taken_rows-append s a b =
    let outermost : ℕ × List ℕ → Bool = λ r. is_outermost pattern_found s.filters s.page.path s.page.tree r.0 in
    let taken = taken_row pattern_found s.filters s.page.path s.page.tree 1 in
    ap (map taken) (filter-append outermost a b) ∙ map-append taken (filter outermost a) (filter outermost b)

-- one more element
pub taken_go_on : (s : State) (chooses : Filter → ℕ → Bool) (rows more new : List Taken) (x : ℕ) (places left rest : List ℕ) → new ≡ rows ++ taken_rows s (with_row x places [])
    → places ≡ places_from 0 (λ item. chooses item x) s.filters → left ≡ rest → rows ++ taken_rows s (rows_of chooses s.filters (x ∷ left)) ≡ more
    → new ++ taken_rows s (rows_of chooses s.filters rest) ≡ more
taken_go_on s chooses rows more new x places left rest added e same h =
    ap (λ (r : List Taken). r ++ taken_rows s (rows_of chooses s.filters rest)) added
    ∙ append_assoc rows (taken_rows s (with_row x places [])) (taken_rows s (rows_of chooses s.filters rest))
    ∙ ap (λ (r : List Taken). rows ++ r) (sym (ap (taken_rows s) (with_row-append x places [] (rows_of chooses s.filters rest)) ∙ taken_rows-append s (with_row x places []) (rows_of chooses s.filters rest)))
    ∙ ap (λ (ns : List ℕ). rows ++ taken_rows s (with_row x ns (rows_of chooses s.filters rest))) e
    ∙ ap (λ (ns : List ℕ). rows ++ taken_rows s (rows_of chooses s.filters (x ∷ ns))) (sym same)
    ∙ h

-- ---- nothing is removed

no_rows : (l : List (ℕ × List ℕ)) → length l ≡ 0 → l ≡ []
no_rows [] e = refl
no_rows (row ∷ l) e = absurd (omega (arith, e))

-- a round takes nothing where no row of the marks has a filter that removes
pub none_taken : (s : State) (rows : List (ℕ × List ℕ)) → IsTree s.page.tree → AreExact s rows → IsDistinct nat_eq (keys_of rows) → length (acting_rows s.filters Remove rows) ≡ 0 →
    taken_in pattern_found s.filters s.page.path s.page.tree 1 ≡ []
none_taken s rows tree exact once none =
    ap (taken_rows s) (no_rows (removed_rows pattern_found s.filters s.page.path s.page.tree) (sym (acted_length s Remove rows exact tree once) ∙ none))

-- so it is where no filter removes
module _ (s : State) where
  no_places : (n : ℕ) (filters : List Filter) (x : ℕ) → list_any is_remove filters ≡ false → places_from n (λ g. acts_on pattern_found s.filters s.page.path s.page.tree Remove g x) filters ≡ []
  no_places n [] x none = refl
  no_places n (g ∷ gs) x none = pick (is_remove g) (selects pattern_found s.page.tree s.page.path g.selector x) none (no_places (suc n) gs x)
    where
      more : List ℕ
      more = places_from (suc n) (λ g. acts_on pattern_found s.filters s.page.path s.page.tree Remove g x) gs

      pick : (b c : Bool) → (b || list_any is_remove gs) ≡ false → (list_any is_remove gs ≡ false → more ≡ []) → cond (b && c) (n ∷ more) more ≡ []
      pick true c none rest = absurd (let no : true ≡ false = none in cc)
      pick false c none rest = rest none

  no_rows_of : list_any is_remove s.filters ≡ false → (xs : List ℕ) → rows_of (acts_on pattern_found s.filters s.page.path s.page.tree Remove) s.filters xs ≡ []
  no_rows_of none [] = refl
  no_rows_of none (x ∷ xs) =
      ap (λ places. with_row x places (rows_of (acts_on pattern_found s.filters s.page.path s.page.tree Remove) s.filters xs)) (no_places 0 s.filters x none)
      ∙ no_rows_of none xs

  pub none_removes : list_any is_remove s.filters ≡ false → taken_in pattern_found s.filters s.page.path s.page.tree 1 ≡ []
  none_removes none = ap (taken_rows s) (no_rows_of none (all s.page.tree))

-- ---- taking out

accepted : {T : Type 0} (result : Result T DomError) (o : Option Refusal) → o ≡ None → MatchOption o (IsOk result) (λ refusal. result ≡ Err (error_of refusal)) → IsOk result
accepted result None e h = h
accepted result (Some refusal) e h = absurd (let no : Some refusal ≡ None = e in cc)

-- where a node can't be taken out, the tree is the same without it
pub taken_out : {T : Type 0} (t new : Tree) (n : ℕ) (result : Result T DomError) → IsTree t → MatchOption (detach_refused n t) (IsOk result) (λ refusal. result ≡ Err (error_of refusal))
    → OnOk result (new ≡ detached n t) → OnErr result (new ≡ t) → new ≡ detached n t
taken_out t new n (Ok done) tree answer ok err = ok
taken_out t new n (Err error) tree answer ok err =
    elim (cases_eq (count n t.nodes) 0) [
      | inl none ↦ err ∙ sym (ap (λ (f : Forest). record { nodes = f; next = t.next }) (without-none n t.nodes none))
      | inr there ↦ absurd (let no : false ≡ true = accepted (Err error) (detach_refused n t) (no_refusal (omega arith)) answer in cc)
    ]
  where
    no_refusal : 0 < count n t.nodes → detach_refused n t ≡ None
    no_refusal there =
        let apart : n ≡ 0 → ⊥ = λ e. omega (arith, tree.once 0, ap (λ (k : ℕ). count k t.nodes) e) in
        let here = found n t.nodes there in
        rw (ne_eqb n 0 apart) (ap (λ (f : Forest). node_among n (or_else f empty)) here.3)

-- one more node is taken out
pub each_more : (t : Tree) (ns : List ℕ) (n : ℕ) → without_each t (ns ++ n ∷ []) ≡ detached n (without_each t ns)
each_more t [] n = refl
each_more t (m ∷ ms) n = each_more (detached m t) ms n

pub each_row : (t : Tree) (rows : List Taken) (i : ℕ) (here : Taken) → i < length rows → here ≡ get_or rows i here →
    without_each t (map (λ r. r.node) (take (i + 1) rows)) ≡ detached here.node (without_each t (map (λ r. r.node) (take i rows)))
each_row t rows i here h is =
    ap (λ (l : List Taken). without_each t (map (λ r. r.node) l)) (take_more rows i here h)
    ∙ ap (without_each t) (map-append (λ (r : Taken). r.node) (take i rows) (get_or rows i here ∷ []))
    ∙ each_more t (map (λ r. r.node) (take i rows)) (get_or rows i here).node
    ∙ ap (λ (r : Taken). detached r.node (without_each t (map (λ r. r.node) (take i rows)))) (sym is)

-- ---- ancestors

module _ (s : State) (at up : ℕ) (rises : above s.page.tree at ≡ up ∷ above s.page.tree up) (gone : Bool)
    (is : is_in (removed pattern_found s.filters s.page.path s.page.tree) up ≡ gone) where
  higher : Bool
  higher = list_any (is_in (removed pattern_found s.filters s.page.path s.page.tree)) (above s.page.tree up)

  by_parent : is_outermost pattern_found s.filters s.page.path s.page.tree at ≡ not (gone || higher)
  unfolding higher
  by_parent =
      ap (λ (l : List ℕ). not (list_any (is_in (removed pattern_found s.filters s.page.path s.page.tree)) l)) rises
      ∙ ap (λ b. not (b || higher)) is

  pub stopped : gone ≡ true → is_outermost pattern_found s.filters s.page.path s.page.tree at ≡ false
  stopped h = by_parent ∙ ap (λ b. not (b || higher)) h

  pub goes_on : gone ≡ false → is_outermost pattern_found s.filters s.page.path s.page.tree at ≡ is_outermost pattern_found s.filters s.page.path s.page.tree up
  unfolding higher
  goes_on h = by_parent ∙ ap (λ b. not (b || higher)) h
