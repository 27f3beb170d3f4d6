-- Nodes that are deleted one after another.
use Rattle.std.proofs.Common.{◌≡◌, ℕ, ◌<◌, ◌+◌, Bool, true, false, ◌&&◌, ◌||◌, List, [], ◌∷◌, ◌++◌, Option, Some, None, Result, Ok, Err, IsOk, MatchOption, refl, sym, ap, ◌∙◌, inl, inr, arith, map, take, get_or, length}
use Rattle.std.specs.Prelude.{is_ok}
use Rattle.std.specs.Result.{result_unwrap_or}
use Rattle.std.proofs.lemmas.Bool.{cases_eq, ne_eqb}
use Rattle.std.proofs.lemmas.List.{map-append, take_more}
use Rattle.page_tree.specs.Forest.{Forest, empty, Tree, count, or_else}
use Rattle.page_tree.specs.Edits.{detached}
use Rattle.page_tree.specs.Refusals.{Refusal, detach_refused, node_among}
use Rattle.page_tree.specs.Trees.{IsTree}
use Rattle.page_tree.specs.Standings.{all}
use Rattle.page_tree.specs.Directions.{is_in}
use Rattle.dom_arena.specs.declared.refusals.DomError.{DomError}
use Rattle.dom_arena.specs.Refusals.{error_of}
use Rattle.sensor_meaning.specs.declared.change.Change.TheVariants.{Went}
use Rattle.sensor_meaning.specs.Changes.{parent_of}
use Rattle.sensor_meaning.specs.Dirty.{is_under}
use Rattle.dependency_sets.specs.Named.{IsNamed}
use Rattle.page_tree.proofs.Finding.{found}
use Rattle.page_tree.proofs.Keeps.{IsTree-detached}
use Rattle.page_tree.proofs.Totals.{without-none}
use Rattle.mutation_script.specs.declared.mutation.Mutation.TheVariants.{Delete}
use Rattle.mutation_script.specs.declared.page.PageState.{PageState}
use Rattle.mutation_script.specs.Changes.{change, changed, unless_refused}
use Rattle.selector_tree.specs.declared.filter.Taken.{Taken}
use Rattle.engine_meaning.specs.Rounds.{without_each}
use Rattle.engine_meaning.specs.States.{State, mutated}
use Rattle.hide_engine.specs.declared.filter_set.FilterSet.{FilterSet}
use Rattle.hide_engine.specs.Changes.{dirtied_by, dirtied_without}
use Rattle.hide_engine.specs.Ready.{state_of, IsStep}
use Rattle.hide_engine.proofs.Mutations.{known_names, known_step}

-- a node that is there isn't refused
pub not_refused : (t : Tree) → IsTree t → (n : ℕ) → 0 < count n t.nodes → detach_refused n t ≡ None
not_refused t tree n there =
    let apart : n ≡ 0 → ⊥ = λ e. omega (arith, tree.once 0, ap (λ (k : ℕ). count k t.nodes) e) in
    let here = found n t.nodes there in
    rw (ne_eqb n 0 apart) (ap (λ (f : Forest). node_among n (or_else f empty)) here.3)

-- the page behind a deletion, also where there is no such node
pub deleted : (n : ℕ) (page : PageState) → IsTree page.tree → changed (Delete n) page ≡ record page { tree = detached n page.tree }
deleted n page tree = elim (cases_eq (count n page.tree.nodes) 0) [
  | inl none ↦
      let same : detached n page.tree ≡ page.tree = ap (λ (f : Forest). record { nodes = f; next = page.tree.next }) (without-none n page.tree.nodes none) in
      either (detach_refused n page.tree) (detached n page.tree) same
  | inr there ↦ ap (λ (o : Option Refusal). result_unwrap_or (unless_refused o (detached n page.tree) page) page) (not_refused page.tree tree n (omega arith))
]
  where
    either : (o : Option Refusal) (t : Tree) → t ≡ page.tree → result_unwrap_or (unless_refused o t page) page ≡ record page { tree = t }
    either None t e = refl
    either (Some refusal) t e = ap (λ (w : Tree). record page { tree = w }) (sym e)

-- the page behind the deletions of some nodes
after : List ℕ → State → State
after [] s = s
after (n ∷ ns) s = after ns (mutated (Delete n) s)

after_page : (ns : List ℕ) (page : PageState) (filters : FilterSet) → IsTree page.tree →
    after ns (state_of page filters) ≡ state_of (record page { tree = without_each page.tree ns }) filters
unfolding after
after_page [] page filters tree = refl
after_page (n ∷ ns) page filters tree =
    ap (λ (p : PageState). after ns (state_of p filters)) (deleted n page tree)
    ∙ after_page ns (record page { tree = detached n page.tree }) filters (IsTree-detached page.tree tree n)

pub or_assoc : (a b c : Bool) → ((a || b) || c) ≡ (a || (b || c))
or_assoc true b c = refl
or_assoc false b c = refl

one_more : (ns : List ℕ) (n : ℕ) (s : State) (f x : ℕ) → dirtied_without (ns ++ n ∷ []) s f x ≡ (dirtied_without ns s f x || dirtied_by (Delete n) (after ns s) f x)
unfolding after
one_more [] n s f x = none (dirtied_by (Delete n) s f x)
  where
    none : (b : Bool) → (b || false) ≡ b
    none true = refl
    none false = refl
one_more (m ∷ ns) n s f x =
    ap (λ b. dirtied_by (Delete m) s f x || b) (one_more ns n (mutated (Delete m) s) f x)
    ∙ sym (or_assoc (dirtied_by (Delete m) s f x) (dirtied_without ns (mutated (Delete m) s) f x) (dirtied_by (Delete n) (after ns (mutated (Delete m) s)) f x))

-- one row more
pub dirtied_row : (page now : PageState) (filters : FilterSet) → IsTree page.tree → (rows : List Taken) (i : ℕ) (here : Taken) → i < length rows → here ≡ get_or rows i here →
    now ≡ record page { tree = without_each page.tree (map (λ row. row.node) (take i rows)) } → (f x : ℕ) →
    dirtied_without (map (λ row. row.node) (take (i + 1) rows)) (state_of page filters) f x
    ≡ (dirtied_without (map (λ row. row.node) (take i rows)) (state_of page filters) f x || dirtied_by (Delete here.node) (state_of now filters) f x)
dirtied_row page now filters tree rows i here lt is at f x =
    let nodes = map (λ (row : Taken). row.node) (take i rows) in
    ap (λ (l : List ℕ). dirtied_without l (state_of page filters) f x)
    (ap (map (λ (row : Taken). row.node)) (take_more rows i here lt) ∙ map-append (λ (row : Taken). row.node) (take i rows) (get_or rows i here ∷ []))
    ∙ ap (λ (row : Taken). dirtied_without (nodes ++ row.node ∷ []) (state_of page filters) f x) (sym is)
    ∙ one_more nodes here.node (state_of page filters) f x
    ∙ ap (λ (s : State). dirtied_without nodes (state_of page filters) f x || dirtied_by (Delete here.node) s f x)
    (after_page nodes page filters tree ∙ ap (λ (p : PageState). state_of p filters) (sym at))

-- ---- a node that is taken out

-- a call that is answered by Ok had no refusal
pub accepted : {T : Type 0} {x : T} (result : Result T DomError) (o : Option Refusal) → result ≡ Ok x → MatchOption o (IsOk result) (λ refusal. result ≡ Err (error_of refusal)) → o ≡ None
accepted result None is h = refl
accepted {x} result (Some refusal) is h = absurd (let no : Ok x ≡ Err (error_of refusal) = sym is ∙ h in cc)

module _ (page : PageState) (t : Tree) (n parent : ℕ) (tree : IsTree page.tree) (behind : IsTree t) (none : detach_refused n page.tree ≡ None) (at : t ≡ detached n page.tree)
    (above : parent ≡ parent_of page.tree n) where
  made : is_ok (change (Delete n) page) ≡ true
  made = ap (λ (o : Option Refusal). is_ok (unless_refused o (detached n page.tree) page)) none

  is_changed : record page { tree = t } ≡ changed (Delete n) page
  is_changed = ap (λ (w : Tree). record page { tree = w }) at ∙ sym (deleted n page tree)

  pub went_names : IsNamed (Went parent) t
  went_names = known_names page (record page { tree = t }) (Delete n) (Went parent) tree behind is_changed made (ap Went above)

  pub went_step : (gone : List ℕ) → ((x : ℕ) → is_in gone x ≡ (is_in (all page.tree) x && is_under (n ∷ []) page.tree x)) → IsStep page (record page { tree = t }) (Went parent) gone
  went_step gone leaving = known_step page (record page { tree = t }) (Delete n) (Went parent) tree behind is_changed made (ap Went above) gone leaving
