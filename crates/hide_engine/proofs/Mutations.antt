-- Each mutation that is made is a change of its kind.
use Rattle.std.proofs.Common.{◌≡◌, ℕ, ◌-◌, Bool, true, false, ◌&&◌, ◌||◌, not, take, drop, ap₂, List, [], ◌∷◌, Option, Some, None, refl, sym, ap, subst, ◌∙◌}
use Rattle.std.specs.Prelude.{unwrap_or, is_ok}
use Rattle.std.specs.Str.{str_to_ascii_lowercase}
use Rattle.std.specs.Result.{result_unwrap_or}
use Rattle.page_tree.specs.Forest.{Tree, rooted, find, children, parent_in, tops}
use Rattle.page_tree.specs.Edits.{detached, children_of}
use Rattle.page_tree.specs.Fragments.{with_fragment}
use Rattle.page_tree.specs.Refusals.{Refusal, attr_refused, text_refused, detach_refused, parent_refused, place_refused, graft_refused, relink_refused}
use Rattle.page_tree.specs.Standings.{all}
use Rattle.page_tree.specs.Directions.{is_in}
use Rattle.page_tree.specs.Trees.{IsTree}
use Rattle.page_tree.proofs.Elements.{once-tree}
use Rattle.page_tree.proofs.Keeps.{no_refusal, node_there}
use Rattle.page_tree.proofs.Parts.{parent_some}
use Rattle.html_meaning.specs.Page.{fragment}
use Rattle.html_tree.proofs.Depths.{fragment_is}
use Rattle.mutation_script.specs.declared.mutation.Mutation.{Mutation}
use Rattle.mutation_script.specs.declared.mutation.Mutation.TheVariants.{SetAttr, DropAttr, SetText, Insert, Delete, Relink, Path}
use Rattle.mutation_script.specs.declared.page.PageState.{PageState}
use Rattle.mutation_script.specs.Changes.{unless_refused, change, changed}
use Rattle.sensor_meaning.specs.declared.change.Change.{Change}
use Rattle.sensor_meaning.specs.declared.change.Change.TheVariants.{Attr as AttrOf, Chars, Came, Went, Moved, Path as PathOf}
use Rattle.sensor_meaning.specs.Changes.{parent_of, Becomes}
use Rattle.sensor_meaning.specs.Dirty.{is_under}
use Rattle.dependency_sets.specs.Named.{IsNamed}
use Rattle.change_laws.proofs.Made.{attr_set_made, attr_dropped_made, text_set_made, taken_out_made, fragment_made, moved_made}
use Rattle.change_laws.proofs.Gone.{goes}
use Rattle.engine_meaning.specs.States.{mutated}
use Rattle.hide_engine.specs.declared.filter_set.FilterSet.{FilterSet}
use Rattle.hide_engine.specs.declared.planned.Planned.TheVariants.{Comes}
use Rattle.hide_engine.specs.Changes.{change_of, is_dirty, dirtied_by}
use Rattle.hide_engine.specs.Ready.{state_of, goes_by, IsStep, IsPlanned}
use Rattle.hide_engine.proofs.Children.{fragment_came}
use Rattle.hide_engine.proofs.Changed.{IsWent, named, keeps}

-- a mutation that isn't refused
accepted : (o : Option Refusal) (tree : Tree) (page : PageState) → is_ok (unless_refused o tree page) ≡ true → o ≡ None
accepted None tree page h = refl
accepted (Some refusal) tree page h = absurd (let no : false ≡ true = h in cc)

-- the parent of a node is there
parent_is : (t : Tree) → IsTree t → (n : ℕ) → detach_refused n t ≡ None → parent_in n 0 t.nodes ≡ Some (parent_of t n)
parent_is t tree n h =
    let r = parent_some n 0 t.nodes (once-tree t tree) (node_there t n h) in
    r.1 ∙ ap Some (sym (ap (λ o. unwrap_or o 0) r.1))

relinked : (t : Tree) (n parent place : ℕ) → relink_refused n parent place t ≡ None → detach_refused n t ≡ None
relinked t n parent place h = (no_refusal (detach_refused n t) _ h).0

module _ (page : PageState) (tree : IsTree page.tree) where
  pub becomes : (mutation : Mutation) → is_ok (change mutation page) ≡ true →
      Becomes (change_of mutation page.tree) page.tree page.path (changed mutation page).tree (changed mutation page).path
  becomes (SetAttr n name value) h =
      let none = accepted (attr_refused n page.tree) _ page h in
      rw none (attr_set_made page.tree page.path n (str_to_ascii_lowercase name) value none)
  becomes (DropAttr n name) h =
      let none = accepted (attr_refused n page.tree) _ page h in
      rw none (attr_dropped_made page.tree page.path n (str_to_ascii_lowercase name) none)
  becomes (SetText n text) h =
      let none = accepted (text_refused n page.tree) _ page h in
      rw none (text_set_made page.tree page.path n text none)
  becomes (Insert parent place html) h =
      let none = accepted (graft_refused parent place (fragment html) page.tree) _ page h in
      rw none (fragment_made page.tree page.path parent place (fragment html) tree (fragment_is html) none)
  becomes (Delete n) h =
      let none = accepted (detach_refused n page.tree) _ page h in
      rw none (taken_out_made page.tree page.path n (parent_of page.tree n) tree (parent_is page.tree tree n none) none)
  becomes (Relink n parent place) h =
      let none = accepted (relink_refused n parent place page.tree) _ page h in
      rw none (moved_made page.tree page.path n (parent_of page.tree n) parent place tree (parent_is page.tree tree n (relinked page.tree n parent place none)) none)
  becomes (Path path) h = refl

  -- where nodes come, their parent may have children
  abbrev place_of : Change → ℕ
  place_of (Came p came) = p
  place_of _ = 0

  comes : (mutation : Mutation) → is_ok (change mutation page) ≡ true → (p : ℕ) (came : List ℕ) → change_of mutation page.tree ≡ Came p came → parent_refused p page.tree ≡ None
  comes (SetAttr n name value) h p came e = absurd (let no : AttrOf n (str_to_ascii_lowercase name) ≡ Came p came = e in cc)
  comes (DropAttr n name) h p came e = absurd (let no : AttrOf n (str_to_ascii_lowercase name) ≡ Came p came = e in cc)
  comes (SetText n text) h p came e = absurd (let no : Chars n ≡ Came p came = e in cc)
  comes (Insert parent place html) h p came e =
      let none = accepted (graft_refused parent place (fragment html) page.tree) _ page h in
      let parts = no_refusal (place_refused parent place page.tree) _ none in
      subst (λ q. parent_refused q page.tree ≡ None) (ap place_of e) (no_refusal (parent_refused parent page.tree) _ parts.0).0
  comes (Delete n) h p came e = absurd (let no : Went (parent_of page.tree n) ≡ Came p came = e in cc)
  comes (Relink n parent place) h p came e = absurd (let no : Moved n (parent_of page.tree n) parent ≡ Came p came = e in cc)
  comes (Path path) h p came e = absurd (let no : PathOf ≡ Came p came = e in cc)

  module _ (mutation : Mutation) (made : is_ok (change mutation page) ≡ true) (after : IsTree (changed mutation page).tree) where
    pub names : IsNamed (change_of mutation page.tree) (changed mutation page).tree
    names = named page.tree (changed mutation page).tree tree after (change_of mutation page.tree) page.path (changed mutation page).path (becomes mutation made) (comes mutation made)

  -- what is there and goes is there no more
  leaves : (a b g : Bool) → b ≡ (a && not g) → (a && g) ≡ (a && not b)
  leaves true b true e = sym (ap not e)
  leaves true b false e = sym (ap not e)
  leaves false b g e = refl

  stays : (a b : Bool) → (a ≡ true → b ≡ true) → (a && false) ≡ (a && not b)
  stays true b h = sym (ap not (h refl))
  stays false b h = refl

  kept : (mutation : Mutation) → is_ok (change mutation page) ≡ true → (after : IsTree (changed mutation page).tree) → (IsWent (change_of mutation page.tree) → ⊥) → (x : ℕ) →
      (is_in (all page.tree) x && false) ≡ (is_in (all page.tree) x && not (is_in (all (changed mutation page).tree) x))
  kept mutation h after other x =
      stays (is_in (all page.tree) x) (is_in (all (changed mutation page).tree) x)
      (keeps page.tree (changed mutation page).tree tree after (change_of mutation page.tree) page.path (changed mutation page).path (becomes mutation h) other x)

  left : (mutation : Mutation) → is_ok (change mutation page) ≡ true → IsTree (changed mutation page).tree → (x : ℕ) →
      (is_in (all page.tree) x && goes_by mutation page.tree x) ≡ (is_in (all page.tree) x && not (is_in (all (changed mutation page).tree) x))
  left (Delete n) h after x =
      let none = accepted (detach_refused n page.tree) _ page h in
      rw none (leaves (is_in (all page.tree) x) (is_in (all (detached n page.tree)) x) (is_under (n ∷ []) page.tree x)
      (goes page.tree n (parent_of page.tree n) tree (parent_is page.tree tree n none) x))
  left (SetAttr n name value) h after x = kept (SetAttr n name value) h after (λ w. w) x
  left (DropAttr n name) h after x = kept (DropAttr n name) h after (λ w. w) x
  left (SetText n text) h after x = kept (SetText n text) h after (λ w. w) x
  left (Insert parent place html) h after x = kept (Insert parent place html) h after (λ w. w) x
  left (Relink n parent place) h after x = kept (Relink n parent place) h after (λ w. w) x
  left (Path path) h after x = kept (Path path) h after (λ w. w) x

  pub step : (mutation : Mutation) → is_ok (change mutation page) ≡ true → IsTree (changed mutation page).tree → (gone : List ℕ) →
      ((x : ℕ) → is_in gone x ≡ (is_in (all page.tree) x && goes_by mutation page.tree x)) → IsStep page (changed mutation page) (change_of mutation page.tree) gone
  step mutation h after gone is = record {
    before = tree;
    after = after;
    becomes = becomes mutation h;
    leaves = λ x. is x ∙ left mutation h after x;
  }

-- the change of a mutation that is made, and the page behind it, under other names
module _ (page new : PageState) (mutation : Mutation) (known : Change) (tree : IsTree page.tree) (after : IsTree new.tree) (at : new ≡ changed mutation page)
    (made : is_ok (change mutation page) ≡ true) (is : known ≡ change_of mutation page.tree) where
  there : IsTree (changed mutation page).tree
  there = subst (λ (p : PageState). IsTree p.tree) at after

  pub known_names : IsNamed known new.tree
  known_names =
      subst (λ (p : PageState). IsNamed known p.tree) (sym at)
      (subst (λ (k : Change). IsNamed k (changed mutation page).tree) (sym is) (names page tree mutation made (subst (λ (p : PageState). IsTree p.tree) at after)))

  pub known_step : (gone : List ℕ) → ((x : ℕ) → is_in gone x ≡ (is_in (all page.tree) x && goes_by mutation page.tree x)) → IsStep page new known gone
  known_step gone leaving =
      subst (λ (p : PageState). IsStep page p known gone) (sym at)
      (subst (λ (k : Change). IsStep page (changed mutation page) k gone) (sym is) (step page tree mutation made (subst (λ (p : PageState). IsTree p.tree) at after) gone leaving))

  pub known_dirty : (filters : FilterSet) (f x : ℕ) → is_dirty known (state_of new filters) f x ≡ dirtied_by mutation (state_of page filters) f x
  known_dirty filters f x =
      ap₂ (λ (k : Change) (p : PageState). is_dirty k (state_of p filters) f x) is at
      ∙ sym (ap (λ b. b && is_dirty (change_of mutation page.tree) (mutated mutation (state_of page filters)) f x) made)

-- nothing is dirtied by a mutation that is refused
pub none_dirty : (mutation : Mutation) (page : PageState) (filters : FilterSet) (f x : ℕ) (b : Bool) → is_ok (change mutation page) ≡ false →
    b ≡ (b || dirtied_by mutation (state_of page filters) f x)
none_dirty mutation page filters f x b refused =
    or_none b ∙ ap (λ c. b || (c && is_dirty (change_of mutation page.tree) (mutated mutation (state_of page filters)) f x)) (sym refused)
  where
    or_none : (b : Bool) → b ≡ (b || false)
    or_none true = refl
    or_none false = refl

-- what came by an insert
pub came_is : (page : PageState) → IsTree page.tree → (mutation : Mutation) (parent place count : ℕ) (u : Tree) (found : List ℕ) → IsPlanned (Comes parent place count) mutation page.tree →
    is_ok (change mutation page) ≡ true → u ≡ (changed mutation page).tree →
    found ≡ take (children_of parent u - count) (drop place (tops (children (find parent (rooted u.nodes))))) → Came parent found ≡ change_of mutation page.tree
came_is page tree mutation parent place count u found planned =
    subst
    (λ (m : Mutation). is_ok (change m page) ≡ true → u ≡ (changed m page).tree →
    found ≡ take (children_of parent u - count) (drop place (tops (children (find parent (rooted u.nodes))))) → Came parent found ≡ change_of m page.tree)
    (sym planned.1)
    (λ ok at e.
    let part = fragment planned.0 in
    let none = accepted (graft_refused parent place part page.tree) _ page ok in
    let behind : (changed (Insert parent place planned.0) page).tree ≡ with_fragment parent place part page.tree =
    ap (λ (o : Option Refusal). (result_unwrap_or (unless_refused o (with_fragment parent place part page.tree) page) page).tree) none in
    ap (λ (l : List ℕ). Came parent l)
    (e ∙ ap₂ (λ (w : Tree) (k : ℕ). take (children_of parent w - k) (drop place (tops (children (find parent (rooted w.nodes)))))) (at ∙ behind) planned.2
    ∙ fragment_came page.tree tree parent place part none))
