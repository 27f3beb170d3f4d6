-- What follows a change keeps the marks right, and just what it made dirty is pending.
use Rattle.std.proofs.Common.{◌≡◌, ℕ, ◌<◌, ◌≤◌, true, false, ◌&&◌, ◌||◌, not, List, [], length, Result, Ok, Err, refl, sym, ap, ap₂, ◌∙◌, inl, inr}
use Rattle.std.specs.Prelude.{unwrap_or, option_map, OnOk}
use Rattle.std.proofs.lemmas.Bool.{cases_lt}
use Rattle.std.proofs.lemmas.Option.{slice_get_past}
use Rattle.cos_patterns.specs.Found.{pattern_found}
use Rattle.page_tree.specs.Forest.{Tree}
use Rattle.page_tree.specs.Standings.{all}
use Rattle.page_tree.specs.Directions.{is_in}
use Rattle.proper_filters.specs.Proper.{is_proper}
use Rattle.selector_tree.specs.declared.filter.Filter.{Filter}
use Rattle.selector_tree.specs.declared.filter.Action.TheVariants.{Hide}
use Rattle.selector_tree.specs.declared.selector.Step.{Step}
use Rattle.selector_meaning.specs.Meaning.{selects}
use Rattle.selector_meaning.specs.Texts.{Bytes}
use Rattle.procedural_ops.specs.Told.{selector_at}
use Rattle.mutation_script.specs.declared.page.PageState.{PageState}
use Rattle.sensor_meaning.specs.declared.change.Change.{Change}
use Rattle.sensor_meaning.specs.Dirty.{dirty, brought, is_reached}
use Rattle.sensor_meaning.specs.Nested.{is_outer}
use Rattle.sensor_meaning.specs.Sensors.{Sensors, sensors}
use Rattle.sensor_laws.proofs.Any.{is_in-filter, and-true, or-right}
use Rattle.change_laws.proofs.Came.{new_is_brought}
use Rattle.change_laws.proofs.Made.{well_formed}
use Rattle.change_laws.proofs.Seen.{proper_is_outer, change_is_seen}
use Rattle.dependency_sets.proofs.SameSets.{same_dirty}
use Rattle.kept_marks.specs.Kept.{is_marked}
use Rattle.retest.specs.Asked.{group_in}
use Rattle.retest.specs.Noted.{Noted}
use Rattle.retest_laws.specs.Pending.{Pairs, SeesChange, among, either}
use Rattle.retest_laws.proofs.Notes.{noted, alike, more, dropped, at_rest}
use Rattle.hide_engine.specs.declared.filter_set.FilterSet.{FilterSet}
use Rattle.hide_engine.specs.Changes.{is_dirty}
use Rattle.hide_engine.specs.Exact.{is_selected, AreExact}
use Rattle.hide_engine.specs.Groups.{set_at, Notes}
use Rattle.hide_engine.specs.Ready.{state_of, pended, AreReady, IsRight, IsGiven, IsStep}
use Rattle.hide_engine.proofs.Filing.{selector_there}

pub on_ok : {T E A B : Type 0} (result : Result T E) → OnOk result A → (A → B) → OnOk result B
on_ok (Ok x) a f = f a
on_ok (Err e) a f = tt

-- past the last filter nothing is selected
pub past : (filters : List Filter) (f : ℕ) → length filters ≤ f → selector_at filters f ≡ []
past filters f le = ap (λ o. unwrap_or (option_map (λ (g : Filter). g.selector) o) []) (slice_get_past filters f le)

none_selected : (t : Tree) (path : Bytes) (l : List (List Step)) (x : ℕ) → l ≡ [] → selects pattern_found t path l x ≡ false
none_selected t path l x e = ap (λ (k : List (List Step)). selects pattern_found t path k x) e

-- what came or moved is dirty, whatever the sensors
brought_dirty : (change : Change) (u : Tree) (r : Sensors) (x : ℕ) → is_in (all u) x ≡ true → brought change u x ≡ true → is_in (dirty change u r) x ≡ true
brought_dirty change u r x there h =
    is_in-filter (λ y. is_reached change u r y || brought change u y) x (all u)
    ∙ and-true (is_reached change u r x || brought change u x) (is_in (all u) x) (or-right (is_reached change u r x) (brought change u x) h) there

module _ (filters : FilterSet) (ready : AreReady filters) where
  nothing : Filter
  nothing = record { list = 0; line = 0; selector = []; action = Hide; canonical = [] }

  pub proper_at : (f : ℕ) → f < length filters.active → is_proper filters.table.patterns (selector_at filters.active f) ≡ true
  proper_at f lt =
      ap (is_proper filters.table.patterns) (selector_there filters.active f nothing lt) ∙ (ready.askable.proper f nothing lt).0

  outers : (f : ℕ) → is_outer (selector_at filters.active f) ≡ true
  outers f = elim (cases_lt f (length filters.active)) [
    | inl lt ↦ proper_is_outer filters.table.patterns (selector_at filters.active f) (proper_at f lt)
    | inr le ↦ ap is_outer (past filters.active f le)
  ]

  -- a group has the dirty elements of its filters
  same_for : (change : Change) (u : Tree) (f x : ℕ) → f < length filters.active →
      is_in (dirty change u (set_at filters.groups.sets.items (group_in filters.groups.numbers f))) x ≡ is_in (dirty change u (sensors (selector_at filters.active f))) x
  same_for change u f x lt = ap (λ (l : List ℕ). is_in l x) (same_dirty change u _ _ (ready.grouped.same f lt).1)

  module _ (old new : PageState) (change : Change) (gone : List ℕ) (step : IsStep old new change gone) where
    by_group : Pairs
    by_group f x = is_in (dirty change new.tree (set_at filters.groups.sets.items (group_in filters.groups.numbers f))) x

    sees : SeesChange (all old.tree) (all new.tree) (is_selected (state_of old filters)) (is_selected (state_of new filters)) by_group
    unfolding by_group
    sees =
        let a = well_formed old.tree step.before in
        let b = well_formed new.tree step.after in
        let seen = change_is_seen pattern_found (λ f. selector_at filters.active f) outers change old.tree new.tree old.path new.path a b step.becomes in
        record {
          complete = λ f x was here differs. elim (cases_lt f (length filters.active)) [
            | inl lt ↦ same_for change new.tree f x lt ∙ seen.complete f x was here differs
            | inr le ↦ absurd (differs
                (none_selected old.tree old.path (selector_at filters.active f) x (past filters.active f le)
                ∙ sym (none_selected new.tree new.path (selector_at filters.active f) x (past filters.active f le))))
          ];
          came = λ f x was here.
              brought_dirty change new.tree (set_at filters.groups.sets.items (group_in filters.groups.numbers f)) x here
              (new_is_brought change old.tree new.tree old.path new.path a b step.becomes x was here);
        }

    pub right : (rows left : List (ℕ × List ℕ)) (before after : Noted) → ((f x : ℕ) → is_marked left f x ≡ (is_marked rows f x && not (is_in gone x))) →
        Notes change new.tree filters.groups.sets.items before after → IsRight old filters rows before → IsRight new filters left after
    unfolding by_group
    right rows left before after drops notes r =
        more (all new.tree) (is_selected (state_of new filters)) (is_marked left) (either (pended filters before) by_group) (pended filters after)
        (λ f x h. sym (notes (group_in filters.groups.numbers f) x) ∙ h)
        (alike (all new.tree) (is_selected (state_of new filters)) (among (all new.tree) (is_marked rows)) (is_marked left) (either (pended filters before) by_group)
        (λ f x. drops f x ∙ dropped (all old.tree) (all new.tree) (is_marked rows) (is_in gone) r.gone step.leaves f x)
        (noted (all old.tree) (all new.tree) (is_selected (state_of old filters)) (is_selected (state_of new filters)) by_group (is_marked rows) (pended filters before) sees r))

  pub given : (page : PageState) (change : Change) (before after : Noted) (pairs : Pairs) → Notes change page.tree filters.groups.sets.items before after →
      IsGiven filters before pairs → IsGiven filters after (either pairs (is_dirty change (state_of page filters)))
  given page change before after pairs notes h f x lt =
      notes (group_in filters.groups.numbers f) x ∙ ap₂ ◌||◌ (h f x lt) (same_for change page.tree f x lt)

-- exact marks are right, whatever is pending
pub rested : (page : PageState) (filters : FilterSet) (rows : List (ℕ × List ℕ)) (pending : Noted) → AreExact (state_of page filters) rows → IsRight page filters rows pending
rested page filters rows pending exact =
    more (all page.tree) (is_selected (state_of page filters)) (is_marked rows) (λ f x. false) (pended filters pending) (λ f x h. refl)
    (at_rest (all page.tree) (is_selected (state_of page filters)) (is_marked rows) exact)
