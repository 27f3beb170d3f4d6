use Rattle.std.proofs.Common.{◌≡◌, ◌++◌, ℕ, List, Option, Some, true, ap, sym, subst, ◌∙◌}
use Rattle.page_tree.specs.Standings.{all}
use Rattle.page_tree.specs.Directions.{is_in}
use Rattle.cos_patterns.specs.Found.{pattern_found}
use Rattle.kept_marks.specs.Rising.{IsRising}
use Rattle.selector_tree.specs.declared.filter.Action.TheVariants.{Remove}
use Rattle.selector_tree.specs.declared.filter.Taken.{Taken}
use Rattle.selector_meaning.specs.Hidden.{places_from, rows_of}
use Rattle.selector_match.specs.Walks.{elements_behind, order}
use Rattle.selector_match.proofs.Walking.{from_one, from_found, all_behind, some_of}
use Rattle.engine_meaning.specs.Hidden.{acts_on}
use Rattle.engine_meaning.specs.Rounds.{taken_in}
use Rattle.engine_meaning.specs.States.{State}
use Rattle.hide_engine.specs.Chosen.{chosen}
use Rattle.hide_engine.specs.Removing.{taken_rows}
use Rattle.hide_engine.proofs.Places.{chosen_places}
use Rattle.hide_engine.proofs.Taking.{taken_go_on}
use Rattle.hide_engine.proofs.removing.all_taken_rows.Goals as goal

pub elements-init : goal.elements-init
elements-init c =
    let s : State = record { page = c.args.page.now; filters = c.args.active.now } in
    let t = s.page.tree in
    let behind = elements_behind t (order t) in
    let at = c.next_element-at.result in
    let chooses = acts_on pattern_found s.filters s.page.path t Remove in
    let first : from_one behind at ≡ all t = sym (from_found behind (behind 0) at c.next_element-at.ensures.first) ∙ all_behind t c.is_tree.ensures in
    record {
      rows =
          ap (λ (rows : List Taken). rows ++ taken_rows s (rows_of chooses s.filters (from_one behind at))) c.new-rows.ensures
          ∙ ap (λ (xs : List ℕ). taken_rows s (rows_of chooses s.filters xs)) first;
      element = λ m e. some_of (λ n. is_in (all t) n ≡ true) at m c.next_element-at.ensures.element e;
      there = λ m e. some_of (λ n. is_in (order t) n ≡ true) at m c.next_element-at.ensures.there e;
    }

pub elements-preserved : goal.elements-preserved
elements-preserved c =
    let s : State = record { page = c.args.page.now; filters = c.args.active.now } in
    let t = s.page.tree in
    let behind = elements_behind t (order t) in
    let x = c.in-Some.x in
    let at = c.next_element-at-in-Some.result in
    let chooses = acts_on pattern_found s.filters s.page.path t Remove in
    let there : is_in (all t) x ≡ true = c.elements.invariant.element x c.in-Some.is in
    let places : c.in_ok-places.places ≡ places_from 0 (λ item. chooses item x) s.filters =
    c.in_ok-places.ensures ∙ ap (chosen s.filters Remove) c.of.ensures.filters
    ∙ chosen_places s Remove x c.args.marks.now c.requires there (subst IsRising c.of.ensures.filters c.of.ensures.rising) in
    let before : c.elements.rows ++ taken_rows s (rows_of chooses s.filters (from_one behind (Some x))) ≡ taken_in pattern_found s.filters s.page.path t 1 =
    sym (ap (λ (o : Option ℕ). c.elements.rows ++ taken_rows s (rows_of chooses s.filters (from_one behind o))) c.in-Some.is) ∙ c.elements.invariant.rows in
    record {
      rows =
          taken_go_on s chooses c.elements.rows (taken_in pattern_found s.filters s.page.path t 1) c.push_row.new.rows x c.in_ok-places.places
          (behind x) (from_one behind at) c.in_ok-push_row.ensures places (from_found behind (behind x) at c.next_element-at-in-Some.ensures.first) before;
      element = λ m e. some_of (λ n. is_in (all t) n ≡ true) at m c.next_element-at-in-Some.ensures.element e;
      there = λ m e. some_of (λ n. is_in (order t) n ≡ true) at m c.next_element-at-in-Some.ensures.there e;
    }
