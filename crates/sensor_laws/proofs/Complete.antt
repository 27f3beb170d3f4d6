-- Each element of both trees whose answer differs is dirty.
use Rattle.std.proofs.Common.{◌≡◌, ℕ, Bool, true, false, not, List, [], ◌∷◌, map, refl}
use Rattle.std.specs.List.{list_any}
use Rattle.selector_tree.specs.declared.selector.Step.{Step}
use Rattle.selector_tree.specs.declared.selector.Test.{Test}
use Rattle.page_tree.specs.Directions.{is_in}
use Rattle.page_tree.specs.Standings.{all}
use Rattle.selector_meaning.specs.Meaning.{run, selects}
use Rattle.selector_meaning.specs.Texts.{Bytes, is_empty}
use Rattle.sensor_meaning.specs.Dirty.{hit}
use Rattle.sensor_meaning.specs.Nested.{is_outer, step_others, test_others}
use Rattle.sensor_meaning.specs.Sensors.{Sensors, leads, members, sensors}
use Rattle.sensor_laws.specs.Frame.{Event, Frame}
use Rattle.sensor_laws.proofs.Any.{never_true}
use Rattle.sensor_laws.proofs.Relations.{cases}
use Rattle.sensor_laws.proofs.Laws.{TestLaw}
use Rattle.sensor_laws.proofs.Chains.{selected, chain_selects, chain_leads}
use Rattle.sensor_laws.proofs.Induct.{of_old, of_new, sensed, test_sensed, holds_old, holds_new, step_laws, test_laws}

-- the three laws, for an element that stays: an answer that differs is in the spread of a sensor that sees the change
module _ (e : Event) (frame : Frame e) (found : Bytes → ℕ → Bytes → Bool) (x : ℕ) (stays : e.moved x ≡ false) (old : is_in (all e.old) x ≡ true) where
  abbrev Seen : Sensors → Type 0
  Seen r = hit e.new e.seen e.places r x ≡ true

  seen_by : (r : Sensors) (a b : Bool) → (hit e.new e.seen e.places r x ≡ false → a ≡ b) → (a ≡ b → ⊥) → Seen r
  seen_by r a b f differs = cases (hit e.new e.seen e.places r x) (λ h. h) (λ h. absurd (differs (f h)))

  pub member_law : (steps : List Step) → list_any (λ step. (step_others step).within) steps ≡ false →
      (is_in (run (map (of_old e frame found) steps) (all e.old)) x ≡ is_in (run (map (of_new e frame found) steps) (all e.new)) x → ⊥) →
      Seen (members (map (sensed e frame found) steps))
  member_law steps free = seen_by _ _ _
      (chain_selects e frame Step (of_old e frame found) (of_new e frame found) (sensed e frame found) step_others (step_laws e frame found) steps free x stays old)

  pub leads_law : (steps : List Step) → list_any (λ step. (step_others step).any) steps ≡ false →
      (not (is_empty (run (map (of_old e frame found) steps) (x ∷ []))) ≡ not (is_empty (run (map (of_new e frame found) steps) (x ∷ []))) → ⊥) →
      Seen (leads (map (sensed e frame found) steps))
  leads_law steps free = seen_by _ _ _
      (chain_leads e frame Step (of_old e frame found) (of_new e frame found) (sensed e frame found) step_others (step_laws e frame found) steps free x stays old)

  pub test_law : (q : Test) → test_others q ≡ false → (holds_old e frame found q x ≡ holds_new e frame found q x → ⊥) → Seen (test_sensed e frame found q)
  test_law q free = seen_by _ _ _ (test_laws e frame found q free x stays old)

module _ (e : Event) (frame : Frame e) (found : Bytes → ℕ → Bytes → Bool) (l : List (List Step)) (proper : is_outer l ≡ true) where
  off : (a : Bool) → not a ≡ true → a ≡ false
  off true h = never_true h
  off false h = refl

  pub law : TestLaw e frame (selects found e.old e.old_path l) (selects found e.new e.new_path l) (sensors l)
  law =
      selected e frame Step (of_old e frame found) (of_new e frame found) (sensed e frame found) step_others (step_laws e frame found) l
      (off (list_any (λ chain. list_any (λ step. (step_others step).within) chain) l) proper)
