-- What a change made dirty is noted, one group after another.
use Rattle.std.proofs.Common.{◌≡◌, ℕ, ◌+◌, ◌≤◌, Bool, true, false, ◌&&◌, ◌||◌, ◌==◌, ◌⊎◌, List, [], ◌∷◌, length, refl, sym, ap, ap₂, ◌∙◌, inl, inr, arith}
use Rattle.std.specs.Prelude.{nat_lt}
use Rattle.std.specs.List.{list_any}
use Rattle.std.proofs.Math.ListN.{get_or-eq_default}
use Rattle.std.proofs.lemmas.Bool.{cases_Bool, eqb-true}
use Rattle.std.proofs.lemmas.Bool.Decides.{nat_tests}
use Rattle.page_tree.specs.Forest.{Tree}
use Rattle.page_tree.specs.Standings.{all}
use Rattle.page_tree.specs.Directions.{is_in}
use Rattle.sensor_meaning.specs.declared.change.Change.{Change}
use Rattle.sensor_meaning.specs.Changes.{observes, places_of}
use Rattle.sensor_meaning.specs.Dirty.{brought, is_reached, hit, spread}
use Rattle.sensor_meaning.specs.Sensors.{Sensors}
use Rattle.sensor_laws.proofs.Any.{is_in-filter, or_none, and-swap}
use Rattle.retest.specs.Noted.{Noted, is_pending}
use Rattle.hide_engine.specs.Groups.{set_at, Notes}

module _ (change : Change) (u : Tree) where
  nothing_reached : (x : ℕ) → is_reached change u [] x ≡ false
  unfolding hit
  nothing_reached x = refl

  -- sensors that don't observe the change lead nowhere
  pub unobserved : (r : Sensors) (x : ℕ) → list_any (λ s. observes s.observes change) r ≡ false → is_reached change u r x ≡ false
  unfolding hit
  unobserved [] x h = refl
  unobserved (s ∷ r) x h =
      let parts = or_none (observes s.observes change) (list_any (λ s. observes s.observes change) r) h in
      ap₂ (λ a b. (a && is_in (spread u s.route (places_of change u)) x) || b) parts.0 (unobserved r x parts.1)

  pub quiet : (r : Sensors) (old : Noted) (group : ℕ) → list_any (λ s. observes s.observes change) r ≡ false → (g x : ℕ) →
      is_pending old g x ≡ (is_pending old g x || (g == group && (is_in (all u) x && is_reached change u r x)))
  quiet r old group h g x =
      none (is_pending old g x) (g == group) (is_in (all u) x) ∙ ap (λ b. is_pending old g x || (g == group && (is_in (all u) x && b))) (sym (unobserved r x h))
    where
      none : (o a b : Bool) → o ≡ (o || (a && (b && false)))
      none true a b = refl
      none false true true = refl
      none false true false = refl
      none false false b = refl

  -- what came or moved, and what the groups before n observe
  abbrev pub NotesBefore : ℕ → List Sensors → Noted → Noted → Type 0
  NotesBefore n sets old new =
      (g x : ℕ) → is_pending new g x ≡ (is_pending old g x || (is_in (all u) x && ((nat_lt g n && is_reached change u (set_at sets g) x) || brought change u x)))

  pub notes_start : (sets : List Sensors) (old new : Noted) (came : List ℕ) → ((x : ℕ) → is_in came x ≡ (is_in (all u) x && brought change u x)) →
      ((g x : ℕ) → is_pending new g x ≡ (is_pending old g x || is_in came x)) → NotesBefore 0 sets old new
  notes_start sets old new came is more g x =
      more g x ∙ ap (λ b. is_pending old g x || b) (is x)
      ∙ ap (λ b. is_pending old g x || (is_in (all u) x && ((b && is_reached change u (set_at sets g) x) || brought change u x))) (sym (none g))
    where
      none : (g : ℕ) → nat_lt g 0 ≡ false
      none g = grind (arith, nat_tests)

  pub notes_more : (n : ℕ) (sets : List Sensors) (old now new : Noted) (set : Sensors) → set ≡ set_at sets n → NotesBefore n sets old now →
      ((g x : ℕ) → is_pending new g x ≡ (is_pending now g x || (g == n && (is_in (all u) x && is_reached change u set x)))) → NotesBefore (n + 1) sets old new
  notes_more n sets old now new set here before more g x =
      more g x ∙ ap (λ b. b || (g == n && (is_in (all u) x && is_reached change u set x))) (before g x) ∙ elim (cases_Bool (g == n)) [
        | inl e ↦
            ap₂ (λ l k. (is_pending old g x || (is_in (all u) x && ((l && is_reached change u (set_at sets g) x) || brought change u x))) || (k && (is_in (all u) x && is_reached change u set x))) (not_less e) e
            ∙ ap (λ (s : Sensors). (is_pending old g x || (is_in (all u) x && brought change u x)) || (is_in (all u) x && is_reached change u s x)) (here ∙ ap (set_at sets) (sym (eqb-true g n e)))
            ∙ shuffle (is_pending old g x) (is_in (all u) x) (is_reached change u (set_at sets g) x) (brought change u x)
            ∙ sym (ap (λ l. is_pending old g x || (is_in (all u) x && ((l && is_reached change u (set_at sets g) x) || brought change u x))) (less e))
        | inr e ↦
            ap (λ k. (is_pending old g x || (is_in (all u) x && ((nat_lt g n && is_reached change u (set_at sets g) x) || brought change u x))) || (k && (is_in (all u) x && is_reached change u set x))) e
            ∙ off (is_pending old g x || (is_in (all u) x && ((nat_lt g n && is_reached change u (set_at sets g) x) || brought change u x)))
            ∙ ap (λ l. is_pending old g x || (is_in (all u) x && ((l && is_reached change u (set_at sets g) x) || brought change u x))) (alike e)
      ]
    where
      not_less : (g == n) ≡ true → nat_lt g n ≡ false
      not_less e = grind (arith, nat_tests)

      less : (g == n) ≡ true → nat_lt g (n + 1) ≡ true
      less e = grind (arith, nat_tests)

      alike : (g == n) ≡ false → nat_lt g n ≡ nat_lt g (n + 1)
      alike e = grind (arith, nat_tests)

      off : (b : Bool) → (b || false) ≡ b
      off true = refl
      off false = refl

      shuffle : (o a r b : Bool) → ((o || (a && b)) || (a && r)) ≡ (o || (a && (r || b)))
      shuffle true a r b = refl
      shuffle false true true true = refl
      shuffle false true true false = refl
      shuffle false true false true = refl
      shuffle false true false false = refl
      shuffle false false r b = refl

  pub notes_all : (sets : List Sensors) (old new : Noted) → NotesBefore (length sets) sets old new → Notes change u sets old new
  notes_all sets old new h g x =
      h g x ∙ ap (λ b. is_pending old g x || (is_in (all u) x && (b || brought change u x))) (within (cases_Bool (nat_lt g (length sets))))
      ∙ ap (λ b. is_pending old g x || b)
      (and-swap (is_in (all u) x) (is_reached change u (set_at sets g) x || brought change u x)
      ∙ sym (is_in-filter (λ y. is_reached change u (set_at sets g) y || brought change u y) x (all u)))
    where
      past : nat_lt g (length sets) ≡ false → length sets ≤ g
      past e = grind (arith, nat_tests)

      within : (nat_lt g (length sets) ≡ true) ⊎ (nat_lt g (length sets) ≡ false) → (nat_lt g (length sets) && is_reached change u (set_at sets g) x) ≡ is_reached change u (set_at sets g) x
      within (inl e) = ap (λ l. l && is_reached change u (set_at sets g) x) e
      within (inr e) =
          ap (λ l. l && is_reached change u (set_at sets g) x) e
          ∙ sym (ap (λ (s : Sensors). is_reached change u s x) (get_or-eq_default sets [] (past e)) ∙ nothing_reached x)

  -- what came or moved may be noted before
  pub notes_with : (sets : List Sensors) (old now new : Noted) (came : List ℕ) → ((x : ℕ) → is_in came x ≡ (is_in (all u) x && brought change u x)) →
      ((g x : ℕ) → is_pending now g x ≡ (is_pending old g x || is_in came x)) → Notes change u sets now new → Notes change u sets old new
  notes_with sets old now new came is more h g x =
      let dirty_is = is_in-filter (λ y. is_reached change u (set_at sets g) y || brought change u y) x (all u) in
      h g x ∙ ap₂ ◌||◌ (more g x ∙ ap (λ b. is_pending old g x || b) (is x)) dirty_is
      ∙ absorbed (is_pending old g x) (is_in (all u) x) (is_reached change u (set_at sets g) x) (brought change u x)
      ∙ sym (ap (λ b. is_pending old g x || b) dirty_is)
    where
      absorbed : (o a r b : Bool) → ((o || (a && b)) || ((r || b) && a)) ≡ (o || ((r || b) && a))
      absorbed true a r b = refl
      absorbed false true true true = refl
      absorbed false true true false = refl
      absorbed false true false true = refl
      absorbed false true false false = refl
      absorbed false false r b = refl
