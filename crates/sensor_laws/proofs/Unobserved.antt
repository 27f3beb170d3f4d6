-- A change that no sensor observes reaches nothing.
use Rattle.std.proofs.Common.{◌≡◌, ℕ, Bool, false, ◌&&◌, ◌||◌, List, [], ◌∷◌, filter, cond, refl, ap, ap₂, ◌∙◌}
use Rattle.std.specs.List.{list_any}
use Rattle.page_tree.specs.Forest.{Tree}
use Rattle.page_tree.specs.Standings.{all}
use Rattle.page_tree.specs.Directions.{is_in}
use Rattle.sensor_meaning.specs.declared.sensor.Observes.{Observes}
use Rattle.sensor_meaning.specs.Sensors.{Sensors}
use Rattle.sensor_meaning.specs.Changes.{observes, places_of}
use Rattle.sensor_meaning.specs.Dirty.{spread, hit, brought, is_reached}
use Rattle.sensor_laws.specs.Laws.{Unobserved}
use Rattle.sensor_laws.proofs.Any.{or_none}

none_hit : (t : Tree) (seen : Observes → Bool) (places : List ℕ) (r : Sensors) (x : ℕ) → list_any (λ s. seen s.observes) r ≡ false → hit t seen places r x ≡ false
unfolding hit
none_hit t seen places [] x h = refl
none_hit t seen places (s ∷ r) x h =
    let parts = or_none (seen s.observes) (list_any (λ s. seen s.observes) r) h in
    ap₂ ◌||◌ (ap (λ b. b && is_in (spread t s.route places) x) parts.0) (none_hit t seen places r x parts.1)

none_kept : (p : ℕ → Bool) (xs : List ℕ) → ((x : ℕ) → p x ≡ false) → filter p xs ≡ []
none_kept p [] h = refl
none_kept p (x ∷ xs) h = ap (λ b. cond b (x ∷ filter p xs) (filter p xs)) (h x) ∙ none_kept p xs h

pub unobserved : Unobserved
unobserved change u r h calm =
    none_kept (λ x. is_reached change u r x || brought change u x) (all u)
    (λ x. ap₂ ◌||◌ (none_hit u (λ o. observes o change) (places_of change u) r x h) (calm x))
