-- Where no sensor that sees the change is hit, none is hit from where a direction comes from.
use Rattle.std.proofs.Common.{◌≡◌, ℕ, Bool, true, false, ◌&&◌, ◌||◌, ◌==◌, List, [], ◌∷◌, ◌++◌, refl, sym, ap, ap₂, ◌∙◌}
use Rattle.std.specs.List.{list_any}
use Rattle.page_tree.specs.Directions.{is_in}
use Rattle.page_tree.specs.Forest.{Tree}
use Rattle.page_tree.specs.Standings.{all}
use Rattle.sensor_meaning.specs.Dirty.{comes, hit, led, spread}
use Rattle.sensor_meaning.specs.Sensors.{Sensors, one, via}
use Rattle.sensor_meaning.specs.declared.sensor.Observes.{Observes}
use Rattle.sensor_meaning.specs.declared.sensor.Way.{Way}
use Rattle.sensor_laws.proofs.Any.{and-true, or_none, any-made, is_in-filter, any-append}

module _ (t : Tree) (seen : Observes → Bool) (places : List ℕ) where
  abbrev pub lies : ℕ → Type 0
  lies x = is_in (0 ∷ all t) x ≡ true

  spread_end : (route : List Way) (d : Way) (s : List ℕ) → spread t (route ++ d ∷ []) s ≡ led t d (spread t route s)
  unfolding spread
  spread_end [] d s = refl
  spread_end (e ∷ route) d s = spread_end route d (led t e s)

  led_from : (d : Way) (s : List ℕ) (x y : ℕ) → lies x → comes t d y x ≡ true → is_in s y ≡ true → is_in (led t d s) x ≡ true
  unfolding led
  led_from d s x y in_tree h m =
      is_in-filter (λ z. list_any (λ w. comes t d w z) s) x (0 ∷ all t)
      ∙ and-true _ _ (any-made (λ w. comes t d w x) s y m h) in_tree

  pub quiet-join : (r q : Sensors) (x : ℕ) → hit t seen places (r ++ q) x ≡ false →
      (hit t seen places r x ≡ false) × (hit t seen places q x ≡ false)
  unfolding hit
  quiet-join r q x h = or_none _ _ (sym (any-append _ r q) ∙ h)

  one_less : (a b c : Bool) → (c ≡ true → b ≡ true) → (a && b) ≡ false → (a && c) ≡ false
  one_less a b true f h = ap (λ k. a && k) (sym (f refl)) ∙ h
  one_less true b false f h = refl
  one_less false b false f h = refl

  -- from y the direction leads to x, so y isn't hit where x isn't
  pub quiet-via : (d : Way) (r : Sensors) (x y : ℕ) → lies x → comes t d y x ≡ true →
      hit t seen places (via d r) x ≡ false → hit t seen places r y ≡ false
  unfolding hit
  quiet-via d [] x y in_tree go h = refl
  quiet-via d (s ∷ r) x y in_tree go h =
      let parts = or_none (seen s.observes && is_in (spread t (s.route ++ d ∷ []) places) x) (hit t seen places (via d r) x) h in
      ap₂ ◌||◌
      (one_less (seen s.observes) (is_in (spread t (s.route ++ d ∷ []) places) x) (is_in (spread t s.route places) y)
      (λ m. ap (λ l. is_in l x) (spread_end s.route d places) ∙ led_from d (spread t s.route places) x y in_tree go m) parts.0)
      (quiet-via d r x y in_tree go parts.1)

  pub quiet-one : (o : Observes) (x : ℕ) → hit t seen places (one o []) x ≡ false → (seen o && is_in places x) ≡ false
  unfolding hit spread
  quiet-one o x h = (or_none (seen o && is_in places x) false h).0

  -- the subject is an element, and so is what it is asked from
  pub inside : (x : ℕ) → is_in (all t) x ≡ true → lies x
  inside x h = or-right' (0 == x) (is_in (all t) x) h
    where
      or-right' : (a b : Bool) → b ≡ true → (a || b) ≡ true
      or-right' true b h = refl
      or-right' false b h = h
