-- Sets of sensors with the same members.
use Rattle.std.proofs.Common.{◌≡◌, Bool, true, false, not, ◌&&◌, ◌||◌, [], ◌∷◌, refl, sym, ap, ap₂, ◌∙◌, inl, inr, ◌⊎◌}
use Rattle.std.specs.declared.cmp.Ordering.{Ordering}
use Rattle.std.specs.declared.cmp.Ordering.TheVariants.{Less, Equal, Greater}
use Rattle.std.specs.Cmp.{IsTotalOrder}
use Rattle.std.specs.List.{list_any, AllByRecursion}
use Rattle.std.specs.List.Sorted.{IsStrictlySortedBy}
use Rattle.std.specs.Ordering.{is_eq, ordering_reverse}
use Rattle.std.proofs.lemmas.Bool.{or_cases, or_left}
use Rattle.std.proofs.lemmas.Cmp.{then_total, on_total, nat_cmp_total, nat_list_cmp_total, tied_itself}
use Rattle.page_tree.specs.Standings.{all}
use Rattle.page_tree.specs.Directions.{is_in}
use Rattle.page_tree.proofs.Members.{filter-alike}
use Rattle.sensor_meaning.specs.declared.sensor.Sensor.{Sensor}
use Rattle.sensor_meaning.specs.Sensors.{Sensors}
use Rattle.sensor_meaning.specs.Order.{kind_at, name_at, ways_of, sensor_cmp, sensor_eq}
use Rattle.sensor_meaning.specs.Changes.{observes, places_of}
use Rattle.sensor_meaning.specs.Dirty.{hit, spread, is_reached, brought}
use Rattle.sensor_meaning.proofs.Exact.{exact}
use Rattle.dependency_sets.specs.Same.{AreSame}
use Rattle.dependency_sets.specs.Laws.{OneOrder, SameDirty}
use Rattle.dependency_sets.proofs.Members.{never}

pub total : IsTotalOrder sensor_cmp
total = then_total (on_total kind_at nat_cmp_total) (then_total (on_total name_at nat_list_cmp_total) (on_total ways_of nat_list_cmp_total))

equal : (o : Ordering) → is_eq o ≡ true → o ≡ Equal
equal Less h = cc
equal Equal h = refl
equal Greater h = cc

pub same : (r s : Sensor) → sensor_eq r s ≡ true → r ≡ s
same r s h = exact r s (equal (sensor_cmp r s) h)

-- a sensor is in a list
abbrev has : Sensors → Sensor → Bool
has r x = list_any (sensor_eq x) r

here : (x : Sensor) (r : Sensors) → has (x ∷ r) x ≡ true
here x r = or_left (sensor_eq x x) (has r x) (ap is_eq (tied_itself total x))

-- what is in a list that x is before is behind x
behind : (x y : Sensor) (r : Sensors) → AllByRecursion (λ z. sensor_cmp x z ≡ Less) r → has r y ≡ true → sensor_cmp x y ≡ Less
behind x y [] b h = never h
behind x y (z ∷ r) b h = elim (or_cases (sensor_eq y z) (has r y) h) [
  | inl e ↦ ap (sensor_cmp x) (same y z e) ∙ b.0
  | inr e ↦ behind x y r b.1 e
]

both_ways_less : (x y : Sensor) → sensor_cmp x y ≡ Less → sensor_cmp y x ≡ Less → ⊥
both_ways_less x y h k = let no : Less ≡ Greater = sym h ∙ total.antisymm x y ∙ ap ordering_reverse k in cc

-- a test that leaves x out is the same behind x
apart : (x z : Sensor) → sensor_cmp x z ≡ Less → sensor_eq x z ≡ false
apart x z h = ap is_eq h

and_on : (a : Bool) → (a && true) ≡ a
and_on true = refl
and_on false = refl

without : (x : Sensor) (p : Sensor → Bool) (r : Sensors) → AllByRecursion (λ z. sensor_cmp x z ≡ Less) r → list_any (λ z. p z && not (sensor_eq x z)) r ≡ list_any p r
without x p [] b = refl
without x p (z ∷ r) b = ap₂ ◌||◌ (ap (λ c. p z && not c) (apart x z b.0) ∙ and_on (p z)) (without x p r b.1)

and_off : (a : Bool) → (a && false) ≡ false
and_off true = refl
and_off false = refl

left_out : (x : Sensor) (p : Sensor → Bool) (r : Sensors) → list_any (λ z. p z && not (sensor_eq x z)) (x ∷ r) ≡ list_any (λ z. p z && not (sensor_eq x z)) r
left_out x p r =
    ap (λ b. b || list_any (λ z. p z && not (sensor_eq x z)) r) (ap (λ c. p x && not c) (ap is_eq (tied_itself total x)) ∙ and_off (p x))

pub one_order : OneOrder
unfolding IsStrictlySortedBy
one_order [] [] a b h = refl
one_order [] (y ∷ s) a b h = never (h (λ z. true))
one_order (x ∷ r) [] a b h = never (sym (h (λ z. true)))
one_order (x ∷ r) (y ∷ s) a b h =
    elim first [
      | inl e ↦ ap₂ ◌∷◌ e (one_order r s a.1 b.1 (rest e))
      | inr h ↦ absurd h
    ]
  where
    first : (x ≡ y) ⊎ ⊥
    first =
        elim (or_cases (sensor_eq x y) (has s x) (sym (h (sensor_eq x)) ∙ here x r)) [
          | inl e ↦ inl (same x y e)
          | inr low ↦ elim (or_cases (sensor_eq y x) (has r y) (h (sensor_eq y) ∙ here y s)) [
            | inl e ↦ inl (sym (same y x e))
            | inr high ↦ inr (both_ways_less x y (behind x y r a.0 high) (behind y x s b.0 low))
          ]
        ]

    rest : x ≡ y → AreSame r s
    rest e p =
        sym (without x p r a.0) ∙ sym (left_out x p r) ∙ h (λ z. p z && not (sensor_eq x z))
        ∙ ap (λ w. list_any (λ z. p z && not (sensor_eq w z)) (y ∷ s)) e ∙ left_out y p s ∙ without y p s b.0

pub same_dirty : SameDirty
unfolding hit
same_dirty change u r s h =
    filter-alike (λ x. is_reached change u r x || brought change u x) (λ x. is_reached change u s x || brought change u x) (all u)
    (λ x _. ap (λ b. b || brought change u x) (h (λ q. observes q.observes change && is_in (spread u q.route (places_of change u)) x)))
