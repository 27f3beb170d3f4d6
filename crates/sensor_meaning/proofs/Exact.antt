-- Sensors that compare equal are the same.
use Rattle.std.proofs.Common.{◌≡◌, ℕ, zero, suc, List, [], ◌∷◌, map, refl, sym, ap, ap₂, ◌∙◌}
use Rattle.std.specs.declared.cmp.Ordering.{Ordering}
use Rattle.std.specs.declared.cmp.Ordering.TheVariants.{Less, Equal, Greater}
use Rattle.std.specs.Cmp.Lexicographic.{slice_cmp}
use Rattle.std.specs.Ordering.{nat_cmp, ordering_then}
use Rattle.std.proofs.lemmas.Map.Lookups.{exact_unsigned}
use Rattle.std.proofs.lemmas.Map.Lookups.{exact_bytes}
use Rattle.selector_meaning.specs.Texts.{Bytes}
use Rattle.sensor_meaning.specs.declared.sensor.Observes.{Observes}
use Rattle.sensor_meaning.specs.declared.sensor.Observes.TheVariants.{Attr, AnyAttr, Text, Children, Path}
use Rattle.sensor_meaning.specs.declared.sensor.Way.{Way}
use Rattle.sensor_meaning.specs.declared.sensor.Way.TheVariants.{ToChild, ToBelow, ToParent, ToAbove, ToNext, ToPrevious, ToAfter, ToBefore, Whole}
use Rattle.sensor_meaning.specs.declared.sensor.Sensor.{Sensor}
use Rattle.sensor_meaning.specs.Order.{way_number, ways, kind_of, name_of, kind_at, name_at, ways_of, sensor_cmp}

-- a way by its number
way_at : ℕ → Way
way_at zero = ToChild
way_at (suc zero) = ToBelow
way_at (suc (suc zero)) = ToParent
way_at (suc (suc (suc zero))) = ToAbove
way_at (suc (suc (suc (suc zero)))) = ToNext
way_at (suc (suc (suc (suc (suc zero))))) = ToPrevious
way_at (suc (suc (suc (suc (suc (suc zero)))))) = ToAfter
way_at (suc (suc (suc (suc (suc (suc (suc zero))))))) = ToBefore
way_at (suc (suc (suc (suc (suc (suc (suc (suc n)))))))) = Whole

way_back : (w : Way) → way_at (way_number w) ≡ w
unfolding way_at
way_back ToChild = refl
way_back ToBelow = refl
way_back ToParent = refl
way_back ToAbove = refl
way_back ToNext = refl
way_back ToPrevious = refl
way_back ToAfter = refl
way_back ToBefore = refl
way_back Whole = refl

ways_back : (route : List Way) → map way_at (ways route) ≡ route
ways_back [] = refl
ways_back (w ∷ route) = ap₂ ◌∷◌ (way_back w) (ways_back route)

-- what is observed, by its kind and the attribute's name
observes_at : ℕ → Bytes → Observes
observes_at zero name = Attr name
observes_at (suc zero) name = AnyAttr
observes_at (suc (suc zero)) name = Text
observes_at (suc (suc (suc zero))) name = Children
observes_at (suc (suc (suc (suc n)))) name = Path

observes_back : (o : Observes) → observes_at (kind_of o) (name_of o) ≡ o
unfolding observes_at
observes_back (Attr name) = refl
observes_back AnyAttr = refl
observes_back Text = refl
observes_back Children = refl
observes_back Path = refl

both_equal : (o p : Ordering) → ordering_then o p ≡ Equal → (o ≡ Equal) × (p ≡ Equal)
both_equal Less p h = cc
both_equal Equal p h = (refl, h)
both_equal Greater p h = cc

pub exact : (r s : Sensor) → sensor_cmp r s ≡ Equal → r ≡ s
exact r s h =
    let first = both_equal (nat_cmp (kind_at r) (kind_at s)) _ h in
    let second = both_equal (slice_cmp nat_cmp (name_at r) (name_at s)) _ first.1 in
    let kind : kind_at r ≡ kind_at s = exact_unsigned (kind_at r) (kind_at s) first.0 in
    let name : name_at r ≡ name_at s = exact_bytes (name_at r) (name_at s) second.0 in
    let route : r.route ≡ s.route = sym (ways_back r.route) ∙ ap (map way_at) (exact_bytes (ways_of r) (ways_of s) second.1) ∙ ways_back s.route in
    let observed : r.observes ≡ s.observes = sym (observes_back r.observes) ∙ ap₂ observes_at kind name ∙ observes_back s.observes in
    ap₂ (λ (o : Observes) (w : List Way). record { observes = o; route = w }) observed route
