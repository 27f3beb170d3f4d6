-- Groups get their filters one after another.
use Rattle.std.proofs.Common.{◌≡◌, ℕ, zero, suc, ◌<◌, ◌+◌, true, cond, List, [], ◌∷◌, ◌++◌, Some, length, get_or, refl, sym, ap, ap₂, subst, ◌∙◌, inl, inr, arith}
use Rattle.std.specs.List.{list_any}
use Rattle.std.specs.BTreeMap.{BTreeMap, get, Updates}
use Rattle.std.specs.Cmp.Lexicographic.{slice_cmp}
use Rattle.std.specs.declared.cmp.Ordering.{Ordering}
use Rattle.std.specs.declared.cmp.Ordering.TheVariants.{Less, Equal, Greater}
use Rattle.std.specs.Ordering.{is_eq, ordering_then}
use Rattle.std.specs.Prelude.{unwrap_or}
use Rattle.std.proofs.lemmas.Bool.{cases_Bool, cases_eq}
use Rattle.std.proofs.lemmas.List.{get_or_append_left, length-append}
use Rattle.std.proofs.Math.Seq.{get_or-append_seam}
use Rattle.selector_tree.specs.declared.filter.Filter.{Filter}
use Rattle.procedural_ops.specs.Told.{selector_at}
use Rattle.sensor_meaning.specs.Order.{sensor_cmp}
use Rattle.sensor_meaning.specs.Sensors.{Sensors, sensors}
use Rattle.sensor_meaning.proofs.Exact.{exact}
use Rattle.dependency_sets.specs.Same.{AreSame}
use Rattle.retest.specs.Asked.{group_in}
use Rattle.hide_engine.specs.Groups.{HasSet, Begins, AreNumbered}

-- ---- equal sets

both_equal : (o p : Ordering) → ordering_then o p ≡ Equal → (o ≡ Equal) × (p ≡ Equal)
both_equal Less p h = cc
both_equal Equal p h = (refl, h)
both_equal Greater p h = cc

equal : (o : Ordering) → is_eq o ≡ true → o ≡ Equal
equal Less h = cc
equal Equal h = refl
equal Greater h = cc

same_set : (r s : Sensors) → slice_cmp sensor_cmp r s ≡ Equal → r ≡ s
same_set [] [] h = refl
same_set [] (y ∷ s) h = absurd (let no : Less ≡ Equal = h in cc)
same_set (x ∷ r) [] h = absurd (let no : Greater ≡ Equal = h in cc)
same_set (x ∷ r) (y ∷ s) h =
    let parts = both_equal (sensor_cmp x y) (slice_cmp sensor_cmp r s) h in
    ap₂ ◌∷◌ (exact x y parts.0) (same_set r s parts.1)

-- ---- sets that grow

pub has_more : (old new : List Sensors) (g : ℕ) (r : Sensors) → Begins old new → HasSet old g r → HasSet new g r
has_more old new g r begins h = (
  omega (arith, ap (λ (l : List Sensors). length l) begins.1, length-append old begins.0, h.0),
  λ p. ap (list_any p) (ap (λ (l : List Sensors). get_or l g []) begins.1 ∙ get_or_append_left old begins.0 [] g h.0) ∙ h.1 p,
)

-- the last one
pub has_last : (sets : List Sensors) (set r : Sensors) → AreSame set r → HasSet (sets ++ set ∷ []) (length sets) r
has_last sets set r same = (
  omega (arith, length-append sets (set ∷ [])),
  λ p. ap (list_any p) (get_or-append_seam sets set [] []) ∙ same p,
)

-- one more set with the next number
pub one_numbered : (old new : BTreeMap Sensors ℕ) (sets : List Sensors) (key set : Sensors) → AreNumbered old sets → Updates (slice_cmp sensor_cmp) old new key (Some (length sets)) →
    AreSame set key → AreNumbered new (sets ++ set ∷ [])
one_numbered old new sets key set before update same r g h =
    elim (cases_Bool (is_eq (slice_cmp sensor_cmp key r))) [
      | inl e ↦
          let place : Some (length sets) ≡ Some g = sym (update.0 r ∙ ap (λ b. cond b (Some (length sets)) (get (slice_cmp sensor_cmp) old r)) e) ∙ h in
          let number : length sets ≡ g = ap (λ o. unwrap_or o 0) place in
          subst (λ k. HasSet (sets ++ set ∷ []) k r) number
          (subst (HasSet (sets ++ set ∷ []) (length sets)) (same_set key r (equal (slice_cmp sensor_cmp key r) e)) (has_last sets set key same))
      | inr e ↦
          has_more sets (sets ++ set ∷ []) g r (set ∷ [], refl)
          (before r g (sym (update.0 r ∙ ap (λ b. cond b (Some (length sets)) (get (slice_cmp sensor_cmp) old r)) e) ∙ h))
    ]

-- ---- filters, one after another

abbrev pub AreGroupedBefore : ℕ → List Filter → List Sensors → List ℕ → Type 0
AreGroupedBefore n filters sets numbers =
    (length numbers ≡ n) × ((f : ℕ) → f < n → HasSet sets (group_in numbers f) (sensors (selector_at filters f)))

pub group_last : (numbers : List ℕ) (g : ℕ) → group_in (numbers ++ g ∷ []) (length numbers) ≡ g
group_last [] g = refl
group_last (n ∷ numbers) g = group_last numbers g

pub group_before : (numbers : List ℕ) (g f : ℕ) → f < length numbers → group_in (numbers ++ g ∷ []) f ≡ group_in numbers f
group_before [] g f lt = absurd (omega arith)
group_before (n ∷ numbers) g zero lt = refl
group_before (n ∷ numbers) g (suc f) lt = group_before numbers g f (omega arith)

pub one_grouped : (filters : List Filter) (n : ℕ) (old new : List Sensors) (numbers : List ℕ) (g : ℕ) → AreGroupedBefore n filters old numbers → Begins old new →
    HasSet new g (sensors (selector_at filters n)) → AreGroupedBefore (n + 1) filters new (numbers ++ g ∷ [])
one_grouped filters n old new numbers g before begins here = (
  omega (arith, length-append numbers (g ∷ []), before.0),
  λ f lt. elim (cases_eq f n) [
    | inl e ↦
        subst (λ k. HasSet new k (sensors (selector_at filters f))) (sym (ap (group_in (numbers ++ g ∷ [])) (e ∙ sym before.0) ∙ group_last numbers g))
        (subst (λ k. HasSet new g (sensors (selector_at filters k))) (sym e) here)
    | inr other ↦
        subst (λ k. HasSet new k (sensors (selector_at filters f))) (sym (group_before numbers g f (omega (arith, before.0))))
        (has_more old new (group_in numbers f) (sensors (selector_at filters f)) begins (before.1 f (omega arith)))
  ],
)
