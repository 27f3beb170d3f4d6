use Rattle.std.proofs.Common.{◌≡◌, ◌==◌, ◌+◌, ◌<◌, ◌&&◌, ◌||◌, ℕ, Bool, List, true, false, cond, length, take, get_or, arith, sym, ap, subst, ◌∙◌}
use Rattle.std.proofs.lemmas.Bool.{eqb-true}
use Rattle.page_tree.specs.Standings.{all}
use Rattle.page_tree.specs.Directions.{is_in}
use Rattle.kept_marks.specs.Kept.{is_marked}
use Rattle.generic_tables.proofs.Written.{eq-turned}
use Rattle.retest_laws.specs.Pending.{due_at}
use Rattle.retest.specs.Asked.{answers, carried, pends, AreRightFor}
use Rattle.retest.specs.Priced.{price, IsPriced}
use Rattle.retest.proofs.Pricing.{asked_more}
use Rattle.retest.proofs.Visits.{front_within, one_more, none_more, goes_on, passes, turn}
use Rattle.retest.proofs.Same.{neither}
use Rattle.retest.proofs.asking.ask_pending.Goals as goal
use Rattle.retest.proofs.asking.ask_pending.Goals.{then-is_element+in_ok-one, else-is_element}

pub returns-in_err-one-clause-checks : goal.returns-in_err-one-clause-checks
returns-in_err-one-clause-checks g c =
    let asking = c.args.asking.now in
    let n = length asking.active.now in
    let elements = all asking.context.dom.now in
    let pend = pends asking c.args.pending.now in
    let visits = c.elements-x-items.result.now in
    let i = c.loop-x.x-index in
    let within : i < length visits = omega arith in
    let there : is_in elements (get_or visits i 0) ≡ true = sym c.is_element.ensures ∙ c.if-is_element.true in
    let more = one_more (due_at n (carried asking) pend) elements visits i within there in
    let front = front_within n elements (carried asking) pend visits (i + 1) c.elements-x-items.ensures.once in
    omega (arith, more, front, c.in_err-one.ensures.checks, c.loop-x.invariant.checks)

pub returns-clause-checks : goal.returns-clause-checks
returns-clause-checks g c =
    let asking = c.args.asking.now in
    let front = front_within (length asking.active.now) (all asking.context.dom.now) (carried asking) (pends asking c.args.pending.now) c.elements-x-items.result.now c.loop-x.x-index c.elements-x-items.ensures.once in
    omega (arith, front, c.loop-x.invariant.checks)

pub loop-x-preserved : goal.loop-x-preserved
loop-x-preserved g c =
    let asking = c.args.asking.now in
    let n = length asking.active.now in
    let elements = all asking.context.dom.now in
    let pend = pends asking c.args.pending.now in
    let visits = c.elements-x-items.result.now in
    let i = c.loop-x.x-index in
    let x = get_or visits i 0 in
    let within : i < length visits = omega arith in
    let turned = λ (y : ℕ). turn visits i y within ∙ ap (λ b. is_in (take i visits) y || b) (eq-turned x y) in
    let set = λ (f y : ℕ) (b : Bool). cond (b && (is_in elements y && pend f y)) (carried asking f y && answers asking f y) (is_marked c.args.marks.now f y) in
    elim c.if-is_element.branch [
      | then-is_element+in_ok-one w ↦
          let there : is_in elements x ≡ true = sym c.is_element.ensures ∙ w.if-is_element.true in
          let here = λ (y : ℕ) (e : (y == x) ≡ true). subst (λ z. is_in elements z ≡ true) (sym (eqb-true y x e)) there in
          let more = one_more (due_at n (carried asking) pend) elements visits i within there in
          record {
            marks = λ f y.
                ap (λ (m : List (ℕ × List ℕ)). is_marked m f y) w.marks-is
                ∙ goes_on (is_in (take i visits) y) (y == x) (is_in elements y) (pend f y) (carried asking f y && answers asking f y) (is_marked c.args.marks.now f y)
                (is_marked w.ask_at.new.marks f y) (is_marked c.loop-x.marks f y) (here y) (w.in_ok-one.ensures.marks f y) (c.loop-x.invariant.marks f y)
                ∙ ap (set f y) (sym (turned y));
            right = subst (AreRightFor asking) (sym w.members-is) w.in_ok-one.ensures.right;
            checks = omega (arith, more, w.checks-is, w.in_ok-one.ensures.checks, c.loop-x.invariant.checks);
            parts =
                subst (λ (n : ℕ). IsPriced (price asking.active.now asking.context.dom.now) c.args.checks.now n c.args.parts.now c.if-is_element.parts) (sym w.checks-is)
                (subst (IsPriced (price asking.active.now asking.context.dom.now) c.args.checks.now w.ask_at.new.checks c.args.parts.now) (sym w.parts-is)
                (asked_more c.loop-x.invariant.parts w.in_ok-one.ensures.parts));
            same = λ no.
                let both = neither c.loop-x.changed w.in_ok-one.one (sym w.either-changed.ensures ∙ sym w.changed-is ∙ no) in
                λ f y. ap (λ (m : List (ℕ × List ℕ)). is_marked m f y) w.marks-is ∙ w.in_ok-one.ensures.same both.1 f y ∙ c.loop-x.invariant.same both.0 f y;
          }
      | else-is_element w ↦
          let gone : is_in elements x ≡ false = sym c.is_element.ensures ∙ w.if-is_element.false in
          let none = λ (y : ℕ) (e : (y == x) ≡ true). subst (λ z. is_in elements z ≡ false) (sym (eqb-true y x e)) gone in
          let more = none_more (due_at n (carried asking) pend) elements visits i within gone in
          record {
            marks = λ f y.
                ap (λ (m : List (ℕ × List ℕ)). is_marked m f y) w.marks-is
                ∙ passes (is_in (take i visits) y) (y == x) (is_in elements y) (pend f y) (carried asking f y && answers asking f y) (is_marked c.args.marks.now f y)
                (is_marked c.loop-x.marks f y) (none y) (c.loop-x.invariant.marks f y)
                ∙ ap (set f y) (sym (turned y));
            right = subst (AreRightFor asking) (sym w.members-is) c.loop-x.invariant.right;
            checks = omega (arith, more, w.checks-is, c.loop-x.invariant.checks);
            parts =
                subst (λ (n : ℕ). IsPriced (price asking.active.now asking.context.dom.now) c.args.checks.now n c.args.parts.now c.if-is_element.parts) (sym w.checks-is)
                (subst (IsPriced (price asking.active.now asking.context.dom.now) c.args.checks.now c.loop-x.checks c.args.parts.now) (sym w.parts-is) c.loop-x.invariant.parts);
            same = λ no f y.
                ap (λ (m : List (ℕ × List ℕ)). is_marked m f y) w.marks-is ∙ c.loop-x.invariant.same (sym w.changed-is ∙ no) f y;
          }
    ]
