use Rattle.std.proofs.Common.{◌≡◌, ◌∙◌, ◌==◌, ◌&&◌, ◌||◌, ◌<◌, ℕ, Bool, true, false, cond, take, length, get_or, refl, sym, ap, ap₂, arith, inl, inr}
use Rattle.std.proofs.lemmas.Bool.{cases_Bool, eq-eqb, eqb-true}
use Rattle.std.proofs.lemmas.List.Folds.{list_any_at}
use Rattle.page_tree.specs.Directions.{is_in}
use Rattle.generic_tables.proofs.Written.{eq-turned}
use Rattle.kept_marks.specs.Kept.{is_marked}
use Rattle.retest.specs.Asked.{answers}
use Rattle.retest.proofs.Pricing.{asked_more}
use Rattle.retest.proofs.Visits.{turn}
use Rattle.retest.proofs.asking.ask_all.Goals as goal

-- one more filter was asked, which is f
one_answered : (f h x y : ℕ) (says : ℕ → ℕ → Bool) (before now mid old : Bool) → mid ≡ cond (y == x && before) (says h y) old →
    now ≡ cond (h == f && y == x) (says f x) mid → now ≡ cond (y == x && (before || (f == h))) (says h y) old
one_answered f h x y says before now mid old so_far asked = elim (cases_Bool (y == x)) [
  | inl at ↦ (elim (cases_Bool (h == f)) [
    | inl e ↦ asked ∙ ap₂ (λ a b. cond (a && b) (says f x) mid) e at ∙ ap₂ says (sym (eqb-true h f e)) (sym (eqb-true y x at))
        ∙ sym (ap₂ (λ a b. cond (a && (before || b)) (says h y) old) at (eq-turned f h ∙ e) ∙ ap (λ b. cond b (says h y) old) (any before))
    | inr e ↦ asked ∙ ap (λ a. cond (a && (y == x)) (says f x) mid) e ∙ so_far
        ∙ sym (ap (λ b. cond (y == x && (before || b)) (says h y) old) (eq-turned f h ∙ e) ∙ ap (λ b. cond (y == x && b) (says h y) old) (none before))
  ])
  | inr at ↦ asked ∙ ap (λ b. cond (h == f && b) (says f x) mid) at ∙ ap (λ b. cond b (says f x) mid) (never (h == f)) ∙ so_far
      ∙ ap (λ a. cond (a && before) (says h y) old) at ∙ sym (ap (λ a. cond (a && (before || (f == h))) (says h y) old) at)
]
  where
    any : (b : Bool) → (true && (b || true)) ≡ true
    any true = refl
    any false = refl

    none : (b : Bool) → (b || false) ≡ b
    none true = refl
    none false = refl

    never : (b : Bool) → (b && false) ≡ false
    never true = refl
    never false = refl

pub ask-requires-clause-filter : goal.ask-requires-clause-filter
ask-requires-clause-filter g c =
    let due = c.args.due.now in
    let i = c.loop-f.f-index in
    let within : i < length due = omega arith in
    c.requires.filters (get_or due i 0) (list_any_at (λ y. y == get_or due i 0) due i 0 within (eq-eqb (get_or due i 0) (get_or due i 0) refl))

pub loop-f-preserved : goal.loop-f-preserved
loop-f-preserved g c =
    let asking = c.args.asking.now in
    let due = c.args.due.now in
    let i = c.loop-f.f-index in
    let f = get_or due i 0 in
    let within : i < length due = omega arith in
    record {
      marks = λ h y.
          one_answered f h c.args.x y (answers asking) (is_in (take i due) h) (is_marked c.ask.new.marks h y) (is_marked c.loop-f.marks h y) (is_marked c.args.marks.now h y)
          (c.loop-f.invariant.marks h y) (c.in_ok-ask.ensures.marks h y)
          ∙ ap (λ b. cond (y == c.args.x && b) (answers asking h y) (is_marked c.args.marks.now h y)) (sym (turn due i h within));
      right = c.in_ok-ask.ensures.right;
      checks = omega (arith, c.in_ok-ask.ensures.checks, c.loop-f.invariant.checks);
      parts = asked_more c.loop-f.invariant.parts c.in_ok-ask.ensures.parts;
    }

pub returns-in_err-ask-clause-parts : goal.returns-in_err-ask-clause-parts
returns-in_err-ask-clause-parts g c = asked_more c.loop-f.invariant.parts c.in_err-ask.ensures.parts
