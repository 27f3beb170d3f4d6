use Rattle.std.proofs.Common.{◌∙◌, ◌++◌, ◌∷◌, [], refl, ap, sym}
use Rattle.std.proofs.lemmas.Bool.{and_left, and_right}
use Rattle.page_tree.specs.Directions.{is_in}
use Rattle.cos_patterns.specs.Found.{pattern_found}
use Rattle.selector_tree.specs.declared.selector.Step.{Step}
use Rattle.selector_meaning.specs.Meaning.{holds}
use Rattle.procedural_ops.specs.Reaching.{reached}
use Rattle.retest.proofs.Ends.{reached-test, reached-others}
use Rattle.retest.proofs.look.may_lead.Goals as goal

pub returns-then-not-may_hold : goal.returns-then-not-may_hold
returns-then-not-may_hold c =
    let t = c.args.context.now.dom.now in
    let path = c.args.context.now.path.now in
    let front = c.in-Some.before.now in
    let q = c.in-Keep.test in
    let x = c.args.x in
    λ no.
    c.tests.invariant
    (reached-test t path c.tests.left.now front q x (c.in-Some.ensures.cases.0 ∙ ap (λ (s : Step). front ++ s ∷ []) c.in-Keep.is)
    ∙ and_right (is_in (reached t path front) x) (holds pattern_found t path q x) (c.if-not-may_hold.ensures refl))

pub tests-preserved : goal.tests-preserved
tests-preserved c =
    let t = c.args.context.now.dom.now in
    let path = c.args.context.now.path.now in
    let front = c.in-Some.before.now in
    let q = c.in-Keep.test in
    let x = c.args.x in
    λ none.
    c.tests.invariant
    (reached-test t path c.tests.left.now front q x (c.in-Some.ensures.cases.0 ∙ ap (λ (s : Step). front ++ s ∷ []) c.in-Keep.is)
    ∙ and_left (is_in (reached t path front) x) (holds pattern_found t path q x) none)

pub returns-in-Others : goal.returns-in-Others
returns-in-Others c =
    let front = c.in-Some.before.now in
    λ no.
    c.tests.invariant
    (reached-others c.args.context.now.dom.now c.args.context.now.path.now c.tests.left.now front c.args.x
    (c.in-Some.ensures.cases.0 ∙ ap (λ (s : Step). front ++ s ∷ []) c.in-Others.is) (sym c.is_shown.ensures ∙ no))
