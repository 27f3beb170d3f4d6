use Rattle.std.proofs.Common.{◌*◌, ℕ, Bool, OnOk, length, subst}
use Rattle.page_tree.specs.Standings.{all}
use Rattle.kept_marks.specs.Kept.{Sets}
use Rattle.procedural_ops.specs.Noted.{simple_tests}
use Rattle.procedural_ops.specs.Told.{selector_at}
use Rattle.retest.specs.Asked.{answers}
use Rattle.retest.specs.Priced.{price}
use Rattle.retest.proofs.Pricing.{one_asked, within_price}
use Rattle.retest.proofs.asking.ask.Goals as goal

pub test-requires-clause-proper : goal.test-requires-clause-proper
test-requires-clause-proper g c = c.requires.ready.proper c.args.f c.requires.filter

pub returns-clause-marks : goal.returns-clause-marks
returns-clause-marks g c =
    let verdict = c.in_ok-verdict.verdict in
    let said = c.in_ok-verdict.ensures in
    let old = c.args.marks.now in
    let new = c.put.new.self in
    subst (λ (n : ℕ). OnOk c.put.result (Sets old new n c.args.x (answers c.args.asking.now c.args.f c.args.x))) said.filter
    (subst (λ (n : ℕ). OnOk c.put.result (Sets old new verdict.filter n (answers c.args.asking.now c.args.f c.args.x))) said.element
    (subst (λ (b : Bool). OnOk c.put.result (Sets old new verdict.filter verdict.element b)) said.answer c.put.ensures.ok))

pub returns-in_err-verdict-clause-parts : goal.returns-in_err-verdict-clause-parts
returns-in_err-verdict-clause-parts g c =
    let asking = c.args.asking.now in
    one_asked (price asking.active.now asking.context.dom.now) (simple_tests (selector_at asking.active.now c.args.f) * length (all asking.context.dom.now)) c.args.checks.now c.test.new.checks
    c.args.parts.now c.test.new.parts c.test.ensures.counted c.test.ensures.asked (within_price asking.active.now asking.context.dom.now c.args.f c.requires.filter)

pub returns-clause-parts : goal.returns-clause-parts
returns-clause-parts g c =
    let asking = c.args.asking.now in
    one_asked (price asking.active.now asking.context.dom.now) (simple_tests (selector_at asking.active.now c.args.f) * length (all asking.context.dom.now)) c.args.checks.now c.test.new.checks
    c.args.parts.now c.test.new.parts c.test.ensures.counted c.test.ensures.asked (within_price asking.active.now asking.context.dom.now c.args.f c.requires.filter)
