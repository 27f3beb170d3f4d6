use Rattle.std.proofs.Common.{sym, ◌∙◌}
use Rattle.spelling_reader.proofs.TestLaws.{attribute-read}
use Rattle.spelling_reader.proofs.tests_of.push_attribute.Goals as goal

pub returns : goal.returns
returns c = λ given e.
    let a = c.in_ok-inside in
    attribute-read c.args.at c.args.steps.now c.push.new.self given c.args.text.now a.rest.now a.inside.now c.in-Some.test e a.ensures (sym c.in-Some.is ∙ c.in_ok-test.ensures) c.in_ok-push.ensures.ok
