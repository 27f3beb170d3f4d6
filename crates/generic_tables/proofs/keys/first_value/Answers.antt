use Rattle.std.proofs.Common.{sym, ap, ◌∙◌}
use Rattle.std.specs.Option.{option_copied}
use Rattle.generic_tables.specs.Keys.{value_of, value_in}
use Rattle.generic_tables.proofs.KeyLaws.{behind_test, behind_other}
use Rattle.generic_tables.proofs.keys.first_value.Goals as goal
use Rattle.generic_tables.proofs.keys.first_value.Goals.{in-Some, in-None}

pub loop-step-preserved : goal.loop-step-preserved
loop-step-preserved c =
    elim c.match-test_in.branch [
      | in-Some w ↦
          ap option_copied w.found-is ∙ w.value_behind-found.ensures ∙ ap (λ o. value_in o (value_of c.args.kind w.in-Some.test.now)) c.loop-step.invariant
          ∙ sym (behind_test (value_of c.args.kind) c.args.steps.now c.loop-step.step-index c.step-item.result w.in-Some.test.now c.loop-step-test.true c.step-item.is (sym w.in-Some.ensures))
      | in-None w ↦
          ap option_copied w.found-is ∙ sym (behind_other (value_of c.args.kind) c.args.steps.now c.loop-step.step-index c.step-item.result c.loop-step-test.true c.step-item.is (sym w.in-None.ensures))
    ]
