use Rattle.std.proofs.Common.{◌∙◌, ◌+◌, ◌≤◌, List, ℕ, ap, length, arith, subst}
use Rattle.cos_source.specs.Lines.{lines_of, numbered}
use Rattle.remove_rounds.specs.Costs.{questions, single_tests}
use Rattle.page_steps.specs.Costs.{script_cost}
use Rattle.cosmetic_top.proofs.Drilled.{end_is}
use Rattle.cosmetic_top.proofs.drill.followed.Goals as goal

pub follow_script-requires-clause-script : goal.follow_script-requires-clause-script
follow_script-requires-clause-script g c = omega (arith, ap length c.as_bytes-script.ensures.value, c.in_ok-text.ensures.size)

pub follow_script-requires-clause-numbers : goal.follow_script-requires-clause-numbers
follow_script-requires-clause-numbers g c = omega (arith, ap length c.as_bytes-script.ensures.value, c.in_ok-text.ensures.size, c.requires.numbers)

pub count_lines-steps-requires : goal.count_lines-steps-requires
count_lines-steps-requires g c = omega (arith, ap length c.as_bytes-script.ensures.value, c.in_ok-text.ensures.size)

pub returns-clause-end : goal.returns-clause-end
returns-clause-end g c =
    end_is c.args.number c.args.engine c.as_bytes-script.result.now (record { state = c.in_ok-behind.behind; taken = c.in_ok-behind.taken })
    (c.as_bytes-script.ensures.value ∙ c.in_ok-text.ensures.text) c.in_ok-behind.ensures.done

pub returns-clause-steps : goal.returns-clause-steps
returns-clause-steps g c =
    c.count_lines-steps.ensures ∙ ap (λ (text : List ℕ). length (numbered 1 (lines_of text))) (c.as_bytes-script.ensures.value ∙ c.in_ok-text.ensures.text)

pub returns-in_err-behind-clause-checks : goal.returns-in_err-behind-clause-checks
returns-in_err-behind-clause-checks g c =
    subst (λ (script : List ℕ). c.follow_script.new.checks ≤ c.args.checks.now + script_cost questions c.args.engine script)
    (c.as_bytes-script.ensures.value ∙ c.in_ok-text.ensures.text) c.in_err-behind.ensures.checks

pub returns-clause-checks : goal.returns-clause-checks
returns-clause-checks g c =
    subst (λ (script : List ℕ). c.follow_script.new.checks ≤ c.args.checks.now + script_cost questions c.args.engine script)
    (c.as_bytes-script.ensures.value ∙ c.in_ok-text.ensures.text) c.in_ok-behind.ensures.checks

pub returns-in_err-behind-clause-parts : goal.returns-in_err-behind-clause-parts
returns-in_err-behind-clause-parts g c =
    subst (λ (script : List ℕ). c.follow_script.new.parts ≤ c.args.parts.now + script_cost single_tests c.args.engine script)
    (c.as_bytes-script.ensures.value ∙ c.in_ok-text.ensures.text) c.in_err-behind.ensures.parts

pub returns-clause-parts : goal.returns-clause-parts
returns-clause-parts g c =
    subst (λ (script : List ℕ). c.follow_script.new.parts ≤ c.args.parts.now + script_cost single_tests c.args.engine script)
    (c.as_bytes-script.ensures.value ∙ c.in_ok-text.ensures.text) c.in_ok-behind.ensures.parts
