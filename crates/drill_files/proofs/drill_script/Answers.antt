use Rattle.std.proofs.Common.{◌≡◌, ◌∙◌, ap, arith}
use Rattle.command_meaning.specs.Generator.{drill_script}
use Rattle.drill_files.proofs.Sizes.{script_within}
use Rattle.drill_files.proofs.drill_script.Goals as goal

pub returns-clause-size : goal.returns-clause-size
returns-clause-size c =
    let all : c.loop-i.i ≡ c.args.number = omega arith in
    rw (c.loop-i.invariant ∙ ap drill_script all) (script_within c.args.number (omega arith))
