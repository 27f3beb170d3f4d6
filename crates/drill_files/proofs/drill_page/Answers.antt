use Rattle.std.proofs.Common.{◌≡◌, ◌∙◌, ap, arith}
use Rattle.command_meaning.specs.Generator.{drill_page}
use Rattle.drill_files.proofs.Sizes.{page_within}
use Rattle.drill_files.proofs.drill_page.Goals as goal

pub returns-clause-size : goal.returns-clause-size
returns-clause-size c =
    let all : c.loop-i.i ≡ c.args.number = omega arith in
    rw (c.loop-i.invariant ∙ ap drill_page all) (page_within c.args.number (omega arith))
