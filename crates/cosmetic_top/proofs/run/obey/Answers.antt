use Rattle.std.proofs.Common.{◌+◌, ◌≤◌, arith, subst, sym}
use Rattle.command_words.specs.declared.command.Command.{Command}
use Rattle.remove_rounds.specs.Costs.{questions, single_tests}
use Rattle.cosmetic_top.specs.Costs.{command_cost}
use Rattle.cosmetic_top.proofs.run.obey.Goals as goal

pub returns-in-Apply-clause-checks : goal.returns-in-Apply-clause-checks
returns-in-Apply-clause-checks g c told =
    let maker = c.apply.new.maker in
    subst (λ (command : Command). c.apply.new.checks ≤ c.args.checks.now + command_cost questions command (g.S.Shelf.files c.args.shelf.now) (g.M.Maker.large maker) (g.M.Maker.unread maker))
    (sym c.in-Apply.is) (c.apply.ensures.checks told)

pub returns-in-Drill-clause-checks : goal.returns-in-Drill-clause-checks
returns-in-Drill-clause-checks g c told =
    let maker = c.drill.new.maker in
    subst (λ (command : Command). c.drill.new.checks ≤ c.args.checks.now + command_cost questions command (g.S.Shelf.files c.args.shelf.now) (g.M.Maker.large maker) (g.M.Maker.unread maker))
    (sym c.in-Drill.is) c.drill.ensures.checks

pub returns-in-Lists-clause-checks : goal.returns-in-Lists-clause-checks
returns-in-Lists-clause-checks g c told = omega arith

pub returns-in-Apply-clause-parts : goal.returns-in-Apply-clause-parts
returns-in-Apply-clause-parts g c told =
    let maker = c.apply.new.maker in
    subst (λ (command : Command). c.apply.new.parts ≤ c.args.parts.now + command_cost single_tests command (g.S.Shelf.files c.args.shelf.now) (g.M.Maker.large maker) (g.M.Maker.unread maker))
    (sym c.in-Apply.is) (c.apply.ensures.parts told)

pub returns-in-Drill-clause-parts : goal.returns-in-Drill-clause-parts
returns-in-Drill-clause-parts g c told =
    let maker = c.drill.new.maker in
    subst (λ (command : Command). c.drill.new.parts ≤ c.args.parts.now + command_cost single_tests command (g.S.Shelf.files c.args.shelf.now) (g.M.Maker.large maker) (g.M.Maker.unread maker))
    (sym c.in-Drill.is) c.drill.ensures.parts

pub returns-in-Lists-clause-parts : goal.returns-in-Lists-clause-parts
returns-in-Lists-clause-parts g c told = omega arith
