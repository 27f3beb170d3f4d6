use Rattle.std.proofs.Common.{◌∙◌, ap}
use Rattle.cosmetic_top.specs.Reports.{counts_of}
use Rattle.cosmetic_top.proofs.drill.counted.Goals as goal

pub returns-clause-counts : goal.returns-clause-counts
returns-clause-counts g c = c.told.ensures ∙ ap (counts_of c.args.number) c.in_ok-behind.ensures.end

pub returns-in_err-behind-clause-checks : goal.returns-in_err-behind-clause-checks
returns-in_err-behind-clause-checks g c = c.in_err-behind.ensures.checks

pub returns-clause-checks : goal.returns-clause-checks
returns-clause-checks g c = c.in_ok-behind.ensures.checks

pub returns-in_err-behind-clause-parts : goal.returns-in_err-behind-clause-parts
returns-in_err-behind-clause-parts g c = c.in_err-behind.ensures.parts

pub returns-clause-parts : goal.returns-clause-parts
returns-clause-parts g c = c.in_ok-behind.ensures.parts
