use Rattle.std.proofs.Common.{arith, ap, length}
use Rattle.list_reader.proofs.Lists.{few_lines}
use Rattle.cosmetic_top.proofs.drill.count_lines.Goals as goal

pub overflow_add-count : goal.overflow_add-count
overflow_add-count c = omega (arith, c.lines.invariant, ap length c.in-Some.ensures, few_lines c.args.source.now, c.requires)
