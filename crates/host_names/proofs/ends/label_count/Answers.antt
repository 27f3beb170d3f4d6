use Rattle.std.proofs.Common.{◌==◌, arith}
use Rattle.std.proofs.lemmas.Grind.{common_steps}
use Rattle.std.proofs.lemmas.List.Splits.{length-slice_split}
use Rattle.host_names.proofs.ends.label_count.Goals as goal

pub returns : goal.returns
returns c = grind (arith, common_steps, length-slice_split (λ b. b == 46) c.args.name.now)
