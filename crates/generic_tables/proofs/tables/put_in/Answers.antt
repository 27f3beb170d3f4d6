use Rattle.std.proofs.Common.{◌∙◌, ◌==◌, ◌&&◌, ◌||◌, ap}
use Rattle.std.specs.List.{list_any}
use Rattle.generic_tables.specs.Carried.{same_key}
use Rattle.generic_tables.specs.Filed.{holds}
use Rattle.generic_tables.proofs.Carrying.{carried}
use Rattle.generic_tables.proofs.tables.put_in.Goals as goal

pub all-init : goal.all-init
all-init c = record {
  all = λ k x. ap (λ b. holds c.args.filed.now k x || ((x == c.args.n) && b)) (ap (list_any (same_key k)) c.keys_at-keys.ensures ∙ carried c.args.dom.now c.args.n k);
  kept = λ k x h. h;
}
