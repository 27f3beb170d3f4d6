use Rattle.std.proofs.Common.{◌∙◌, List, ℕ, ap, sym}
use Rattle.std.proofs.lemmas.Result.{on_ok_weaker}
use Rattle.filter_scope.specs.declared.scope.Target.TheVariants.{Host, Entity}
use Rattle.hostname_buckets.specs.declared.tables.Tables.{Tables}
use Rattle.hostname_buckets.specs.Held.{has, numbers_at}
use Rattle.hostname_buckets.proofs.Entering.{put_has, target_item}
use Rattle.hostname_buckets.proofs.tables.Tables.enter_item.Goals as goal

pub returns-in-Host-clause-stands : goal.returns-in-Host-clause-stands
returns-in-Host-clause-stands c =
    let tables : Tables = record c.args.self.now { hosts = c.put.new.self } in
    on_ok_weaker c.put.result
    (λ put. target_item tables c.args.number c.args.item.now (Host c.in-Host.name) c.in-Host.is
    (ap (λ (name : List ℕ). has (numbers_at c.put.new.self name) c.args.number) (sym c.as_str.ensures)
    ∙ put_has (numbers_at c.args.self.now.hosts) (numbers_at c.put.new.self) c.as_str.result.now c.args.number put))
    c.put.ensures

pub returns-in-Entity-clause-stands : goal.returns-in-Entity-clause-stands
returns-in-Entity-clause-stands c =
    let tables : Tables = record c.args.self.now { entities = c.put-in-Entity.new.self } in
    on_ok_weaker c.put-in-Entity.result
    (λ put. target_item tables c.args.number c.args.item.now (Entity c.in-Entity.name) c.in-Entity.is
    (ap (λ (name : List ℕ). has (numbers_at c.put-in-Entity.new.self name) c.args.number) (sym c.as_str-in-Entity.ensures)
    ∙ put_has (numbers_at c.args.self.now.entities) (numbers_at c.put-in-Entity.new.self) c.as_str-in-Entity.result.now c.args.number put))
    c.put-in-Entity.ensures
