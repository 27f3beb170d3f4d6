use Rattle.std.proofs.Common.{◌∙◌, List, ℕ, ap, sym}
use Rattle.std.proofs.lemmas.Result.{on_ok_weaker}
use Rattle.hostname_buckets.specs.declared.tables.Tables.{Tables}
use Rattle.hostname_buckets.specs.Held.{has, numbers_at, stands}
use Rattle.hostname_buckets.proofs.Entering.{put_has}
use Rattle.hostname_buckets.proofs.tables.Tables.enter.Goals as goal

pub returns-in-Exception-clause-stands : goal.returns-in-Exception-clause-stands
returns-in-Exception-clause-stands c =
    let tables : Tables = record c.args.self.now { exceptions = c.put.new.self } in
    on_ok_weaker c.put.result
    (λ put. ap (stands tables c.args.number) c.in-Exception.is
    ∙ ap (λ (name : List ℕ). has (numbers_at c.put.new.self name) c.args.number) (sym c.as_str.ensures)
    ∙ put_has (numbers_at c.args.self.now.exceptions) (numbers_at c.put.new.self) c.as_str.result.now c.args.number put)
    c.put.ensures
