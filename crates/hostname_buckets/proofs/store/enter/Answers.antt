use Rattle.std.proofs.Common.{◌≡◌, List, subst, sym, length, rules}
use Rattle.std.proofs.lemmas.Result.{on_ok_weaker}
use Rattle.list_entries.specs.declared.entry.Entry.{Entry}
use Rattle.hostname_buckets.specs.Held.{AreEntered}
use Rattle.hostname_buckets.proofs.Entering.{one_entered}
use Rattle.hostname_buckets.proofs.store.enter.Goals as goal

pub returns-clause-entered : goal.returns-clause-entered
returns-clause-entered c =
    let number : c.in-Ok.number ≡ length c.args.entries.now = search rules in
    on_ok_weaker c.push.result
    (λ pushed. subst (λ (l : List Entry). AreEntered c.enter.new.self l) (sym pushed)
    (one_entered c.args.tables.now c.enter.new.self c.args.entries.now c.args.entry c.in-Ok.number number c.in_ok-enter.ensures.grows c.in_ok-enter.ensures.stands c.requires))
    c.push.ensures.ok
