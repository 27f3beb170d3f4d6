use Rattle.std.proofs.Common.{◌∙◌, List, ℕ, ap}
use Rattle.std.specs.List.{list_any}
use Rattle.std.specs.Option.{option_copied}
use Rattle.list_entries.specs.declared.entry.Entry.{Entry}
use Rattle.hostname_buckets.specs.Active.{excepts}
use Rattle.hostname_buckets.specs.Held.{passes_at}
use Rattle.hostname_buckets.proofs.Finding.{exception_found}
use Rattle.hostname_buckets.proofs.store.Store.is_excepted.Goals as goal

pub returns : goal.returns
returns c =
    let test = excepts c.args.host.now (option_copied c.args.rest) c.args.canonical.now in
    c.has_exception.ensures
    ∙ ap (λ (numbers : List ℕ). list_any (passes_at test c.self.inside.entries) numbers) c.at-numbers.ensures
    ∙ exception_found c.self.inside.tables c.self.inside.entries c.args.host.now (option_copied c.args.rest) c.args.canonical.now c.self.invariant
    ∙ ap (λ (entries : List Entry). list_any test entries) c.self.view_is
