use Rattle.std.proofs.Common.{◌∙◌, Bool, true, false, List, ℕ, ap, ap₂}
use Rattle.std.specs.List.{list_any}
use Rattle.std.specs.Option.{option_copied}
use Rattle.list_entries.specs.declared.entry.Entry.{Entry}
use Rattle.hostname_buckets.specs.declared.store.SwitchedOff.{SwitchedOff}
use Rattle.hostname_buckets.specs.Active.{switches_off}
use Rattle.hostname_buckets.specs.Held.{passes_at}
use Rattle.hostname_buckets.proofs.Finding.{option_found}
use Rattle.hostname_buckets.proofs.store.Store.switched_off.Goals as goal

pub returns : goal.returns
returns c =
    let found = λ (generic : Bool).
    ap (λ (numbers : List ℕ). list_any (passes_at (switches_off c.args.page.now (option_copied c.args.rest) generic) c.self.inside.entries) numbers) c.as_slice-options.ensures
    ∙ option_found c.self.inside.tables c.self.inside.entries c.args.page.now (option_copied c.args.rest) generic c.self.invariant
    ∙ ap (λ (entries : List Entry). list_any (switches_off c.args.page.now (option_copied c.args.rest) generic) entries) c.self.view_is in
    let both : Bool → Bool → SwitchedOff = λ generic specific. record { generic = generic; specific = specific } in
    ap₂ both (c.has_option.ensures ∙ found true) (c.has_option-2.ensures ∙ found false)
