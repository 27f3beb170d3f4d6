use Rattle.std.proofs.Common.{◌∙◌, ◌∷◌, List, ℕ, string_bytes, ap, ap₂, sym}
use Rattle.std.specs.Map.{lookup}
use Rattle.std.specs.Str.{bytes_eq}
use Rattle.std.specs.String.{string_eq}
use Rattle.indexmap.specs.IndexMap.{insert_entry}
use Rattle.host_names.specs.declared.suffixes.RuleKinds.{RuleKinds}
use Rattle.host_names.specs.Held.{kinds_or_none, rule_by, rules_in, with_kind}
use Rattle.host_names.specs.Suffixes.{Rule, longest}
use Rattle.host_names.proofs.Holding.{longest_put}
use Rattle.host_names.proofs.suffixes.Suffixes.put.Goals as goal

pub returns : goal.returns
returns c = λ exceptions labels.
    let es = c.self.inside.by_name.entries in
    let key = c.into_string.result in
    let kinds = c.with-kinds.ensures ∙ ap (with_kind c.args.sort) (c.kinds_at.ensures
    ∙ ap (λ (n : List ℕ). kinds_or_none (lookup (λ k. bytes_eq n (string_bytes k)) es)) (c.as_str.ensures ∙ sym c.into_string.ensures)) in
    ap (λ entries. longest exceptions (rules_in entries) labels) (c.in_ok-insert.ensures.entries ∙ ap (λ (v : RuleKinds). insert_entry string_eq es key v) kinds)
    ∙ longest_put c.args.sort key es exceptions labels
    ∙ ap₂ (λ (n : List ℕ) (rules : List Rule). longest exceptions (rule_by c.args.sort n ∷ rules) labels) c.into_string.ensures c.self.view_is
