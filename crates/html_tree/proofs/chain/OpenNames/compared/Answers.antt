use Rattle.std.proofs.Common.{◌≡◌, false, drop, sym, ◌∙◌, subst}
use Rattle.std.specs.List.{list_any}
use Rattle.std.specs.Str.{bytes_eq, str_to_ascii_lowercase}
use Rattle.html_tree.specs.Chain.{names_of}
use Rattle.html_tree.specs.declared.chain.TheConstants.{OUTER}
use Rattle.html_tree.specs.declared.spelled.SpelledName.{SpelledName}
use Rattle.html_tree.proofs.Counts.{times-none}
use Rattle.html_tree.proofs.chain.OpenNames.compared.Goals as goal

pub returns-then-count_of-eq0-clause-none : goal.returns-then-count_of-eq0-clause-none
returns-then-count_of-eq0-clause-none c =
    let name = str_to_ascii_lowercase c.args.tag.now in
    let key : SpelledName = record { spelled = c.args.tag } in
    subst (λ ns. list_any (λ n. bytes_eq n name) (drop OUTER ns) ≡ false) c.self.view_is
    (times-none name (drop OUTER (names_of c.self.inside.names.items)) (sym (c.self.invariant key) ∙ sym c.count_of.ensures ∙ c.if-count_of-eq0.true))
