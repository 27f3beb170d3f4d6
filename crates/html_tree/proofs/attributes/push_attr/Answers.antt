use Rattle.std.proofs.Common.{◌≡◌, ℕ, List, [], ◌∷◌, ◌++◌, false, sym, ap, ◌∙◌}
use Rattle.std.specs.Str.{str_to_ascii_lowercase}
use Rattle.html_meaning.specs.Bytes.{is_among}
use Rattle.html_meaning.specs.Page.{firsts}
use Rattle.html_tree.specs.LaterNames.{names_in, as_read}
use Rattle.html_tree.proofs.FirstNames.{firsts_new, not_true}
use Rattle.html_tree.proofs.attributes.push_attr.Goals as goal

pub returns-clause-attrs : goal.returns-clause-attrs
returns-clause-attrs c = λ rest. (
    let old = c.args.attrs.now in
    let name : List ℕ = str_to_ascii_lowercase c.args.name.now in
    let attr : List ℕ × List ℕ = as_read (c.args.name.now, c.args.value.now) in
    let new : is_among name (names_in old) ≡ false =
    ap (λ n. is_among n (names_in old)) (sym (c.as_str.ensures ∙ c.in_ok-lower.ensures)) ∙ not_true _ (sym c.if-not-branch.false ∙ c.in_ok-is_new.ensures.new) in
    let pushed : c.push.new.self ≡ old ++ attr ∷ [] =
    c.in_ok-push.ensures.ok ∙ ap (λ n. old ++ (n, c.in_ok-value.value) ∷ []) c.in_ok-lower.ensures ∙ ap (λ v. old ++ (name, v) ∷ []) c.in_ok-value.ensures in
    firsts_new old attr rest new ∙ ap (λ m. m ++ firsts (names_in m) rest) (sym pushed))
