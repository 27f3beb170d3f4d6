use Rattle.std.proofs.Common.{ap, sym, ◌∙◌, drop, subst}
use Rattle.html_meaning.specs.Tokens as meant
use Rattle.html_tokens.specs.Views.{IsTag, is_whole}
use Rattle.html_tokens.proofs.Cuts.{tag_whole, tag_cut, tag_cut_rest}
use Rattle.html_tokens.proofs.rules.start_tag.Goals as goal

pub returns-in-Some : goal.returns-in-Some
returns-in-Some c =
    let source = c.args.source.now in
    let whole = tag_whole meant.Start 1 source c.in-Some.field-0 (subst (IsTag c.in-Some.field-0) c.behind.ensures c.in-Some.ensures) in
    record { piece = ap (meant.Start c.in-Some.field-0.name.now c.in-Some.field-0.attrs.now) (c.is_self_closing-self_closing.ensures ∙ ap (meant.is_self_closing 0) c.as_bytes.ensures.value) ∙ sym whole.0; rest = whole.1 }

pub returns-in-None : goal.returns-in-None
returns-in-None c =
    let source = c.args.source.now in
    let cut = tag_cut meant.Start 1 source (ap is_whole (sym c.behind.ensures) ∙ c.in-None.ensures) in
    record { piece = sym (ap (λ f. f.piece) cut); rest = sym (ap (λ f. drop f.size source) cut ∙ tag_cut_rest source) }
