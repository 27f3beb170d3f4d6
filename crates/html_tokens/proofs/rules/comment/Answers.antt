use Rattle.std.proofs.Common.{ap, ◌∙◌, take, drop, ◌+◌}
use Rattle.std.proofs.lemmas.List.{drop-drop}
use Rattle.html_meaning.specs.Bytes.{up_to}
use Rattle.html_meaning.specs.Tokens.{ends_comment, Comment}
use Rattle.html_tokens.proofs.Cuts.{comment_text, comment_rest}
use Rattle.html_tokens.proofs.rules.comment.Goals as goal

pub returns : goal.returns
returns c =
    let source = c.args.source.now in
    let u = up_to ends_comment (drop 2 source) in
    record {
      piece = ap Comment
          (c.behind_two.ensures ∙ ap (drop 2) (c.cut_lead.ensures.front ∙ ap (λ bs. take (up_to ends_comment bs) bs) c.behind-inner.ensures)
          ∙ comment_text (drop 2 source) u ∙ ap (take _) (drop-drop 2 2 source));
      rest =
          c.behind_comment_end.ensures ∙ ap (drop 3) (c.cut_lead.ensures.back ∙ ap (λ bs. drop (up_to ends_comment bs) bs) c.behind-inner.ensures)
          ∙ drop-drop 3 u (drop 2 source) ∙ comment_rest source u;
    }
