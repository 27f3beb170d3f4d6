use Rattle.std.proofs.Common.{ap, ◌∙◌, take, drop}
use Rattle.html_meaning.specs.Bytes.{up_to}
use Rattle.html_meaning.specs.Tokens.{is_angle, Comment}
use Rattle.html_tokens.proofs.Cuts.{bogus_rest}
use Rattle.html_tokens.proofs.rules.bogus_comment.Goals as goal

pub returns : goal.returns
returns c = record {
  piece = ap Comment (c.cut_lead.ensures.front ∙ ap (λ bs. take (up_to is_angle bs) bs) c.behind-inner.ensures);
  rest =
      c.behind_angle.ensures ∙ ap (drop 1) (c.cut_lead.ensures.back ∙ ap (λ bs. drop (up_to is_angle bs) bs) c.behind-inner.ensures)
      ∙ bogus_rest c.args.source.now c.requires;
}
