use Rattle.std.proofs.Common.{refl, ap, ◌∙◌, drop}
use Rattle.html_meaning.specs.Bytes.{up_to}
use Rattle.html_meaning.specs.Tokens.{is_angle}
use Rattle.html_tokens.proofs.Cuts.{angle_rest}
use Rattle.html_tokens.proofs.rules.doctype.Goals as goal

pub returns : goal.returns
returns c = record {
  piece = refl;
  rest = c.behind_angle.ensures ∙ ap (drop 1) c.cut_lead.ensures.back ∙ angle_rest c.args.source.now (up_to is_angle c.args.source.now);
}
