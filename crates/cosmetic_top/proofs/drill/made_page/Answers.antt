use Rattle.std.proofs.Common.{◌∙◌, List, ℕ, ap, subst}
use Rattle.cos_source.specs.Mark.{without_mark}
use Rattle.command_inputs.specs.Inputs.{tree_of_source}
use Rattle.command_inputs.specs.Reads.{IsDue}
use Rattle.cosmetic_top.proofs.Drilled.{page_unmarked}
use Rattle.cosmetic_top.proofs.drill.made_page.Goals as goal

pub returns-clause-due : goal.returns-clause-due
returns-clause-due c =
    subst (λ (bytes : List ℕ). IsDue c.tree_of_text.result (tree_of_source bytes))
    (ap without_mark (c.as_str.ensures.value ∙ c.in_ok-page.ensures.text) ∙ page_unmarked c.args.number) c.tree_of_text.ensures.due
