use Rattle.command_inputs.proofs.Pages.{text_few}
use Rattle.command_inputs.proofs.page.tree_of_text.Goals as goal

pub returns-in-Ok-clause-numbers : goal.returns-in-Ok-clause-numbers
returns-in-Ok-clause-numbers c = text_few c.args.text.now c.text_without_mark.result.now c.in-Ok.tree c.text_without_mark.ensures c.in-Ok.ensures.tree
