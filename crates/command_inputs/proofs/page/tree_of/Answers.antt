use Rattle.std.proofs.Common.{◌≡◌, ◌+◌, ◌≤◌, length, Err, List, ℕ, ap, sym, subst, ◌∙◌}
use Rattle.std.specs.Prelude.{IfOk}
use Rattle.cos_source.specs.Mark.{without_mark}
use Rattle.command_inputs.specs.declared.status.Status.TheVariants.{Refused}
use Rattle.command_inputs.specs.declared.status.InputRefusal.TheVariants.{PageNotUtf8}
use Rattle.command_inputs.specs.Reads.{IsDue}
use Rattle.command_inputs.specs.Inputs.{tree_of_source, tree_of_bytes}
use Rattle.command_inputs.proofs.Pages.{of_text, of_no_text}
use Rattle.command_inputs.proofs.page.tree_of.Goals as goal

pub returns-in-Ok-clause-due : goal.returns-in-Ok-clause-due
returns-in-Ok-clause-due c =
    subst (λ due. IsDue c.tree_of_text.result due) (ap (λ (text : List ℕ). tree_of_source (without_mark text)) c.in-Ok.ensures.cases.0 ∙ sym (of_text c.args.bytes.now c.in-Ok.ensures.cases.1))
    c.tree_of_text.ensures.due

pub returns-in-Err-clause-due : goal.returns-in-Err-clause-due
returns-in-Err-clause-due c = λ _.
    subst (λ (at : ℕ). tree_of_bytes c.args.bytes.now ≡ Err (Refused (PageNotUtf8 at))) (sym c.valid_up_to.ensures) (of_no_text c.args.bytes.now _ c.in-Err.ensures.cases.1)

pub returns-in-Ok-clause-numbers : goal.returns-in-Ok-clause-numbers
returns-in-Ok-clause-numbers c =
    subst (λ (v : List ℕ). IfOk c.tree_of_text.result (λ tree. tree.next ≤ length v + 1)) c.in-Ok.ensures.cases.0 c.tree_of_text.ensures.numbers
