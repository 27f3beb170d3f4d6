use Rattle.std.proofs.Common.{◌≡◌, sym, subst}
use Rattle.std.specs.Prelude.{IfOk}
use Rattle.std.specs.Str.{str_to_ascii_lowercase}
use Rattle.page_tree.specs.Edits.{with_attr_set, with_attr_dropped, with_text, moved}
use Rattle.page_tree.specs.Refusals.{attr_refused, text_refused, relink_refused}
use Rattle.mutation_script.specs.declared.mutation.Mutation.{Mutation}
use Rattle.mutation_script.specs.Changes.{change, outcome_of}
use Rattle.mutation_script.proofs.Told.{told_outcome, none_needed}
use Rattle.mutation_script.proofs.page.PageState.apply.Goals as goal

pub returns-in-SetAttr-clause-outcome : goal.returns-in-SetAttr-clause-outcome
returns-in-SetAttr-clause-outcome c =
    let page = c.args.self.now in
    let m = c.in-SetAttr in
    subst (λ (mutation : Mutation). IfOk c.told.result (λ outcome. outcome ≡ outcome_of (change mutation page))) (sym m.is)
    (told_outcome page (with_attr_set m.n (str_to_ascii_lowercase m.name) m.value page.tree) page.tree (attr_refused m.n page.tree) c.set_attr.result c.told.result c.set_attr.ensures.answer c.told.ensures)

pub returns-in-DropAttr-clause-outcome : goal.returns-in-DropAttr-clause-outcome
returns-in-DropAttr-clause-outcome c =
    let page = c.args.self.now in
    let m = c.in-DropAttr in
    let refusal = attr_refused m.n page.tree in
    subst (λ (mutation : Mutation). IfOk c.told-in-DropAttr.result (λ outcome. outcome ≡ outcome_of (change mutation page))) (sym m.is)
    (told_outcome page (with_attr_dropped m.n (str_to_ascii_lowercase m.name) page.tree) page.tree refusal c.drop_attr.result c.told-in-DropAttr.result
    (none_needed refusal c.drop_attr.result c.drop_attr.ensures.answer) c.told-in-DropAttr.ensures)

pub returns-in-SetText-clause-outcome : goal.returns-in-SetText-clause-outcome
returns-in-SetText-clause-outcome c =
    let page = c.args.self.now in
    let m = c.in-SetText in
    subst (λ (mutation : Mutation). IfOk c.told-in-SetText.result (λ outcome. outcome ≡ outcome_of (change mutation page))) (sym m.is)
    (told_outcome page (with_text m.n m.text page.tree) page.tree (text_refused m.n page.tree) c.set_text.result c.told-in-SetText.result c.set_text.ensures.answer c.told-in-SetText.ensures)

pub returns-in-Relink-clause-outcome : goal.returns-in-Relink-clause-outcome
returns-in-Relink-clause-outcome c =
    let page = c.args.self.now in
    let m = c.in-Relink in
    let refusal = relink_refused m.n m.parent m.place page.tree in
    subst (λ (mutation : Mutation). IfOk c.told-in-Relink.result (λ outcome. outcome ≡ outcome_of (change mutation page))) (sym m.is)
    (told_outcome page (moved m.n m.parent m.place page.tree) page.tree refusal c.relink.result c.told-in-Relink.result
    (none_needed refusal c.relink.result c.relink.ensures.answer) c.told-in-Relink.ensures)
