use Rattle.std.proofs.Common.{sym, ◌∙◌}
use Rattle.page_tree.specs.Fragments.{with_fragment}
use Rattle.html_meaning.specs.Page.{fragment}
use Rattle.mutation_script.proofs.Inserting.{parent_missing}
use Rattle.mutation_script.proofs.page.PageState.insert.Goals as goal

pub returns-in_default-depth-clause-outcome : goal.returns-in_default-depth-clause-outcome
returns-in_default-depth-clause-outcome c =
    let page = c.args.self.now in
    let part = fragment c.args.html.now in
    (parent_missing page c.args.parent c.args.place part (with_fragment c.args.parent c.args.place part page.tree) c.refused-in_default-depth.result
    (sym c.in_default-depth.is ∙ c.depth.ensures) c.refused-in_default-depth.ensures).0

pub returns-in_default-depth-clause-page : goal.returns-in_default-depth-clause-page
returns-in_default-depth-clause-page c =
    let page = c.args.self.now in
    let part = fragment c.args.html.now in
    (parent_missing page c.args.parent c.args.place part (with_fragment c.args.parent c.args.place part page.tree) c.refused-in_default-depth.result
    (sym c.in_default-depth.is ∙ c.depth.ensures) c.refused-in_default-depth.ensures).1
