use Rattle.std.proofs.Common.{◌≡◌, ℕ, Result, Err, MatchOption, IsOkUnless, sym, subst, rules}
use Rattle.page_tree.specs.Forest.{Tree}
use Rattle.page_tree.specs.Refusals.{graft_refused}
use Rattle.dom_arena.specs.declared.refusals.DomError.{DomError}
use Rattle.dom_arena.specs.declared.refusals.DomError.TheVariants.{NoMemory}
use Rattle.dom_arena.specs.Contents.{new_nodes}
use Rattle.dom_arena.specs.Linked.{tree_of}
use Rattle.dom_arena.specs.Refusals.{error_of}
use Rattle.dom_arena.proofs.dom.Dom.graft.Goals as goal

pub returns-in_err-first-clause-answer : goal.returns-in_err-first-clause-answer
returns-in_err-first-clause-answer c =
    let part = new_nodes c.args.part in
    let at : Tree → Type 0 = λ t. MatchOption (graft_refused c.args.parent c.args.place part t) (IsOkUnless c.from_residual.result NoMemory) (λ refusal. c.from_residual.result ≡ Err (error_of refusal)) in
    let by : Result ℕ DomError → Type 0 =
    λ x. MatchOption (graft_refused c.args.parent c.args.place part (tree_of c.self.inside.table.0)) (IsOkUnless x NoMemory) (λ refusal. x ≡ Err (error_of refusal)) in
    let same : c.from_residual.result ≡ Err c.in_err-first.field-0.0 = search (rules, c.from_residual.ensures) in
    subst at c.self.view_is (subst by (sym same) c.in_err-first.ensures.answer)
