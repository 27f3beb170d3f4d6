use Rattle.std.proofs.Common.{sym, subst}
use Rattle.html_meaning.specs.Page.{role_of}
use Rattle.html_tokens.specs.Seen.{token_of}
use Rattle.html_tokens.specs.declared.tokens.Token.{Token}
use Rattle.html_tree.specs.Chain.{Leaves}
use Rattle.html_tree.proofs.Names.{leaf_leaves_all, nothing_leaves_all}
use Rattle.html_tree.proofs.reader.left_by.Goals as goal

pub returns-in-Chars-clause-left : goal.returns-in-Chars-clause-left
returns-in-Chars-clause-left c =
    let names = c.args.chain.now in
    subst (λ (t : Token). Leaves (role_of (token_of t).piece) names c.len.result) (sym c.in-Chars.is) (leaf_leaves_all names c.len.result c.len.ensures)

pub returns-in-Comment-clause-left : goal.returns-in-Comment-clause-left
returns-in-Comment-clause-left c =
    let names = c.args.chain.now in
    subst (λ (t : Token). Leaves (role_of (token_of t).piece) names c.len-in-Comment.result) (sym c.in-Comment.is) (leaf_leaves_all names c.len-in-Comment.result c.len-in-Comment.ensures)

pub returns-in-Doctype-clause-left : goal.returns-in-Doctype-clause-left
returns-in-Doctype-clause-left c =
    let names = c.args.chain.now in
    subst (λ (t : Token). Leaves (role_of (token_of t).piece) names c.len-in-Doctype.result) (sym c.in-Doctype.is) (nothing_leaves_all names c.len-in-Doctype.result c.len-in-Doctype.ensures)

pub returns-in-Cut-clause-left : goal.returns-in-Cut-clause-left
returns-in-Cut-clause-left c =
    let names = c.args.chain.now in
    subst (λ (t : Token). Leaves (role_of (token_of t).piece) names c.len-in-Cut.result) (sym c.in-Cut.is) (nothing_leaves_all names c.len-in-Cut.result c.len-in-Cut.ensures)
