use Rattle.std.proofs.Common.{◌≡◌, ℕ, suc, ◌-◌, Bool, true, List, ap, sym, ◌∙◌, subst, drop, arith}
use Rattle.std.specs.List.{list_all}
use Rattle.std.specs.Str.{str_to_ascii_lowercase}
use Rattle.html_meaning.specs.Bytes.{is_among}
use Rattle.html_meaning.specs.Elements.{implied_ends}
use Rattle.html_meaning.specs.Page.{Opens}
use Rattle.html_tree.specs.Chain.{names_of, Leaves}
use Rattle.html_tree.proofs.Closing.{all_more}
use Rattle.html_tree.proofs.Names.{start_leaves_names, start_leaves_none_named}
use Rattle.html_tree.proofs.chain.left_by_start.Goals as goal

pub loop-left-preserved : goal.loop-left-preserved
loop-left-preserved c =
    let t : List ℕ → Bool = λ name. is_among name (implied_ends (str_to_ascii_lowercase c.args.tag.now)) in
    let names = names_of c.args.chain.now in
    let last : suc (c.loop-left.left - 1) ≡ c.loop-left.left = omega arith in
    let behind : list_all t (drop (suc (c.loop-left.left - 1)) names) ≡ true = ap (λ n. list_all t (drop n names)) last ∙ c.loop-left.invariant.closed in
    record { within = omega arith; closed = all_more t names (c.loop-left.left - 1) _ c.name_at.ensures (sym c.if-closes.ensures) behind }

pub returns-else-closes-clause-left : goal.returns-else-closes-clause-left
returns-else-closes-clause-left c holds =
    let name = str_to_ascii_lowercase c.args.tag.now in
    let t : List ℕ → Bool = λ n. is_among n (implied_ends name) in
    let names = names_of c.args.chain.now in
    let last : suc (c.loop-left.left - 1) ≡ c.loop-left.left = omega arith in
    let behind : list_all t (drop (suc (c.loop-left.left - 1)) names) ≡ true = ap (λ n. list_all t (drop n names)) last ∙ c.loop-left.invariant.closed in
    subst (Leaves (Opens name holds) names) last (start_leaves_names name holds names (c.loop-left.left - 1) _ c.name_at.ensures (sym c.if-closes.ensures) behind)

pub returns-after-loop-left-clause-left : goal.returns-after-loop-left-clause-left
returns-after-loop-left-clause-left c holds =
    let name = str_to_ascii_lowercase c.args.tag.now in
    let t : List ℕ → Bool = λ n. is_among n (implied_ends name) in
    let names = names_of c.args.chain.now in
    let none : c.loop-left.left ≡ 0 = omega arith in
    subst (Leaves (Opens name holds) names) (sym none) (start_leaves_none_named name holds names (ap (λ n. list_all t (drop n names)) (sym none) ∙ c.loop-left.invariant.closed))
