use Rattle.std.proofs.Common.{◌≡◌, ◌≤◌, ◌+◌, ℕ, List, [], ◌∷◌, ◌++◌, Option, Some, None, length, take, refl, arith, ap, sym, ◌∙◌, subst, option_map, MatchOption, IsOkUnless}
use Rattle.std.proofs.lemmas.List.{length-map}
use Rattle.page_tree.specs.Forest.{Content, empty}
use Rattle.page_tree.specs.Fragments.{IsFragment, Limit, limit_passed, with_fragment}
use Rattle.dom_arena.specs.Contents.{new_content, new_nodes}
use Rattle.html_meaning.specs.Tokens.{Token}
use Rattle.html_meaning.specs.Page.{role_of, opened, content_of, fragment}
use Rattle.html_tokens.specs.Seen.{token_of}
use Rattle.html_tree.specs.Chain.{element_names, Leaves}
use Rattle.html_tree.specs.Limits.{page_error, next_limit, FailsWith}
use Rattle.html_tree.specs.declared.reader.PageError.TheVariants.{NoMemory}
use Rattle.dom_arena.specs.declared.kinds.NewNode.{NewNode}
use Rattle.html_tree.proofs.Kept.{Kept, kept_start, kept_node, kept_next, kept_none, kept_all}
use Rattle.html_tree.proofs.PassedLimits.{push_done, push_failed, pushed_within, pushed_passes, fails, failed_so, error_given}
use Rattle.html_meaning.proofs.Counts.{fragment_few}
use Rattle.html_tree.proofs.Depths.{fragment_is}
use Rattle.html_tree.proofs.Law.{page_is_fragment}
use Rattle.html_tree.proofs.reader.read_fragment.Goals as goal

pub loop-token-init : goal.loop-token-init
loop-token-init c = rw (c.new-chain.ensures, c.new-part.ensures, c.new-tokens.ensures.tokens) (record { kept = kept_start c.args.source.now; within = refl })

pub returns-in_err-push_node-clause-answer : goal.returns-in_err-push_node-clause-answer
returns-in_err-push_node-clause-answer c =
    let t : Token = token_of c.in-Some.token in
    let left = c.left_by-left.result in
    let names = c.loop-token.chain in
    let out = new_nodes c.loop-token.part in
    let all = fragment c.args.source.now in
    let made : Content = new_content c.in-Some-2.node in
    let error = c.in_err-push_node.field-0.0 in
    let kept : Kept names (t ∷ c.next.new.self) out all = subst (λ ts. Kept names ts out all) c.in-Some.ensures c.loop-token.invariant.kept in
    let leaves : Leaves (role_of t.piece) names left = c.left_by-left.ensures.left in
    let within : left ≤ length names = c.left_by-left.ensures.within in
    let content : content_of t.piece ≡ Some made = sym c.in_ok-node.ensures ∙ ap (option_map new_content) c.in-Some-2.is in
    let next = kept_next names t c.next.new.self out all left made kept leaves within content in
    let long : length out ≡ length c.loop-token.part = length-map c.loop-token.part _ in
    let o : Option Limit = next_limit c.args.parent_depth (c.args.live + length c.loop-token.part) left in
    let passes : (l : Limit) → o ≡ Some l → limit_passed c.args.parent_depth c.args.live all ≡ Some l =
    λ l e. pushed_passes c.args.parent_depth c.args.live left made out next.0 all l c.loop-token.invariant.within (ap (λ n. next_limit c.args.parent_depth (c.args.live + n) left) long ∙ e) next.1 in
    let failed = failed_so (limit_passed c.args.parent_depth c.args.live all) o error passes (push_failed o c.push_node.result error c.push_node.ensures.answer c.in_err-push_node.was) in
    let result = error_given (List (ℕ × NewNode)) c.from_residual-in_err-push_node.result error c.from_residual-in_err-push_node.ensures.1 in
    subst (λ r. MatchOption (limit_passed c.args.parent_depth c.args.live all) (IsOkUnless r NoMemory) (λ l. FailsWith r (page_error l))) (sym result) (fails (List (ℕ × NewNode)) (limit_passed c.args.parent_depth c.args.live all) error failed)

pub loop-token-preserved-in-Continue-branch-4 : goal.loop-token-preserved-in-Continue-branch-4
loop-token-preserved-in-Continue-branch-4 c =
    let t : Token = token_of c.in-Some.token in
    let left = c.left_by-left.result in
    let names = c.loop-token.chain in
    let out = new_nodes c.loop-token.part in
    let all = fragment c.args.source.now in
    let made : Content = new_content c.in-Some-2.node in
    let kept : Kept names (t ∷ c.next.new.self) out all = subst (λ ts. Kept names ts out all) c.in-Some.ensures c.loop-token.invariant.kept in
    let leaves : Leaves (role_of t.piece) names left = c.left_by-left.ensures.left in
    let within : left ≤ length names = c.left_by-left.ensures.within in
    let content : content_of t.piece ≡ Some made = sym c.in_ok-node.ensures ∙ ap (option_map new_content) c.in-Some-2.is in
    let cut : c.truncate.new.self ≡ take left names = c.truncate.ensures in
    let after : (n : ℕ) → c.open_element.new.chain ≡ take left names ++ element_names (opened n (role_of t.piece)) =
    λ n. c.in_ok-open_element.ensures n ∙ ap (λ x. x ++ element_names (opened n (role_of t.piece))) cut in
    let pushed : new_nodes c.push_node.new.part ≡ out ++ (left, made) ∷ [] = c.in_ok-push_node.ensures.nodes in
    let long : length c.loop-token.part ≡ length out = sym (length-map c.loop-token.part _) in
    let none : next_limit c.args.parent_depth (c.args.live + length out) left ≡ None =
    ap (λ n. next_limit c.args.parent_depth (c.args.live + n) left) (sym long) ∙ push_done _ c.push_node.result _ c.push_node.ensures.answer c.in_ok-push_node.was in
    subst (λ part. record { kept : Kept (c.open_element.new.chain) c.next.new.self part all; within : limit_passed c.args.parent_depth c.args.live part ≡ None }) (sym pushed)
    (record {
      kept = kept_node names (c.open_element.new.chain) t c.next.new.self out all left made kept leaves within content after;
      within = pushed_within c.args.parent_depth c.args.live left made out c.loop-token.invariant.within none;
    })

pub loop-token-preserved : goal.loop-token-preserved
loop-token-preserved c =
    let t : Token = token_of c.in-Some.token in
    let left = c.left_by-left.result in
    let names = c.loop-token.chain in
    let out = new_nodes c.loop-token.part in
    let all = fragment c.args.source.now in
    let kept : Kept names (t ∷ c.next.new.self) out all = subst (λ ts. Kept names ts out all) c.in-Some.ensures c.loop-token.invariant.kept in
    let leaves : Leaves (role_of t.piece) names left = c.left_by-left.ensures.left in
    let cut : c.truncate.new.self ≡ take left names = c.truncate.ensures in
    let content : content_of t.piece ≡ None = sym c.in_ok-node.ensures ∙ ap (option_map new_content) c.in_default-2.is in
    record {
      kept = subst (λ ns. Kept ns c.next.new.self out all) (sym cut) (kept_none names t c.next.new.self out all left kept leaves content);
      within = c.loop-token.invariant.within;
    }

pub returns-clause-fragment : goal.returns-clause-fragment
returns-clause-fragment c =
    let names = c.loop-token.chain in
    let out = new_nodes c.loop-token.part in
    let all = fragment c.args.source.now in
    let none : c.loop-token.tokens ≡ [] = c.in_default.ensures.0 in
    subst IsFragment (sym (kept_all names out all (subst (λ ts. Kept names ts out all) none c.loop-token.invariant.kept))) (fragment_is c.args.source.now)

pub returns-clause-few : goal.returns-clause-few
returns-clause-few c =
    let names = c.loop-token.chain in
    let out = new_nodes c.loop-token.part in
    let all = fragment c.args.source.now in
    let none : c.loop-token.tokens ≡ [] = c.in_default.ensures.0 in
    let whole : out ≡ all = kept_all names out all (subst (λ ts. Kept names ts out all) none c.loop-token.invariant.kept) in
    let long : length out ≡ length c.loop-token.part = length-map c.loop-token.part _ in
    omega (arith, long, ap length whole, fragment_few c.args.source.now)

pub returns-clause-page : goal.returns-clause-page
returns-clause-page c =
    let names = c.loop-token.chain in
    let out = new_nodes c.loop-token.part in
    let all = fragment c.args.source.now in
    let none : c.loop-token.tokens ≡ [] = c.in_default.ensures.0 in
    let whole : out ≡ all = kept_all names out all (subst (λ ts. Kept names ts out all) none c.loop-token.invariant.kept) in
    ap (λ part. with_fragment 0 0 part (record { nodes = empty; next = 1 })) whole ∙ sym (page_is_fragment c.args.source.now)
