use Rattle.std.proofs.Common.{◌≡◌, ◌≤◌, ◌-◌, ◌++◌, ◌∷◌, inl, refl, rules, Err, ℕ, Option, Some, None, length, take, ap, sym, ◌∙◌, subst, option_map, MatchOption, IsOkUnless}
use Rattle.page_tree.specs.Forest.{Content, Tree, size}
use Rattle.page_tree.specs.Fragments.{Limit, limit_passed}
use Rattle.dom_arena.specs.Contents.{new_content}
use Rattle.dom_arena.specs.Refusals.{error_of as dom_error}
use Rattle.html_meaning.specs.Tokens.{Token}
use Rattle.html_meaning.specs.Page.{role_of, opened, content_of, fragment}
use Rattle.html_tokens.specs.Seen.{token_of}
use Rattle.html_tree.specs.Chain.{element_names, element_numbers}
use Rattle.std.specs.Prelude.{slice_index}
use Rattle.html_tree.specs.Limits.{page_error, error_of, next_limit, FailsWith}
use Rattle.html_tree.specs.declared.reader.PageError.TheVariants.{NoMemory}
use Rattle.html_tree.proofs.Grown.{Grown, grown_start, grown_none, grown_node, grown_depth, grown_few, grown_refusal, grown_limit, grown_page, grown_within, content_ordinary, put_done, put_failed}
use Rattle.html_tree.proofs.PassedLimits.{fails, failed_so, error_given}
use Rattle.html_tree.proofs.reader.read_page.Goals as goal

pub loop-token-init : goal.loop-token-init
loop-token-init c = rw (c.new-chain.ensures, c.new-numbers.ensures.items, c.in_ok-dom.ensures, c.new-tokens.ensures.tokens) (grown_start c.args.source.now)

pub loop-token-preserved : goal.loop-token-preserved
loop-token-preserved c =
    let t : Token = token_of c.in-Some.token in
    let left = c.left_by-left.result in
    let names = c.loop-token.chain in
    let numbers = c.loop-token.numbers.items in
    let grown : Grown names numbers (t ∷ c.next.new.self) c.loop-token.dom c.args.source.now =
    subst (λ ts. Grown names numbers ts c.loop-token.dom c.args.source.now) c.in-Some.ensures c.loop-token.invariant in
    let content : content_of t.piece ≡ None = sym c.in_ok-node.ensures ∙ ap (option_map new_content) c.in_default-2.is in
    subst (λ ns. Grown ns c.truncate-in-Some.new.self.items c.next.new.self c.loop-token.dom c.args.source.now) (sym c.truncate.ensures)
    (subst (λ ns. Grown (take left names) ns c.next.new.self c.loop-token.dom c.args.source.now) (sym c.truncate-in-Some.ensures.items)
    (grown_none names numbers t c.next.new.self c.loop-token.dom c.args.source.now left grown c.left_by-left.ensures.left content))

pub returns-clause-tree : goal.returns-clause-tree
returns-clause-tree c =
    let names = c.loop-token.chain in
    let numbers = c.loop-token.numbers.items in
    let source = c.args.source.now in
    grown_page names numbers c.loop-token.dom source (subst (λ ts. Grown names numbers ts c.loop-token.dom source) c.in_default.ensures.0 c.loop-token.invariant)

pub returns-in_err-number-clause-answer : goal.returns-in_err-number-clause-answer
returns-in_err-number-clause-answer c =
    let t : Token = token_of c.in-Some.token in
    let left = c.left_by-left.result in
    let names = c.loop-token.chain in
    let numbers = c.loop-token.numbers.items in
    let old = c.loop-token.dom in
    let source = c.args.source.now in
    let made : Content = new_content c.in-Some-2.node in
    let error = c.in_err-number.field-0.0 in
    let o : Option Limit = next_limit 0 (size old.nodes) left in
    let limit : Option Limit = limit_passed 0 0 (fragment source) in
    let grown : Grown names numbers (t ∷ c.next.new.self) old source = subst (λ ts. Grown names numbers ts old source) c.in-Some.ensures c.loop-token.invariant in
    let content : content_of t.piece ≡ Some made = sym c.in_ok-node.ensures ∙ ap (option_map new_content) c.in-Some-2.is in
    let parent : c.innermost-parent.result ≡ slice_index (take left numbers) (length (take left numbers) - 1) =
    c.innermost-parent.ensures ∙ ap (λ ns. slice_index ns (length ns - 1)) (c.as_slice.ensures.value ∙ c.truncate-in-Some.ensures.items) in
    let refused = grown_refusal names numbers t c.next.new.self old source left c.innermost-parent.result made grown c.left_by-left.ensures.left c.left_by-left.ensures.within content parent in
    let answer = subst (λ d. MatchOption d (IsOkUnless c.put.result NoMemory) (λ refusal. c.put.result ≡ Err (error_of (dom_error refusal)))) refused c.put.ensures.answer in
    let passes : (l : Limit) → o ≡ Some l → limit ≡ Some l =
    grown_limit names numbers t c.next.new.self old source left c.innermost-parent.result made grown c.left_by-left.ensures.left c.left_by-left.ensures.within content parent in
    let failed = failed_so limit o error passes (put_failed o c.put.result error answer c.in_err-number.was) in
    let result = error_given Tree c.from_residual-in_err-number.result error c.from_residual-in_err-number.ensures.1 in
    subst (λ r. MatchOption limit (IsOkUnless r NoMemory) (λ l. FailsWith r (page_error l))) (sym result) (fails Tree limit error failed)

pub loop-token-preserved-in-Continue-branch-6 : goal.loop-token-preserved-in-Continue-branch-6
loop-token-preserved-in-Continue-branch-6 c =
    let t : Token = token_of c.in-Some.token in
    let role = role_of t.piece in
    let left = c.left_by-left.result in
    let names = c.loop-token.chain in
    let numbers = c.loop-token.numbers.items in
    let old = c.loop-token.dom in
    let source = c.args.source.now in
    let made : Content = new_content c.in-Some-2.node in
    let o : Option Limit = next_limit 0 (size old.nodes) left in
    let grown : Grown names numbers (t ∷ c.next.new.self) old source = subst (λ ts. Grown names numbers ts old source) c.in-Some.ensures c.loop-token.invariant in
    let content : content_of t.piece ≡ Some made = sym c.in_ok-node.ensures ∙ ap (option_map new_content) c.in-Some-2.is in
    let parent : c.innermost-parent.result ≡ slice_index (take left numbers) (length (take left numbers) - 1) =
    c.innermost-parent.ensures ∙ ap (λ ns. slice_index ns (length ns - 1)) (c.as_slice.ensures.value ∙ c.truncate-in-Some.ensures.items) in
    let refused = grown_refusal names numbers t c.next.new.self old source left c.innermost-parent.result made grown c.left_by-left.ensures.left c.left_by-left.ensures.within content parent in
    let answer = subst (λ d. MatchOption d (IsOkUnless c.put.result NoMemory) (λ refusal. c.put.result ≡ Err (error_of (dom_error refusal)))) refused c.put.ensures.answer in
    let none : o ≡ None = put_done o c.put.result c.in_ok-number.number answer c.in_ok-number.was in
    let after : (n : ℕ) → c.open_element.new.chain ≡ take left names ++ element_names (opened n role) =
    λ n. c.in_ok-open_element.ensures n ∙ ap (λ x. x ++ element_names (opened n role)) c.truncate.ensures in
    let others : c.keep_number.new.numbers.items ≡ take left numbers ++ element_numbers (opened old.next role) =
    c.in_ok-keep_number.ensures ∙ ap (λ ns. ns ++ element_numbers (opened c.in_ok-number.number role)) c.truncate-in-Some.ensures.items
    ∙ ap (λ n. take left numbers ++ element_numbers (opened n role)) c.in_ok-number.ensures.number in
    grown_node names numbers t c.next.new.self old source left c.innermost-parent.result made grown c.left_by-left.ensures.left c.left_by-left.ensures.within content parent
    c.open_element.new.chain c.keep_number.new.numbers.items c.put.new.dom after others none c.in_ok-number.ensures.tree

pub returns-clause-answer : goal.returns-clause-answer
returns-clause-answer c =
    let names = c.loop-token.chain in
    let numbers = c.loop-token.numbers.items in
    let source = c.args.source.now in
    let none : limit_passed 0 0 (fragment source) ≡ None =
    grown_within names numbers c.loop-token.dom source (subst (λ ts. Grown names numbers ts c.loop-token.dom source) c.in_default.ensures.0 c.loop-token.invariant) in
    rw none (search rules)

pub put-requires-clause-ordinary : goal.put-requires-clause-ordinary
put-requires-clause-ordinary c =
    let t : Token = token_of c.in-Some.token in
    content_ordinary t.piece (new_content c.in-Some-2.node) (sym c.in_ok-node.ensures ∙ ap (option_map new_content) c.in-Some-2.is)

pub returns-in_err-open_element-clause-answer : goal.returns-in_err-open_element-clause-answer
returns-in_err-open_element-clause-answer c =
    let limit : Option Limit = limit_passed 0 0 (fragment c.args.source.now) in
    let result = error_given Tree c.from_residual-in_err-open_element.result NoMemory c.from_residual-in_err-open_element.ensures.1 in
    subst (λ r. MatchOption limit (IsOkUnless r NoMemory) (λ l. FailsWith r (page_error l))) (sym result) (fails Tree limit NoMemory (inl refl))

pub returns-in_err-keep_number-clause-answer : goal.returns-in_err-keep_number-clause-answer
returns-in_err-keep_number-clause-answer c =
    let limit : Option Limit = limit_passed 0 0 (fragment c.args.source.now) in
    let result = error_given Tree c.from_residual-in_err-keep_number.result NoMemory c.from_residual-in_err-keep_number.ensures.1 in
    subst (λ r. MatchOption limit (IsOkUnless r NoMemory) (λ l. FailsWith r (page_error l))) (sym result) (fails Tree limit NoMemory (inl refl))

pub overflow_cast-left : goal.overflow_cast-left
overflow_cast-left c =
    let t : Token = token_of c.in-Some.token in
    let left = c.left_by-left.result in
    let names = c.loop-token.chain in
    let numbers = c.loop-token.numbers.items in
    let old = c.loop-token.dom in
    let source = c.args.source.now in
    let made : Content = new_content c.in-Some-2.node in
    let grown : Grown names numbers (t ∷ c.next.new.self) old source = subst (λ ts. Grown names numbers ts old source) c.in-Some.ensures c.loop-token.invariant in
    let content : content_of t.piece ≡ Some made = sym c.in_ok-node.ensures ∙ ap (option_map new_content) c.in-Some-2.is in
    let parent : c.innermost-parent.result ≡ slice_index (take left numbers) (length (take left numbers) - 1) =
    c.innermost-parent.ensures ∙ ap (λ ns. slice_index ns (length ns - 1)) (c.as_slice.ensures.value ∙ c.truncate-in-Some.ensures.items) in
    let few : left ≤ 1000000 = grown_few names numbers t c.next.new.self old source left c.innermost-parent.result made grown c.left_by-left.ensures.left c.left_by-left.ensures.within content parent in
    search rules

pub put-requires-clause-depth : goal.put-requires-clause-depth
put-requires-clause-depth c =
    let t : Token = token_of c.in-Some.token in
    let left = c.left_by-left.result in
    let names = c.loop-token.chain in
    let numbers = c.loop-token.numbers.items in
    let old = c.loop-token.dom in
    let source = c.args.source.now in
    let made : Content = new_content c.in-Some-2.node in
    let grown : Grown names numbers (t ∷ c.next.new.self) old source = subst (λ ts. Grown names numbers ts old source) c.in-Some.ensures c.loop-token.invariant in
    let content : content_of t.piece ≡ Some made = sym c.in_ok-node.ensures ∙ ap (option_map new_content) c.in-Some-2.is in
    let parent : c.innermost-parent.result ≡ slice_index (take left numbers) (length (take left numbers) - 1) =
    c.innermost-parent.ensures ∙ ap (λ ns. slice_index ns (length ns - 1)) (c.as_slice.ensures.value ∙ c.truncate-in-Some.ensures.items) in
    grown_depth names numbers t c.next.new.self old source left c.innermost-parent.result made grown c.left_by-left.ensures.left c.left_by-left.ensures.within content parent
