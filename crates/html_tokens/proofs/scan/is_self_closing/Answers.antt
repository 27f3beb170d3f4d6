use Rattle.std.proofs.Common.{◌≡◌, drop, suc, ap, sym, ◌∙◌, arith, drop_of_length-le}
use Rattle.std.proofs.lemmas.List.{length-drop, drop-drop}
use Rattle.html_meaning.specs.Tokens.{is_self_closing, more_in_tag}
use Rattle.html_tokens.proofs.Walks.{closes_steps}
use Rattle.html_tokens.proofs.scan.is_self_closing.Goals as goal

pub returns-then-size-bytes : goal.returns-then-size-bytes
returns-then-size-bytes c =
    let bytes = c.args.bytes.now in
    let rest = drop c.loop-passed.passed bytes in
    let l = length-drop c.loop-passed.passed bytes in
    let size : c.piece_size-size.result ≡ suc (more_in_tag rest) = c.piece_size-size.ensures ∙ ap (λ bs. suc (more_in_tag bs)) c.after.ensures in
    let s = closes_steps rest c.piece_size-size.result (omega (arith, l)) size in
    sym (c.loop-passed.invariant.value ∙ s ∙ ap (is_self_closing 0) (drop_of_length-le rest (omega (arith, l))))

pub loop-passed-preserved : goal.loop-passed-preserved
loop-passed-preserved c =
    let bytes = c.args.bytes.now in
    let rest = drop c.loop-passed.passed bytes in
    let l = length-drop c.loop-passed.passed bytes in
    let size : c.piece_size-size.result ≡ suc (more_in_tag rest) = c.piece_size-size.ensures ∙ ap (λ bs. suc (more_in_tag bs)) c.after.ensures in
    let s = closes_steps rest c.piece_size-size.result (omega (arith, l)) size in
    record { within = omega arith; value = c.loop-passed.invariant.value ∙ s ∙ ap (is_self_closing 0) (drop-drop c.piece_size-size.result c.loop-passed.passed bytes) }
