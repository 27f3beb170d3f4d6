use Rattle.std.proofs.Common.{arith, sym, ap, ◌∙◌, drop, ◌+◌, ◌≡◌, get_or}
use Rattle.std.proofs.lemmas.List.{take_rest}
use Rattle.selector_spelling.specs.Bytes.{Bytes}
use Rattle.selector_spelling.specs.Scan.{step}
use Rattle.selector_lexer.proofs.Closing.{argument-more, argument-done}
use Rattle.selector_lexer.proofs.cuts.argument_length.Goals as goal

pub loop-at-preserved : goal.loop-at-preserved
loop-at-preserved c =
    let l = c.loop-at in
    let text = c.args.text.now in
    let stepped : c.step.new.self ≡ step l.scanner (get_or text l.at 0) (drop (l.at + 1) text) =
    c.in_ok-step.ensures ∙ ap (λ (v : Bytes). step l.scanner (get_or text l.at 0) v) (take_rest text (l.at + 1)) in
    let more = argument-more _ text l.scanner c.step.new.self l.at c.loop-at-test.true stepped l.invariant.same l.invariant.inside (sym c.is_bare.ensures ∙ c.if-is_bare.false) in
    record { most = omega arith; same = more.0; inside = more.1 }

pub returns-then-is_bare : goal.returns-then-is_bare
returns-then-is_bare c =
    let l = c.loop-at in
    let text = c.args.text.now in
    let stepped : c.step.new.self ≡ step l.scanner (get_or text l.at 0) (drop (l.at + 1) text) =
    c.in_ok-step.ensures ∙ ap (λ (v : Bytes). step l.scanner (get_or text l.at 0) v) (take_rest text (l.at + 1)) in
    let done = argument-done _ text l.scanner c.step.new.self l.at c.loop-at-test.true stepped l.invariant.same l.invariant.inside (sym c.is_bare.ensures ∙ c.if-is_bare.true) in
    record { most = l.invariant.most; front = done.0; ascii = λ _. done.1 }
