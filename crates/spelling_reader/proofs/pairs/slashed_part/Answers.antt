use Rattle.std.proofs.Common.{◌+◌, ◌-◌, ◌≡◌, true, ap, subst, ◌∙◌, length, take, drop, get_or}
use Rattle.std.specs.Char.{is_ascii_alphabetic}
use Rattle.std.proofs.lemmas.List.{take_rest}
use Rattle.selector_spelling.specs.Bytes.{Bytes, front}
use Rattle.spelling_reader.proofs.Slashes.{slashed-last, slashed-front}
use Rattle.spelling_reader.proofs.pairs.slashed_part.Goals as goal

pub split_behind-requires-clause-last : goal.split_behind-requires-clause-last
split_behind-requires-clause-last c = λ _.
    let n = c.front_length-letters in
    let text = c.args.text.now in
    let bytes = c.as_bytes.result.now in
    let at = c.args.place + 2 in
    let same : take (length bytes - at) (drop at bytes) ≡ drop at text = take_rest bytes at ∙ ap (drop at) c.as_bytes.ensures.value in
    slashed-last text c.args.place n.result c.requires.is
    (λ k lt. subst (λ (v : Bytes). is_ascii_alphabetic (get_or v k 0) ≡ true) same (n.ensures.passing k lt))

pub returns-clause-front : goal.returns-clause-front
returns-clause-front c =
    let n = c.front_length-letters in
    let text = c.args.text.now in
    let bytes = c.as_bytes.result.now in
    let at = c.args.place + 2 in
    let same : take (length bytes - at) (drop at bytes) ≡ drop at text = take_rest bytes at ∙ ap (drop at) c.as_bytes.ensures.value in
    let letters : front is_ascii_alphabetic (drop at text) ≡ take n.result (drop at text) = subst (λ (v : Bytes). front is_ascii_alphabetic v ≡ take n.result v) same n.ensures.front in
    c.split_behind.ensures.front ∙ slashed-front text (front is_ascii_alphabetic (drop at text)) c.args.place n.result letters
