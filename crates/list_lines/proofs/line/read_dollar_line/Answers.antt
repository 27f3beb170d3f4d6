use Rattle.std.proofs.Common.{◌≡◌, ◌<◌, List, ℕ, length, get_or, subst, arith}
use Rattle.std.proofs.lemmas.Str.{IsCharBoundary-after_ascii}
use Rattle.list_lines.proofs.line.read_dollar_line.Goals as goal

pub split_at-requires-in-Some : goal.split_at-requires-in-Some
split_at-requires-in-Some c =
    let same = c.as_bytes.ensures.value in
    let n = c.in-Some.place in
    let lt = subst (λ (t : List ℕ). n < length t) same c.in-Some.ensures.dollar.0 in
    let dollar = subst (λ (t : List ℕ). get_or t n 0 ≡ 36) same c.in-Some.ensures.dollar.1 in
    let low : get_or c.args.text.now n 0 < 128 = omega (arith, dollar) in
    IsCharBoundary-after_ascii c.args.text.now n c.utf8.text lt low
