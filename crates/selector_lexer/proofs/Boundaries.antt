-- Where a text may be cut.
use Rattle.std.proofs.Common.{◌≡◌, ℕ, zero, suc, ◌+◌, ◌-◌, ◌<◌, ◌≤◌, List, length, get_or, arith, subst}
use Rattle.std.specs.Str.{IsUtf8, IsCharBoundary}
use Rattle.std.proofs.lemmas.Str.{IsCharBoundary-start, IsCharBoundary-after_ascii}

pub behind_ascii : (text : List ℕ) (n : ℕ) → IsUtf8 text → n ≤ length text → (0 < n → get_or text (n - 1) 0 < 128) → IsCharBoundary text n
behind_ascii text zero utf8 most last = IsCharBoundary-start text utf8
behind_ascii text (suc n) utf8 most last =
    let e : suc n - 1 ≡ n = omega arith in
    let k : n + 1 ≡ suc n = omega arith in
    let low : get_or text n 0 < 128 = subst (λ (m : ℕ). get_or text m 0 < 128) e (last (omega arith)) in
    subst (λ (m : ℕ). IsCharBoundary text m) k (IsCharBoundary-after_ascii text n utf8 (omega arith) low)
