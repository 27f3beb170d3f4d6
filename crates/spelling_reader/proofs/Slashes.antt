-- The `/` that closes a pattern.
use Rattle.std.proofs.Common.{◌≡◌, ℕ, zero, suc, ◌+◌, ◌-◌, ◌<◌, true, ◌++◌, get_or, take, drop, Option, Some, None, sym, ap, ◌∙◌, arith}
use Rattle.std.specs.Char.{is_ascii_alphabetic}
use Rattle.std.proofs.Math.Seq.{take-add}
use Rattle.std.proofs.lemmas.List.{get_or-drop}
use Rattle.selector_spelling.specs.Bytes.{Bytes, slash}
use Rattle.selector_spelling.specs.Arguments.{Slashed, Split}
use Rattle.selector_lexer.specs.declared.fronts.Class.TheVariants.{Letter}
use Rattle.selector_lexer.proofs.Classes.{class-low}

-- with a front of the body
abbrev pub with_front : Bytes → Option Slashed → Option Slashed
with_front front None = None
with_front front (Some s) = Some (record { body = front ++ s.body; flags = s.flags })

-- with a front before the sign
abbrev pub behind_front : Bytes → Option Split → Option Split
behind_front front None = None
behind_front front (Some s) = Some (record { front = front ++ s.front; rest = s.rest })

-- ---- the letters behind a closed part

pub slashed-last : (text : Bytes) (place n : ℕ) → get_or text (place + 1) 0 ≡ slash → ((k : ℕ) → k < n → is_ascii_alphabetic (get_or (drop (place + 2) text) k 0) ≡ true)
    → get_or text (place + 2 + n - 1) 0 < 128
slashed-last text place zero is letters =
    let e : place + 2 + zero - 1 ≡ place + 1 = omega arith in
    let f : get_or text (place + 2 + zero - 1) 0 ≡ slash = ap (λ (k : ℕ). get_or text k 0) e ∙ is in
    omega (arith, f)
slashed-last text place (suc n) is letters =
    let e : place + 2 + suc n - 1 ≡ place + 2 + n = omega arith in
    let f : get_or text (place + 2 + suc n - 1) 0 ≡ get_or (drop (place + 2) text) n 0 = ap (λ (k : ℕ). get_or text k 0) e ∙ sym (get_or-drop (place + 2) text n 0) in
    let low = class-low Letter (get_or (drop (place + 2) text) n 0) (letters n (omega arith)) in
    omega (arith, f, low)

pub slashed-front : (text letters : Bytes) (place n : ℕ) → letters ≡ take n (drop (place + 2) text) → take (place + 2 + n) text ≡ take (place + 2) text ++ letters
slashed-front text letters place n e = take-add (place + 2) n text ∙ ap (λ (v : Bytes). take (place + 2) text ++ v) (sym e)
