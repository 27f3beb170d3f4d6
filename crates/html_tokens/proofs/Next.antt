-- The token at the front, and the tokens behind it.
use Rattle.std.proofs.Common.{◌≡◌, ℕ, ◌+◌, ◌-◌, ◌<◌, List, [], ◌∷◌, length, drop, arith, ap, sym, ◌∙◌}
use Rattle.std.proofs.lemmas.List.{length-drop}
use Rattle.html_meaning.specs.Tokens.{Piece, Token, first, raw_after, tokens_from}
use Rattle.html_meaning.proofs.Covers.{tokens_step, first_takes}

size_is : (raw source rest : List ℕ) → 0 < length source → rest ≡ drop (first raw source).size source → (first raw source).size ≡ length source - length rest
size_is raw [] rest h e = absurd (omega arith)
size_is raw (b ∷ bs) rest h e =
    let takes = first_takes raw b bs in
    let l : length rest ≡ length (b ∷ bs) - (first raw (b ∷ bs)).size = ap length e ∙ length-drop (first raw (b ∷ bs)).size (b ∷ bs) in
    omega (arith, takes.1, l)

pub next_is : (place : ℕ) (raw source rest after : List ℕ) (piece : Piece) (token : Token) → 0 < length source
    → piece ≡ (first raw source).piece → rest ≡ drop (first raw source).size source
    → token ≡ record { piece = piece; from = place; to = place + (length source - length rest) } → after ≡ raw_after piece
    → tokens_from place 0 raw source ≡ token ∷ tokens_from (place + (length source - length rest)) 0 after rest
next_is place raw source rest after piece token h p r t a =
    let n = size_is raw source rest h r in
    let step = tokens_step place raw source h in
    let t2 : token ≡ record { piece = (first raw source).piece; from = place; to = place + (first raw source).size } =
    t ∙ ap (λ p. record { piece = p; from = place; to = place + (length source - length rest) }) p ∙ ap (λ n. record { piece = (first raw source).piece; from = place; to = place + n }) (sym n) in
    step
    ∙ ap (λ t. t ∷ tokens_from (place + (first raw source).size) 0 (raw_after (first raw source).piece) (drop (first raw source).size source)) (sym t2)
    ∙ ap (λ rest. token ∷ tokens_from (place + (first raw source).size) 0 (raw_after (first raw source).piece) rest) (sym r)
    ∙ ap (λ after. token ∷ tokens_from (place + (first raw source).size) 0 after rest) (sym (a ∙ ap raw_after p))
    ∙ ap (λ n. token ∷ tokens_from (place + n) 0 after rest) n
