-- Bytes that were copied to the front of a buffer.
use Rattle.std.proofs.Common.{◌≡◌, ◌+◌, ◌≤◌, ◌++◌, ℕ, List, length, take, drop, arith}
use Rattle.std.proofs.lemmas.Grind.{common_steps}
use Rattle.std.proofs.lemmas.List.{take_at, take-append-drop, length-take-le, length-drop, drop-drop}

-- the next n bytes stand at the front of the buffer
pub copied : (bytes buf out : List ℕ) (from n : ℕ) → out ≡ take n (drop from bytes) → from + n ≤ length bytes →
    drop from bytes ≡ take n (out ++ drop n buf) ++ drop (from + n) bytes
copied bytes buf out from n e enough =
    let whole = take-append-drop n (drop from bytes) in
    let size : length out ≡ n =
    grind (arith, common_steps, length-take-le n (drop from bytes), length-drop from bytes) in
    let front = take_at out (drop n buf) n size in
    let rest = drop-drop n from bytes in
    cc
