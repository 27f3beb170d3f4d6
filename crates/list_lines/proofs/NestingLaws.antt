-- The innermost part that the reader keeps is the last one of its vector.
use Rattle.std.proofs.Common.{◌≡◌, ℕ, zero, suc, ◌+◌, ◌-◌, ◌<◌, ◌≤◌, ◌≢◌, true, List, [], ◌∷◌, ◌++◌, length, get_or, set, take, reverse, refl, ap, sym, ◌∙◌, arith}
use Rattle.std.proofs.lemmas.List.{reverse-append, take_all, take_more}
use Rattle.list_lines.specs.declared.nesting.OpenIf.{OpenIf}
use Rattle.list_lines.specs.OpenIfs.{AreChained, divided_first}

set_last : (items : List OpenIf) (n : ℕ) (q : OpenIf) → length items ≡ n + 1 → set items n q ≡ take n items ++ q ∷ []
set_last [] n q e = absurd (omega (arith, e))
set_last (x ∷ []) zero q e = refl
set_last (x ∷ y ∷ items) zero q e = absurd (omega (arith, e))
set_last (x ∷ []) (suc n) q e = absurd (omega (arith, e))
set_last (x ∷ y ∷ items) (suc n) q e = let shorter : length (y ∷ items) ≡ n + 1 = omega (arith, e) in ap (λ (l : List OpenIf). x ∷ l) (set_last (y ∷ items) n q shorter)

last_is : (items : List OpenIf) (n : ℕ) (d : OpenIf) → length items ≡ n + 1 → items ≡ take n items ++ get_or items n d ∷ []
last_is items n d e =
    let within : n < length items = omega (arith, e) in
    let whole : length items ≤ n + 1 = omega (arith, e) in
    sym (take_all (n + 1) items whole) ∙ take_more items n d within

divided_is : (items : List OpenIf) (n : ℕ) (d : OpenIf) → length items ≡ n + 1
    → reverse (set items n (record (get_or items n d) { divided = true })) ≡ divided_first (reverse items)
divided_is items n d e =
    let q : OpenIf = record (get_or items n d) { divided = true } in
    ap (λ (l : List OpenIf). reverse l) (set_last items n q e) ∙ reverse-append (take n items) (q ∷ [])
    ∙ sym (ap divided_first (ap (λ (l : List OpenIf). reverse l) (last_is items n d e) ∙ reverse-append (take n items) (get_or items n d ∷ [])))

pub divided_after : (items slice after : List OpenIf) (part : OpenIf) → slice ≡ items → length slice ≢ 0 → part ≡ get_or items (length slice - 1) part
    → after ≡ set items (length slice - 1) (record part { divided = true }) → reverse after ≡ divided_first (reverse items)
divided_after items slice after part s some p a =
    let n = length slice - 1 in
    let count : length items ≡ n + 1 = omega (arith, ap (λ (l : List OpenIf). length l) s, some) in
    ap (λ (l : List OpenIf). reverse l) (a ∙ ap (λ (q : OpenIf). set items n (record q { divided = true })) p) ∙ divided_is items n part count

pub chained_divided : (ifs : List OpenIf) → AreChained ifs → AreChained (divided_first ifs)
chained_divided [] h = tt
chained_divided (p ∷ ifs) h = h
