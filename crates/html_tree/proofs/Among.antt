-- A walk over a table of names.
use Rattle.std.proofs.Common.{◌≡◌, ℕ, zero, suc, ◌+◌, ◌<◌, ◌≤◌, true, false, ◌||◌, List, [], ◌∷◌, length, drop, get_or, refl, arith, ap, sym, ◌∙◌, add-one}
use Rattle.std.proofs.lemmas.Bool.{false_from_ne_true, or_left}
use Rattle.std.proofs.lemmas.Slice.Eq.{bytes_eq-Decides}
use Rattle.std.specs.Str.{bytes_eq, str_to_ascii_lowercase}
use denote.Ref.{Bor}
use Rattle.html_meaning.specs.Bytes.{is_among}
use Rattle.html_tree.specs.Chain.{names_of}

among_next : (name : List ℕ) (table : List (Bor (List ℕ))) (i : ℕ) (d : Bor (List ℕ)) → i < length table
    → is_among name (drop i (names_of table)) ≡ (bytes_eq name (str_to_ascii_lowercase (get_or table i d).now) || is_among name (drop (suc i) (names_of table)))
among_next name [] i d h = absurd (omega (arith, h))
among_next name (t ∷ table) zero d h = refl
among_next name (t ∷ table) (suc i) d h = among_next name table i d (omega (arith, h))

pub among_found : (name : List ℕ) (table : List (Bor (List ℕ))) (i : ℕ) (d : Bor (List ℕ)) → i < length table → name ≡ str_to_ascii_lowercase (get_or table i d).now
    → is_among name (drop i (names_of table)) ≡ true
among_found name table i d h e =
    among_next name table i d h ∙ or_left _ _ ((bytes_eq-Decides name (str_to_ascii_lowercase (get_or table i d).now)).1 e)

pub among_other : (name : List ℕ) (table : List (Bor (List ℕ))) (i : ℕ) (d : Bor (List ℕ)) → i < length table → (name ≡ str_to_ascii_lowercase (get_or table i d).now → ⊥)
    → is_among name (drop (i + 1) (names_of table)) ≡ is_among name (drop i (names_of table))
among_other name table i d h e =
    let other : bytes_eq name (str_to_ascii_lowercase (get_or table i d).now) ≡ false = false_from_ne_true _ (λ t. e ((bytes_eq-Decides name (str_to_ascii_lowercase (get_or table i d).now)).0 t)) in
    rw add-one (sym (among_next name table i d h ∙ ap (λ b. b || is_among name (drop (suc i) (names_of table))) other))

pub among_none : (name : List ℕ) (table : List (Bor (List ℕ))) (i : ℕ) → length table ≤ i → is_among name (drop i (names_of table)) ≡ false
among_none name [] zero h = refl
among_none name [] (suc i) h = refl
among_none name (t ∷ table) zero h = absurd (omega (arith, h))
among_none name (t ∷ table) (suc i) h = among_none name table i (omega (arith, h))
