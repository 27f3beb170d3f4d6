-- The rows of hidden elements, one element after another.
use Rattle.std.proofs.Common.{◌≡◌, ◌++◌, ℕ, Bool, List, [], ◌∷◌, sym, ap, ◌∙◌, append_assoc}
use Rattle.selector_meaning.specs.Hidden.{places_from, with_row, rows_of}
use Rattle.selector_meaning.proofs.Rows.{with_row-append}

-- one more element: its row goes behind the others
pub rows_go_on : {F : Type 0} (chooses : F → ℕ → Bool) (items : List F) (rows more new : List (ℕ × List ℕ)) (x : ℕ) (places left rest : List ℕ) → new ≡ rows ++ with_row x places []
    → places ≡ places_from 0 (λ item. chooses item x) items → left ≡ rest → rows ++ rows_of chooses items (x ∷ left) ≡ more → new ++ rows_of chooses items rest ≡ more
rows_go_on chooses items rows more new x places left rest added e same h =
    ap (λ (r : List (ℕ × List ℕ)). r ++ rows_of chooses items rest) added
    ∙ append_assoc rows (with_row x places []) (rows_of chooses items rest)
    ∙ ap (λ (r : List (ℕ × List ℕ)). rows ++ r) (sym (with_row-append x places [] (rows_of chooses items rest)))
    ∙ ap (λ (ns : List ℕ). rows ++ with_row x ns (rows_of chooses items rest)) e
    ∙ ap (λ (ns : List ℕ). rows ++ rows_of chooses items (x ∷ ns)) (sym same)
    ∙ h
