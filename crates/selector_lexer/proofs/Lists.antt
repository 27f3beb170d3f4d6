-- Lists from their end.
use Rattle.std.proofs.Common.{◌≡◌, Bool, true, false, ◌&&◌, List, [], ◌∷◌, refl, ap, ◌∙◌}
use Rattle.std.specs.Prelude.{reverse}
use Rattle.std.specs.List.{list_all}
use Rattle.std.proofs.lemmas.List.{reverse-append}
use Rattle.std.proofs.lemmas.List.Folds.{list_all-append}

and_true : (a : Bool) → (a && true) ≡ a
and_true true = refl
and_true false = refl

and_turned : (a b : Bool) → (a && b) ≡ (b && a)
and_turned true true = refl
and_turned true false = refl
and_turned false true = refl
and_turned false false = refl

pub list_all-reverse : {X : Type 0} (p : X → Bool) (xs : List X) → list_all p (reverse xs) ≡ list_all p xs
list_all-reverse p [] = refl
list_all-reverse p (x ∷ xs) =
    ap (list_all p) (reverse-append (x ∷ []) xs) ∙ list_all-append p (reverse xs) (x ∷ [])
    ∙ ap (λ (b : Bool). b && (p x && true)) (list_all-reverse p xs) ∙ and_turned (list_all p xs) (p x && true)
    ∙ ap (λ (b : Bool). b && list_all p xs) (and_true (p x))
