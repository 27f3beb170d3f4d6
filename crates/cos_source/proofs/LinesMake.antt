-- The lines of a source, and the line ends between them, make it up.
use Rattle.std.proofs.Common.{◌≡◌, ℕ, ◌==◌, ◌&&◌, Bool, true, false, cond, List, [], ◌∷◌, refl, ap, ◌∙◌, inl, inr}
use Rattle.std.proofs.lemmas.Bool.{eqb-true}
use Rattle.cos_source.specs.Lines.{lines_of, onto_first_line}
use Rattle.cos_source.specs.MadeOf.{IsMadeOf}

-- one more byte at the front of the first line
onto_made : (b : ℕ) (lines : List (List ℕ)) (source : List ℕ) → IsMadeOf lines source → IsMadeOf (onto_first_line b lines) (b ∷ source)
onto_made b [] source h = ([], [], ap (λ (text : List ℕ). b ∷ text) h, inr (inr (refl, refl)), refl)
onto_made b (line ∷ lines) source h = (h.0, h.1, ap (λ (text : List ℕ). b ∷ text) h.2, h.3, h.4)

-- an empty line before an LF, and before a carriage return and an LF
lf_made : (b : ℕ) (lines : List (List ℕ)) (source : List ℕ) → b ≡ 10 → IsMadeOf lines source → IsMadeOf ([] ∷ lines) (b ∷ source)
lf_made b lines source e h = (10 ∷ [], source, ap (λ (c : ℕ). c ∷ source) e, inl refl, h)

cr_lf_made : (b c : ℕ) (lines : List (List ℕ)) (source : List ℕ) → b ≡ 13 → c ≡ 10 → IsMadeOf lines source → IsMadeOf ([] ∷ lines) (b ∷ c ∷ source)
cr_lf_made b c lines source e f h = (13 ∷ 10 ∷ [], source, ap (λ (d : ℕ). d ∷ c ∷ source) e ∙ ap (λ (d : ℕ). 13 ∷ d ∷ source) f, inr (inl refl), h)

-- by the tests of the first two bytes
by_tests : (b c : ℕ) (bytes : List ℕ) (v x y : Bool) → (b == 10) ≡ v → (b == 13) ≡ x → (c == 10) ≡ y
    → IsMadeOf (lines_of bytes) bytes → IsMadeOf (lines_of (c ∷ bytes)) (c ∷ bytes)
    → IsMadeOf (cond v ([] ∷ lines_of (c ∷ bytes)) (cond (x && y) (lines_of (c ∷ bytes)) (onto_first_line b (lines_of (c ∷ bytes))))) (b ∷ c ∷ bytes)
by_tests b c bytes true x y is_v is_x is_y behind next = lf_made b (lines_of (c ∷ bytes)) (c ∷ bytes) (eqb-true b 10 is_v) next
by_tests b c bytes false true true is_v is_x is_y behind next =
    rw is_y (cr_lf_made b c (lines_of bytes) bytes (eqb-true b 13 is_x) (eqb-true c 10 is_y) behind)
by_tests b c bytes false true false is_v is_x is_y behind next = onto_made b (lines_of (c ∷ bytes)) (c ∷ bytes) next
by_tests b c bytes false false true is_v is_x is_y behind next = onto_made b (lines_of (c ∷ bytes)) (c ∷ bytes) next
by_tests b c bytes false false false is_v is_x is_y behind next = onto_made b (lines_of (c ∷ bytes)) (c ∷ bytes) next

last_by_tests : (b : ℕ) (v x : Bool) → (b == 10) ≡ v → IsMadeOf (cond v ([] ∷ []) (cond (x && false) [] ((b ∷ []) ∷ []))) (b ∷ [])
last_by_tests b true x is_v = lf_made b [] [] (eqb-true b 10 is_v) refl
last_by_tests b false true is_v = onto_made b [] [] refl
last_by_tests b false false is_v = onto_made b [] [] refl

pub lines_made : (source : List ℕ) → IsMadeOf (lines_of source) source
lines_made [] = refl
lines_made (b ∷ []) = last_by_tests b (b == 10) (b == 13) refl
lines_made (b ∷ c ∷ bytes) = by_tests b c bytes (b == 10) (b == 13) (c == 10) refl refl refl (lines_made bytes) (lines_made (c ∷ bytes))
