-- One more line behind those before it: what the parts over the next line are.
use Rattle.std.proofs.Common.{◌≡◌, ℕ, zero, suc, ◌||◌, Bool, true, false, List, [], ◌∷◌, ◌++◌, drop, refl, ap, sym, ◌∙◌}
use Rattle.std.proofs.lemmas.List.{append-nil, append_assoc}
use Rattle.list_lines.specs.declared.nesting.OpenIf.{OpenIf}
use Rattle.list_lines.specs.OpenIfs.{divided_first, parts_of}
use Rattle.list_lines.specs.Parts.{Sign, opens, divides, closes, plain, Part, inner, has_else, part_if, part_over, parts_over}

abbrev part : Bool → Bool → Part
part condition divided = record { condition = condition; divided = divided }

-- what a line does to the parts over it, innermost first
abbrev pub after : List Part → Sign → List Part
after parts (opens condition) = part condition false ∷ parts
after [] divides = []
after (p ∷ parts) divides = part p.condition true ∷ parts
after parts closes = drop 1 parts
after parts plain = parts

abbrev run : List Part → List Sign → List Part
run parts [] = parts
run parts (s ∷ signs) = run (after parts s) signs

-- what is left behind some lines of a part with so many inner ones, and of parts of which the first has so many
abbrev kept : ℕ → Part → List Sign → List Part
kept n p signs = part_if (inner n signs) (part p.condition (p.divided || has_else n signs))

abbrev left : ℕ → List Part → List Sign → List Part
left n [] signs = []
left n (p ∷ parts) signs = kept n p signs ++ left (suc n) parts signs

or_false : (b : Bool) → (b || false) ≡ b
or_false true = refl
or_false false = refl

or_true : (b : Bool) → (b || true) ≡ true
or_true true = refl
or_true false = refl

left_none : (n : ℕ) (parts : List Part) → left n parts [] ≡ parts
left_none n [] = refl
left_none n (p ∷ parts) =
    ap (λ (d : Bool). part p.condition d ∷ left (suc n) parts []) (or_false p.divided) ∙ ap (λ (l : List Part). p ∷ l) (left_none (suc n) parts)

left_opens : (n : ℕ) (parts : List Part) (c : Bool) (signs : List Sign) → left n parts (opens c ∷ signs) ≡ left (suc n) parts signs
left_opens n [] c signs = refl
left_opens n (p ∷ parts) c signs = ap (λ (l : List Part). kept (suc n) p signs ++ l) (left_opens (suc n) parts c signs)

left_divides : (n : ℕ) (parts : List Part) (signs : List Sign) → left (suc n) parts (divides ∷ signs) ≡ left (suc n) parts signs
left_divides n [] signs = refl
left_divides n (p ∷ parts) signs = ap (λ (l : List Part). kept (suc n) p signs ++ l) (left_divides (suc n) parts signs)

left_closes : (n : ℕ) (parts : List Part) (signs : List Sign) → left (suc n) parts (closes ∷ signs) ≡ left n parts signs
left_closes n [] signs = refl
left_closes n (p ∷ parts) signs = ap (λ (l : List Part). kept n p signs ++ l) (left_closes (suc n) parts signs)

left_plain : (n : ℕ) (parts : List Part) (signs : List Sign) → left n parts (plain ∷ signs) ≡ left n parts signs
left_plain n [] signs = refl
left_plain n (p ∷ parts) signs = ap (λ (l : List Part). kept n p signs ++ l) (left_plain (suc n) parts signs)

run_is : (parts : List Part) (signs : List Sign) → run parts signs ≡ parts_over signs ++ left 0 parts signs
run_is parts [] = sym (left_none 0 parts)
run_is parts (opens c ∷ signs) =
    run_is (part c false ∷ parts) signs
    ∙ sym (append_assoc (parts_over signs) (part_over c signs) (left 1 parts signs))
    ∙ ap (λ (l : List Part). (parts_over signs ++ part_over c signs) ++ l) (sym (left_opens 0 parts c signs))
run_is [] (divides ∷ signs) = run_is [] signs
run_is (p ∷ parts) (divides ∷ signs) =
    run_is (part p.condition true ∷ parts) signs
    ∙ ap (λ (d : Bool). parts_over signs ++ (part_if (inner 0 signs) (part p.condition d) ++ left 1 parts signs)) (sym (or_true p.divided))
    ∙ ap (λ (l : List Part). parts_over signs ++ (part_if (inner 0 signs) (part p.condition (p.divided || true)) ++ l)) (sym (left_divides 0 parts signs))
run_is [] (closes ∷ signs) = run_is [] signs
run_is (p ∷ parts) (closes ∷ signs) = run_is parts signs ∙ ap (λ (l : List Part). parts_over signs ++ l) (sym (left_closes 0 parts signs))
run_is parts (plain ∷ signs) = run_is parts signs ∙ ap (λ (l : List Part). parts_over signs ++ l) (sym (left_plain 0 parts signs))

run_one : (parts : List Part) (before : List Sign) (s : Sign) → run parts (before ++ s ∷ []) ≡ after (run parts before) s
run_one parts [] s = refl
run_one parts (t ∷ before) s = run_one (after parts t) before s

over_is : (signs : List Sign) → run [] signs ≡ parts_over signs
over_is signs = run_is [] signs ∙ append-nil (parts_over signs)

-- the parts over the line behind one more line
pub parts_behind : (before : List Sign) (s : Sign) → parts_over (before ++ s ∷ []) ≡ after (parts_over before) s
parts_behind before s = sym (over_is (before ++ s ∷ [])) ∙ run_one [] before s ∙ ap (λ (l : List Part). after l s) (over_is before)

-- the same for the parts that the reader keeps
pub divided_parts : (ifs : List OpenIf) → parts_of (divided_first ifs) ≡ after (parts_of ifs) divides
divided_parts [] = refl
divided_parts (p ∷ ifs) = refl
