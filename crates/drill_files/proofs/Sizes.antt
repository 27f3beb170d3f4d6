-- How long the texts of a drill are at most.
use Rattle.std.proofs.Common.{◌≡◌, ◌+◌, ◌*◌, ◌-◌, ◌<◌, ◌≤◌, ◌==◌, ◌%◌, ℕ, zero, suc, cond, Bool, true, false, List, ◌++◌, codes, decimal, length, arith, refl}
use Rattle.std.proofs.lemmas.List.{length-append}
use Rattle.std.proofs.lemmas.Fmt.{length-decimal-le}
use Rattle.command_meaning.specs.Generator.{block, class_of, drill_line, drill_page, drill_script}

class_length : (i : ℕ) → length (class_of i) ≡ 2
class_length i = elim (i % 3 == 0) as (λ v. length (cond v (codes "ad") (codes "ok")) ≡ 2) [ true ↦ refl | false ↦ refl ]

-- the parts of a block
nine_parts : (a n b c d e f : List ℕ) → length (a ++ n ++ b ++ c ++ d ++ n ++ e ++ n ++ f)
    ≡ length a + length b + length c + length d + length e + length f + 3 * length n
nine_parts a n b c d e f = simp length-append (omega arith)

block_within : (i : ℕ) → i < 100000 → length (block i) ≤ 200
block_within i few =
    omega (
      arith,
      nine_parts (codes "<div class=\"row\" id=\"r") (decimal i) (codes "\"><a class=\"") (class_of i) (codes "\">t") (codes "</a><p>text ") (codes "</p></div>"),
      class_length i,
      length-decimal-le 5 i (omega arith) few (omega arith),
    )

pub page_within : (n : ℕ) → n < 100000 → length (drill_page n) ≤ 200 * n
page_within zero few = omega arith
page_within (suc n) few = omega (arith, length-append (drill_page n) (block (suc n)), page_within n (omega arith), block_within (suc n) few)

three_parts : (a n b : List ℕ) → length n ≤ 6 → length a + length b ≤ 100 → length (a ++ n ++ b) ≤ 199
three_parts a n b small fixed = simp length-append (omega arith)

few_digits : (n : ℕ) → n < 1000000 → length (decimal n) ≤ 6
few_digits n few = length-decimal-le 6 n (omega arith) few (omega arith)

line_by : (one two three : Bool) (i : ℕ) → i < 100000 → length (cond one (codes "attr " ++ decimal (5 * i - 3) ++ codes " class hit")
    (cond two (codes "move " ++ decimal (5 * i - 4) ++ codes " 0 0")
    (cond three (codes "attr " ++ decimal (5 * i - 3) ++ codes " class gone") (codes "text " ++ decimal (5 * i) ++ codes " text 7")))) ≤ 199
line_by true two three i few = three_parts (codes "attr ") (decimal (5 * i - 3)) (codes " class hit") (few_digits (5 * i - 3) (omega arith)) (omega arith)
line_by false true three i few = three_parts (codes "move ") (decimal (5 * i - 4)) (codes " 0 0") (few_digits (5 * i - 4) (omega arith)) (omega arith)
line_by false false true i few = three_parts (codes "attr ") (decimal (5 * i - 3)) (codes " class gone") (few_digits (5 * i - 3) (omega arith)) (omega arith)
line_by false false false i few = three_parts (codes "text ") (decimal (5 * i)) (codes " text 7") (few_digits (5 * i) (omega arith)) (omega arith)

line_within : (i : ℕ) → i < 100000 → length (drill_line i) ≤ 199
line_within i few = line_by (i % 4 == 1) (i % 4 == 2) (i % 4 == 3) i few

pub script_within : (n : ℕ) → n < 100000 → length (drill_script n) ≤ 200 * n
script_within zero few = omega arith
script_within (suc n) few =
    omega (
      arith,
      length-append (drill_script n ++ drill_line (suc n)) (codes "\n"),
      length-append (drill_script n) (drill_line (suc n)),
      script_within n (omega arith),
      line_within (suc n) few,
    )
