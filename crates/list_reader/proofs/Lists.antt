-- What the lines of a list give, line by line.
use Rattle.std.proofs.Common.{◌≡◌, ℕ, ◌+◌, ◌≤◌, ◌&&◌, ◌==◌, Bool, true, false, List, [], ◌∷◌, length, refl, sym, subst, arith}
use Rattle.std.specs.Prelude.{if◌then◌else◌}
use Rattle.cos_patterns.specs.declared.written.Written.{Written}
use Rattle.cos_patterns.specs.Tables.{Noted, Extends}
use Rattle.cos_source.specs.Lines.{lines_of, numbered, is_lf, begins_with_lf, onto_first_line}
use Rattle.selector_tree.specs.declared.selector.Step.{Step}
use Rattle.selector_spelling.specs.Bytes.{Bytes}
use Rattle.proper_filters.specs.Proper.{is_proper}
use Rattle.proper_filters.proofs.More.{proper_more}

-- ---- few lines

onto_length : (b : ℕ) (lines : List Bytes) (n : ℕ) → length lines ≤ n → length (onto_first_line b lines) ≤ n + 1
onto_length b [] n h = omega arith
onto_length b (line ∷ lines) n h = omega arith

by_if : (v : Bool) (n : ℕ) (x y : List Bytes) → length x ≤ n → length y ≤ n → length (if v then x else y) ≤ n
by_if true n x y p q = p
by_if false n x y p q = q

lines_length : (bytes : Bytes) → length (lines_of bytes) ≤ length bytes
lines_length [] = omega arith
lines_length (b ∷ bytes) =
    let h = lines_length bytes in
    by_if (is_lf b) (length (b ∷ bytes)) ([] ∷ lines_of bytes) (if b == 13 && begins_with_lf bytes then lines_of bytes else onto_first_line b (lines_of bytes))
    (omega arith)
    (by_if (b == 13 && begins_with_lf bytes) (length (b ∷ bytes)) (lines_of bytes) (onto_first_line b (lines_of bytes))
    (omega arith) (omega (arith, onto_length b (lines_of bytes) (length bytes) h)))

numbered_length : (n : ℕ) (lines : List Bytes) → length (numbered n lines) ≡ length lines
numbered_length n [] = refl
numbered_length n (line ∷ lines) = omega (arith, numbered_length (n + 1) lines)

-- each line takes a byte
pub few_lines : (bytes : Bytes) → length (numbered 1 (lines_of bytes)) ≤ length bytes
few_lines bytes = omega (arith, numbered_length 1 (lines_of bytes), lines_length bytes)

-- ---- filters

-- what may be asked over a table may be asked over a later one
pub proper_later : (a b : Noted) (selector : List (List Step)) → Extends a b → is_proper a.patterns selector ≡ true → is_proper b.patterns selector ≡ true
proper_later a b selector e h = subst (λ (p : List Written). is_proper p selector ≡ true) (sym e.numbers) (proper_more a.patterns e.more selector h)
