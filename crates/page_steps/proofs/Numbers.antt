-- The numbers of nodes stay below the limit of 32 bits: a line brings no more of them than it has bytes, and rounds of removal none.
use Rattle.std.proofs.Common.{◌≡◌, ◌+◌, ◌≤◌, ◌==◌, ◌&&◌, ◌∙◌, ℕ, zero, suc, cond, Bool, true, false, List, [], ◌∷◌, ◌++◌, length, Result, Ok, Err, arith, refl, ap}
use Rattle.std.proofs.lemmas.List.{length-append}
use Rattle.std.specs.Result.{result_unwrap_or}
use Rattle.page_tree.specs.Forest.{Tree}
use Rattle.page_tree.specs.Refusals.{Refusal}
use Rattle.page_tree.specs.Standings.{all}
use Rattle.cos_patterns.specs.Found.{pattern_found}
use Rattle.cos_source.specs.Lines.{is_lf, begins_with_lf, lines_of, onto_first_line, numbered}
use Rattle.cos_source.specs.MadeOf.{IsMadeOf}
use Rattle.cos_source.proofs.LinesMake.{lines_made}
use Rattle.selector_tree.specs.declared.filter.Filter.{Filter}
use Rattle.mutation_script.specs.declared.mutation.ScriptLine.{ScriptLine}
use Rattle.mutation_script.specs.declared.mutation.ScriptLine.TheVariants as says
use Rattle.mutation_script.specs.declared.page.PageState.{PageState}
use Rattle.mutation_script.specs.Changes.{after, change}
use Rattle.mutation_script.specs.Lines.{script_line}
use Rattle.mutation_script.proofs.Growth.{after_grows}
use Rattle.engine_meaning.specs.Rounds.{round, after_rounds}
use Rattle.engine_meaning.specs.States.{State}
use Rattle.command_meaning.specs.Report.{after_line, by_change, settling}

-- ---- rounds and lines

rounds_next : (filters : List Filter) (path : List ℕ) (n : ℕ) (t : Tree) → (after_rounds pattern_found filters path n t).next ≡ t.next
rounds_next filters path zero t = refl
rounds_next filters path (suc n) t = rounds_next filters path n (round pattern_found filters path t)

settled_next : (s : State) → (settling s).state.page.tree.next ≡ s.page.tree.next
settled_next s = rounds_next s.filters s.page.path (length (all s.page.tree)) s.page.tree

pub settled_within : (s is : State) (count : ℕ) → is ≡ (settling s).state → s.page.tree.next + count ≤ 4294967295 → is.page.tree.next + count ≤ 4294967295
settled_within s is count e few =
    let next : is.page.tree.next ≡ s.page.tree.next = ap (λ (x : State). x.page.tree.next) e ∙ settled_next s in
    omega (arith, next, few)

change_next : (changed : Result PageState Refusal) (s : State) → (by_change changed s).state.page.tree.next ≡ (result_unwrap_or changed s.page).tree.next
change_next (Ok page) s = settled_next (record s { page = page })
change_next (Err refusal) s = refl

line_next : (read : ScriptLine) (s : State) → (after_line read s).state.page.tree.next ≡ (after read s.page).tree.next
line_next (says.Mutation mutation) s = change_next (change mutation s.page) s
line_next says.Blank s = refl
line_next (says.Bad cause) s = refl

-- ---- the lines that are left

-- how many bytes lines have
abbrev pub bytes_of : List (ℕ × List ℕ) → ℕ
bytes_of [] = 0
bytes_of (line ∷ lines) = length line.1 + bytes_of lines

made_within : (lines : List (List ℕ)) (n : ℕ) (source : List ℕ) → IsMadeOf lines source → bytes_of (numbered n lines) ≤ length source
made_within [] n source h = omega arith
made_within (line ∷ lines) n source h =
    let whole = ap (λ (s : List ℕ). length s) h.2 in
    omega (arith, whole, length-append (line ++ h.0) h.1, length-append line h.0, made_within lines (n + 1) h.1 h.4)

-- the lines of a script are within it
pub script_within : (script : List ℕ) (lines : List (ℕ × List ℕ)) (next : ℕ) → lines ≡ numbered 1 (lines_of script)
    → next + length script ≤ 4294967295 → next + bytes_of lines ≤ 4294967295
script_within script lines next e few = omega (arith, ap bytes_of e, made_within (lines_of script) 1 script (lines_made script), few)

-- a line is followed, and the others are left
pub line_followed : (was is : State) (line : ℕ × List ℕ) (lines rest : List (ℕ × List ℕ)) → lines ≡ line ∷ rest
    → is ≡ (after_line (script_line line.1) was).state → was.page.tree.next + bytes_of lines ≤ 4294967295 → is.page.tree.next + bytes_of rest ≤ 4294967295
line_followed was is line lines rest e h few =
    let next : is.page.tree.next ≡ (after (script_line line.1) was.page).tree.next =
    ap (λ (s : State). s.page.tree.next) h ∙ line_next (script_line line.1) was in
    omega (arith, next, ap bytes_of e, after_grows line.1 was.page, few)

pub line_within : (was : State) (line : ℕ × List ℕ) (lines rest : List (ℕ × List ℕ)) → lines ≡ line ∷ rest
    → was.page.tree.next + bytes_of lines ≤ 4294967295 → was.page.tree.next + length line.1 ≤ 4294967295
line_within was line lines rest e few = omega (arith, ap bytes_of e, few)

-- ---- a text has at most as many lines as bytes

onto_first_line-few : (b n : ℕ) (lines : List (List ℕ)) → length lines ≤ n → length (onto_first_line b lines) ≤ suc n
onto_first_line-few b n [] h = omega arith
onto_first_line-few b n (line ∷ lines) h = omega arith

by_byte : (one two : Bool) (n : ℕ) (b : ℕ) (lines : List (List ℕ)) → length lines ≤ n → length (cond one ([] ∷ lines) (cond two lines (onto_first_line b lines))) ≤ suc n
by_byte true two n b lines h = omega arith
by_byte false true n b lines h = omega arith
by_byte false false n b lines h = onto_first_line-few b n lines h

pub lines_few : (bytes : List ℕ) → length (lines_of bytes) ≤ length bytes
lines_few [] = omega arith
lines_few (b ∷ bytes) = by_byte (is_lf b) ((b == 13) && begins_with_lf bytes) (length bytes) b (lines_of bytes) (lines_few bytes)

pub numbered_many : (n : ℕ) (lines : List (List ℕ)) → length (numbered n lines) ≡ length lines
numbered_many n [] = refl
numbered_many n (line ∷ lines) = omega (arith, numbered_many (n + 1) lines)
