-- A line uses up no more numbers than it has bytes.
use Rattle.std.proofs.Common.{◌≡◌, ℕ, ◌+◌, ◌≤◌, ◌==◌, Bool, true, false, cond, List, [], ◌∷◌, codes, length, Option, Some, None, Result, Ok, Err, refl, arith}
use Rattle.std.specs.Prelude.{unwrap_or}
use Rattle.std.specs.List.{list_all}
use Rattle.std.specs.Str.{bytes_eq, is_utf8}
use Rattle.std.specs.Result.{result_unwrap_or}
use Rattle.page_tree.specs.Forest.{Tree, empty}
use Rattle.page_tree.specs.Edits.{with_attr_set, with_attr_dropped, with_text, detached, moved}
use Rattle.page_tree.specs.Fragments.{with_fragment}
use Rattle.page_tree.specs.Refusals.{Refusal, attr_refused, text_refused, graft_refused, detach_refused, relink_refused}
use Rattle.html_meaning.specs.Page.{fragment}
use Rattle.html_meaning.proofs.Counts.{fragment_few}
use Rattle.html_tree.proofs.Law.{size-with_nodes_at}
use Rattle.cos_source.specs.Spaces.{is_space}
use Rattle.mutation_script.specs.declared.mutation.BadLine.{BadLine}
use Rattle.mutation_script.specs.declared.mutation.BadLine.TheVariants.{NotUtf8, UnknownWord, BadNumber}
use Rattle.mutation_script.specs.declared.mutation.Mutation.{Mutation}
use Rattle.mutation_script.specs.declared.mutation.Mutation.TheVariants.{SetAttr, DropAttr, SetText, Insert, Delete, Relink, Path}
use Rattle.mutation_script.specs.declared.mutation.ScriptLine.{ScriptLine}
use Rattle.mutation_script.specs.declared.mutation.ScriptLine.TheVariants as says
use Rattle.mutation_script.specs.declared.page.PageState.{PageState}
use Rattle.mutation_script.specs.Fields.{field, left, number, number_field, name_field, path_field, rest_field, at_end, or_bad}
use Rattle.mutation_script.specs.Lines.{◌>>=◌, attr_line, unset_line, text_line, insert_line, delete_line, move_line, path_line, by_word, mutation_of, said, script_line}
use Rattle.mutation_script.specs.Changes.{unless_refused, change, changed, after}
use Rattle.mutation_script.specs.Inserted.{inserted, inserted_by}

-- ---- what a line brings is no longer than the line

-- how many bytes are left of a line, and how many a mutation brings that was read, if one was
abbrev left_count : Option (List ℕ) → ℕ
left_count None = 0
left_count (Some text) = length text

abbrev brought : Result Mutation BadLine → ℕ
brought (Ok mutation) = inserted mutation
brought (Err cause) = 0

left_within : (text : List ℕ) → left_count (left text) ≤ length text
left_within [] = omega arith
left_within (b ∷ text) =
    elim (b == 32) as (λ v. left_count (cond v (Some text) (left text)) ≤ length (b ∷ text)) [
      | true ↦ omega arith
      | false ↦ omega (arith, left_within text)
    ]

rest_within : (rest : Option (List ℕ)) → length (rest_field rest) ≤ left_count rest
rest_within None = omega arith
rest_within (Some text) = omega arith

-- a number is read, and what is left behind it goes on
number_by : (n : Option ℕ) (rest : Option (List ℕ)) (most : ℕ) (next : ℕ × Option (List ℕ) → Result Mutation BadLine)
    → ((value : ℕ) → brought (next (value, rest)) ≤ most) → brought (or_bad BadNumber n rest >>= next) ≤ most
number_by None rest most next h = omega arith
number_by (Some value) rest most next h = h value

number_within : (rest : Option (List ℕ)) (next : ℕ × Option (List ℕ) → Result Mutation BadLine)
    → ((value : ℕ) (behind : Option (List ℕ)) → brought (next (value, behind)) ≤ left_count behind) → brought (number_field rest >>= next) ≤ left_count rest
number_within None next h = omega arith
number_within (Some text) next h =
    number_by (number (field text)) (left text) (length text) next (λ value. omega (arith, h value (left text), left_within text))

-- another field, behind which nothing is brought
nothing_behind : {A : Type 0} (read : Result A BadLine) (next : A → Result Mutation BadLine) → ((value : A) → brought (next value) ≡ 0) → brought (read >>= next) ≡ 0
nothing_behind (Ok value) next h = h value
nothing_behind (Err cause) next h = refl

nothing_at_end : (mutation : Mutation) (rest : Option (List ℕ)) → inserted mutation ≡ 0 → brought (at_end mutation rest) ≡ 0
nothing_at_end mutation None h = h
nothing_at_end mutation (Some text) h = refl

-- each row
attr_brings : (rest : Option (List ℕ)) → brought (attr_line rest) ≡ 0
attr_brings rest = nothing_behind (number_field rest) _ (λ n. nothing_behind (name_field n.1) _ (λ name. refl))

unset_brings : (rest : Option (List ℕ)) → brought (unset_line rest) ≡ 0
unset_brings rest = nothing_behind (number_field rest) _ (λ n. nothing_behind (name_field n.1) _ (λ name. nothing_at_end _ name.1 refl))

text_brings : (rest : Option (List ℕ)) → brought (text_line rest) ≡ 0
text_brings rest = nothing_behind (number_field rest) _ (λ n. refl)

insert_brings : (rest : Option (List ℕ)) → brought (insert_line rest) ≤ left_count rest
insert_brings rest = number_within rest _ (λ parent behind. number_within behind _ (λ place last. rest_within last))

delete_brings : (rest : Option (List ℕ)) → brought (delete_line rest) ≡ 0
delete_brings rest = nothing_behind (number_field rest) _ (λ n. nothing_at_end _ n.1 refl)

move_brings : (rest : Option (List ℕ)) → brought (move_line rest) ≡ 0
move_brings rest =
    nothing_behind (number_field rest) _ (λ n. nothing_behind (number_field n.1) _ (λ p. nothing_behind (number_field p.1) _ (λ k. nothing_at_end _ k.1 refl)))

path_brings : (rest : Option (List ℕ)) → brought (path_line rest) ≡ 0
path_brings rest = nothing_behind (path_field rest) _ (λ path. refl)

either_within : (test : Bool) (x y : Result Mutation BadLine) (most : ℕ) → brought x ≤ most → brought y ≤ most → brought (cond test x y) ≤ most
either_within true x y most h k = h
either_within false x y most h k = k

none_within : (x : Result Mutation BadLine) (most : ℕ) → brought x ≡ 0 → brought x ≤ most
none_within x most h = omega (arith, h)

by_word_within : (word : List ℕ) (rest : Option (List ℕ)) → brought (by_word word rest) ≤ left_count rest
by_word_within word rest =
    let most = left_count rest in
    let unknown = Err UnknownWord in
    let paths = cond (bytes_eq word (codes "path")) (path_line rest) unknown in
    let moves = cond (bytes_eq word (codes "move")) (move_line rest) paths in
    let deletes = cond (bytes_eq word (codes "delete")) (delete_line rest) moves in
    let inserts = cond (bytes_eq word (codes "insert")) (insert_line rest) deletes in
    let texts = cond (bytes_eq word (codes "text")) (text_line rest) inserts in
    let unsets = cond (bytes_eq word (codes "unset")) (unset_line rest) texts in
    either_within (bytes_eq word (codes "attr")) (attr_line rest) unsets most (none_within (attr_line rest) most (attr_brings rest))
    (either_within (bytes_eq word (codes "unset")) (unset_line rest) texts most (none_within (unset_line rest) most (unset_brings rest))
    (either_within (bytes_eq word (codes "text")) (text_line rest) inserts most (none_within (text_line rest) most (text_brings rest))
    (either_within (bytes_eq word (codes "insert")) (insert_line rest) deletes most (insert_brings rest)
    (either_within (bytes_eq word (codes "delete")) (delete_line rest) moves most (none_within (delete_line rest) most (delete_brings rest))
    (either_within (bytes_eq word (codes "move")) (move_line rest) paths most (none_within (move_line rest) most (move_brings rest))
    (either_within (bytes_eq word (codes "path")) (path_line rest) unknown most (none_within (path_line rest) most (path_brings rest)) (omega arith)))))))

said_within : (read : Result Mutation BadLine) (most : ℕ) → brought read ≤ most → inserted_by (said read) ≤ most
said_within (Ok mutation) most h = h
said_within (Err cause) most h = omega arith

pub inserted_within : (line : List ℕ) → inserted_by (script_line line) ≤ length line
inserted_within line =
    elim (list_all is_space line) as (λ t. inserted_by (cond t says.Blank (cond (is_utf8 line) (said (mutation_of line)) (says.Bad NotUtf8))) ≤ length line) [
      | true ↦ omega arith
      | false ↦ elim (is_utf8 line) as (λ t. inserted_by (cond t (said (mutation_of line)) (says.Bad NotUtf8)) ≤ length line) [
        | true ↦ said_within (mutation_of line) (length line) (omega (arith, by_word_within (field line) (left line), left_within line))
        | false ↦ omega arith
      ]
    ]

-- ---- and what it brings is no less than the numbers that it uses up

unless_grows : (refusal : Option Refusal) (t : Tree) (page : PageState) (count : ℕ) → t.next ≤ page.tree.next + count
    → (result_unwrap_or (unless_refused refusal t page) page).tree.next ≤ page.tree.next + count
unless_grows None t page count h = h
unless_grows (Some r) t page count h = omega arith

changed_grows : (mutation : Mutation) (page : PageState) → (changed mutation page).tree.next ≤ page.tree.next + inserted mutation
changed_grows (SetAttr n name value) page = unless_grows (attr_refused n page.tree) _ page 0 (omega arith)
changed_grows (DropAttr n name) page = unless_grows (attr_refused n page.tree) _ page 0 (omega arith)
changed_grows (SetText n text) page = unless_grows (text_refused n page.tree) (with_text n text page.tree) page 0 (omega arith)
changed_grows (Insert parent place html) page =
    unless_grows (graft_refused parent place (fragment html) page.tree) (with_fragment parent place (fragment html) page.tree) page (length html)
    (omega (arith, size-with_nodes_at page.tree.next (fragment html) empty, fragment_few html))
changed_grows (Delete n) page = unless_grows (detach_refused n page.tree) (detached n page.tree) page 0 (omega arith)
changed_grows (Relink n parent place) page = unless_grows (relink_refused n parent place page.tree) (moved n parent place page.tree) page 0 (omega arith)
changed_grows (Path path) page = omega arith

after_by : (read : ScriptLine) (page : PageState) → (after read page).tree.next ≤ page.tree.next + inserted_by read
after_by (says.Mutation mutation) page = changed_grows mutation page
after_by says.Blank page = omega arith
after_by (says.Bad cause) page = omega arith

pub after_grows : (line : List ℕ) (page : PageState) → (after (script_line line) page).tree.next ≤ page.tree.next + length line
after_grows line page = omega (arith, after_by (script_line line) page, inserted_within line)
