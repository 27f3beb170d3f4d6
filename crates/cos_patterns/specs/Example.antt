-- Each definition, computed on a small case.
use Rattle.std.specs.Prelude.{⊤, ℕ, ◌≡◌, true, false, List, [], ◌∷◌, Some, None, Ok, Err, codes, refl}
use Rattle.regex_hir.specs.Find.{find_str, first_from}
use Rattle.regex_hir.specs.Looks.{holds, holds_between}
use Rattle.regex_hir.specs.Re.{attempt}
use Rattle.regex_hir.specs.Text.{is_boundary, has_bytes_at, byte_before}
use Rattle.regex.proofs.OnLiterals.{regex_on_literals}
use Rattle.cos_patterns.specs.declared.errors.MakeError.TheVariants.{Unreadable, TooLarge}
use Rattle.cos_patterns.specs.declared.notes.Note.TheVariants.{Nothing, Held, Large}
use Rattle.cos_patterns.specs.declared.written.Asked.{Asked}
use Rattle.cos_patterns.specs.declared.written.Asked.TheVariants.{Pattern, Address}
use Rattle.cos_patterns.specs.declared.written.Written.{Written}
use Rattle.cos_patterns.specs.Found.{read_as, is_read, pattern_found}
use Rattle.cos_patterns.specs.Makers.{large_after, unread_after}
use Rattle.cos_patterns.specs.Notes.{note_among, Says}
use Rattle.cos_patterns.specs.Tables.{patterns_in, is_noted, with_pattern, found_at}
use Rattle.cos_patterns.specs.Written.{written, is_same, is_in, place_of}

-- what an example unfolds to read a pattern that is written out, and to find it
unfoldable found_on_literals : ⊤
unfolding regex_on_literals read_as find_str first_from holds holds_between attempt is_boundary has_bytes_at byte_before
found_on_literals = tt

-- patterns: `b`, `B`, and `^b` without and with the flag m; `(` is no pattern

is_found : pattern_found (codes "b") 0 (codes "abc") ≡ true
unfolding found_on_literals
is_found = refl

isnt_found : pattern_found (codes "b") 0 (codes "ac") ≡ false
unfolding found_on_literals
isnt_found = refl

case_counts : pattern_found (codes "B") 0 (codes "abc") ≡ false
unfolding found_on_literals
case_counts = refl

one_line : pattern_found (codes "^b") 0 (codes "a\nb") ≡ false
unfolding found_on_literals
one_line = refl

two_lines : pattern_found (codes "^b") 2 (codes "a\nb") ≡ true
unfolding found_on_literals
two_lines = refl

isnt_read : is_read (codes "(") 0 ≡ false
unfolding found_on_literals
isnt_read = refl

-- lists of patterns: `a` without flags, and `a` with the flag i

abbrev both : List Written
both = written (codes "a") 0 ∷ written (codes "a") 1 ∷ []

flags_count : is_same (written (codes "a") 0) (written (codes "a") 1) ≡ false
flags_count = refl

stands_there : is_in (written (codes "a") 1) both ≡ true
stands_there = refl

at_the_second_place : place_of (written (codes "a") 1) both ≡ Some 1
at_the_second_place = refl

at_no_place : place_of (written (codes "b") 0) both ≡ None
at_no_place = refl

-- makers: a refusal for size is noted in the one list, an unreadable pattern in the other

abbrev asked : Asked
asked = Pattern (written (codes "a") 0)

too_large : large_after {T = ℕ} (Err TooLarge) asked [] ≡ asked ∷ []
too_large = refl

not_too_large : large_after {T = ℕ} (Err Unreadable) asked [] ≡ []
not_too_large = refl

unreadable : unread_after {T = ℕ} (Err Unreadable) (written (codes "(") 0) [] ≡ written (codes "(") 0 ∷ []
unreadable = refl

made : unread_after {T = ℕ} (Ok 7) (written (codes "a") 0) [] ≡ []
made = refl

-- tables: addresses don't count, and a pattern is put once

without_addresses : patterns_in (Address (codes "x:") ∷ asked ∷ []) ≡ written (codes "a") 0 ∷ []
without_addresses = refl

noted : is_noted (written (codes "a") 1) (record { patterns = []; large = both; unread = [] }) ≡ true
noted = refl

put_again : with_pattern (written (codes "a") 1) both ≡ both
put_again = refl

found_by_number : found_at both 0 (codes "cat") ≡ true
unfolding found_on_literals
found_by_number = refl

no_such_number : found_at both 2 (codes "cat") ≡ false
no_such_number = refl

-- the index: what it notes of a text by flags, and what that says

by_flags : note_among (Some (Held 0 ∷ Large ∷ [])) 1 ≡ Large
by_flags = refl

of_no_text : note_among None 0 ≡ Nothing
of_no_text = refl

large_says : Says Large (written (codes "a") 1) (record { patterns = []; large = both; unread = [] })
large_says = (refl, refl, refl)

nothing_says : Says Nothing (written (codes "b") 0) (record { patterns = both; large = []; unread = [] })
nothing_says = refl
