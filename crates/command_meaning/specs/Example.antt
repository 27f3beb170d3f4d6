-- What comes of commands, computed. The page is `P`, its list `L` and its script `S`.
use Rattle.std.specs.Prelude.{ℕ, zero, suc, ◌≡◌, false, List, [], ◌∷◌, Some, None, Err, codes, refl, if◌then◌else◌}
use Rattle.std.specs.Fmt.{digits}
use Rattle.std.specs.Str.{bytes_eq, chars, is_utf8}
use Rattle.command_words.specs.declared.command.Command.TheVariants as command
use Rattle.command_inputs.specs.declared.status.Status.TheVariants.{ReadFault, Refused, Usage}
use Rattle.command_inputs.specs.declared.status.InputRefusal.TheVariants.{TooManyLists}
use Rattle.command_inputs.specs.Due.{Files}
use Rattle.hide_report.specs.Texts.{is_exception, is_filter, is_page_option}
use Rattle.command_meaning.specs.Output.{command_due, due, output_of, texts_of}

abbrev files : List ℕ → List ℕ → List ℕ → Files
files list page script name =
    if bytes_eq name (codes "L") then Some list else if bytes_eq name (codes "P") then Some page
    else if bytes_eq name (codes "S") then Some script else None

-- what `lists L` writes
abbrev lists_output : List ℕ → List ℕ
lists_output list = output_of (Some (command.Lists (record { suffixes = None; env = []; lists = codes "L" ∷ [] }))) (files list [] []) [] []

-- words that say no command write nothing
usage : output_of None (files [] [] []) [] [] ≡ []
unfolding texts_of
usage = refl

usage_due : due None (files [] [] []) ≡ Usage
usage_due = refl

-- a file that is missing
missing : due (Some (command.Lists (record { suffixes = Some (codes "R"); env = []; lists = codes "L" ∷ [] }))) (files [] [] []) ≡ ReadFault
missing = refl

-- and none is begun behind it
begun_before : (command_due (Some (command.Lists (record { suffixes = None; env = []; lists = codes "L" ∷ codes "M" ∷ codes "L" ∷ [] }))) (files [] [] [])).begun
    ≡ codes "L" ∷ codes "M" ∷ []
begun_before = refl

-- kinds and causes
noted : lists_output (codes "##\n##.\n##a:has(\n##a:foo()\n##p\n##a:remove() b\n##a:hover\n~*##a\n")
    ≡ codes "note 1:1 malformed EmptyPart 2\nnote 1:2 malformed BadName 2\nnote 1:3 malformed Unbalanced 7\nnote 1:4 malformed UnknownPseudo 3\nnote 1:6 malformed ActionNotLast 3\nnote 1:7 set-aside State\nnote 1:8 malformed BadHost 0\nread 1 filters 0 exceptions 0 options\n"
unfolding texts_of digits is_utf8 chars lib.Utf8.encode is_filter is_exception is_page_option
noted = refl

-- a part that is left out, and an `endif` too many
conditions : lists_output (codes "!#if ext_ublock && !env_mobile\n##.a\n!#else\n##.b\n!#endif\n!#endif\n")
    ≡ codes "note 1:6 malformed StrayEndif 0\nread 1 filters 0 exceptions 0 options\n"
unfolding texts_of digits is_utf8 chars lib.Utf8.encode is_filter is_exception is_page_option
conditions = refl

abbrev lists_named : ℕ → List (List ℕ)
lists_named zero = []
lists_named (suc n) = codes "L" ∷ lists_named n

-- one list too many: none is begun
too_many : command_due (Some (command.Lists (record { suffixes = None; env = []; lists = lists_named 33 }))) (files [] [] [])
    ≡ record { begun = []; answer = Err (Refused TooManyLists) }
too_many = refl
