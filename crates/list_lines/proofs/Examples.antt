-- Lines, conditions and parts, computed.
use Rattle.std.proofs.Common.{◌≡◌, Bool, true, false, [], ◌∷◌, Some, None, refl}
use Rattle.std.specs.Prelude.{codes}
use Rattle.std.specs.Str.{is_utf8, chars}
use Rattle.std.specs.Str.Lossy.{utf8_valid_len}
use Rattle.selector_spelling.specs.declared.finding.Kind.TheVariants.{Modifier, RegexHost, Network}
use Rattle.selector_spelling.specs.declared.finding.Cause.TheVariants.{NotUtf8}
use Rattle.selector_spelling.specs.declared.finding.Finding.TheVariants.{Malformed}
use Rattle.list_lines.specs.Conditions.{condition_of}
use Rattle.list_lines.specs.Lines.{nothing, directive, hides, switches, noted, aside, line_of, opens as if_of}
use Rattle.list_lines.specs.Parts.{Part, opens, divides, closes, plain, are_live, parts_over}

-- ---- lines

header : line_of (codes "[a]##[b]") ≡ nothing
unfolding is_utf8 chars lib.Utf8.encode
header = refl

modifier : line_of (codes "[$path=/a]##b") ≡ aside Modifier
unfolding is_utf8 chars lib.Utf8.encode
modifier = refl

opened : line_of (codes " !#if(x)") ≡ directive 1 (if_of (codes "(x)"))
unfolding is_utf8 chars lib.Utf8.encode
opened = refl

exception : line_of (codes "a.com ,b#@# .c ") ≡ hides true (0, codes "a.com ,b") (12, codes ".c")
unfolding is_utf8 chars lib.Utf8.encode
exception = refl

first_separator_decides : line_of (codes "a##b#@#c") ≡ hides false (0, codes "a") (3, codes "b#@#c")
unfolding is_utf8 chars lib.Utf8.encode
first_separator_decides = refl

one_slash : line_of (codes "/ ##a") ≡ aside RegexHost
unfolding is_utf8 chars lib.Utf8.encode
one_slash = refl

page : line_of (codes "@@a$b$ghide,domain=c") ≡ switches (codes "a$b") (record { elem = false; generic = true; specific = false }) (Some (19, codes "c"))
unfolding is_utf8 chars lib.Utf8.encode
page = refl

capital : line_of (codes "@@a$Ghide") ≡ aside Network
unfolding is_utf8 chars lib.Utf8.encode
capital = refl

not_text : line_of (97 ∷ 255 ∷ []) ≡ noted (Malformed NotUtf8 1)
unfolding is_utf8 chars lib.Utf8.encode utf8_valid_len
not_text = refl

-- ---- conditions

holds : condition_of [] (codes " ext_ublock && !env_mobile") ≡ Some true
holds = refl

given : condition_of (codes "env_mobile" ∷ []) (codes " ext_ublock && !env_mobile") ≡ Some false
given = refl

nested : condition_of [] (codes "!(x||(y)) && ! ! ext_ublock") ≡ Some true
nested = refl

a_name_is_missing : condition_of [] (codes "ext_ublock || ") ≡ None
a_name_is_missing = refl

not_matched : condition_of [] (codes "(x") ≡ None
not_matched = refl

-- ---- parts

abbrev part : Bool → Bool → Part
part condition divided = record { condition = condition; divided = divided }

-- innermost first; the `else` belongs to the outer one
in_two : parts_over (opens false ∷ divides ∷ plain ∷ opens true ∷ []) ≡ part true false ∷ part false true ∷ []
in_two = refl

-- behind an inner part with its `else`
inner_is_closed : parts_over (opens true ∷ opens false ∷ divides ∷ closes ∷ []) ≡ part true false ∷ []
inner_is_closed = refl

all_closed : parts_over (opens true ∷ closes ∷ closes ∷ divides ∷ []) ≡ []
all_closed = refl

live_behind_else : are_live (parts_over (opens false ∷ divides ∷ opens true ∷ [])) ≡ true
live_behind_else = refl

dead_inside : are_live (parts_over (opens false ∷ opens true ∷ [])) ≡ false
dead_inside = refl
