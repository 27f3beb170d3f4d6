-- What a line of a filter list is by its bytes, before its hosts and its selector are read (uBlock Origin wiki, "Static filter
-- syntax"). The first rule that fits decides.
use Rattle.std.specs.Prelude.{ℕ, ◌==◌, ◌+◌, ◌-◌, ◌&&◌, ◌||◌, Bool, not, nat_le, nat_lt, List, [], ◌∷◌, codes, length, take, drop, slice_index, Option, Some, None, if◌then◌else◌}
use Rattle.std.specs.Char.{is_ascii_alphabetic}
use Rattle.std.specs.List.{list_any}
use Rattle.std.specs.Str.{is_utf8, bytes_eq}
use Rattle.std.specs.Str.Lossy.{utf8_valid_len}
use Rattle.address_patterns.specs.declared.options.HideOptions.{HideOptions}
use Rattle.cos_source.specs.Classes.{front, is_in, past_front}
use Rattle.cos_source.specs.declared.classes.Class.TheVariants.{Letter}
use Rattle.cos_source.specs.Parts.{parts, placed}
use Rattle.cos_source.specs.Spaces.{space_count, trimmed}
use Rattle.selector_spelling.specs.declared.finding.Kind.{Kind}
use Rattle.selector_spelling.specs.declared.finding.Kind.TheVariants as kind
use Rattle.selector_spelling.specs.declared.finding.Cause.TheVariants as cause
use Rattle.selector_spelling.specs.declared.finding.Finding.{Finding}
use Rattle.selector_spelling.specs.declared.finding.Finding.TheVariants.{SetAside, Malformed}
use Rattle.list_lines.specs.declared.TheConstants.{LINE_LIMIT}
use Rattle.list_lines.specs.declared.separator.Separator.{Separator}
use Rattle.list_lines.specs.Options.{Besides, silent, hosts, unread, besides, hide_options, hides_some}
use Rattle.list_lines.specs.Separators.{begins_with, first_separator}

pub data DirectiveMeaning : Type 0 where
  opens : (condition : List ℕ) → DirectiveMeaning
  divides : DirectiveMeaning
  closes : DirectiveMeaning
  includes : DirectiveMeaning

-- What a line is. A part of it stands with the place where it begins in the line.
pub data LineMeaning : Type 0 where
  nothing : LineMeaning
  directive : (at : ℕ) → DirectiveMeaning → LineMeaning
  hides : (exception : Bool) → (hosts : ℕ × List ℕ) → (selector : ℕ × List ℕ) → LineMeaning
  switches : (pattern : List ℕ) → HideOptions → (domain : Option (ℕ × List ℕ)) → LineMeaning
  noted : Finding → LineMeaning

abbrev pub aside : Kind → LineMeaning
aside k = noted (SetAside k)

abbrev pub ends_with : ℕ → List ℕ → Bool
ends_with b text = slice_index text (length text - 1) == b

abbrev pub holds : ℕ → List ℕ → Bool
holds b text = list_any (λ c. c == b) text

-- ---- directives and comments

-- by the letters behind `!#`, and what stands behind these
abbrev pub directive_named : List ℕ → List ℕ → Option DirectiveMeaning
directive_named word rest =
    if bytes_eq word (codes "if") then Some (opens rest)
    else if bytes_eq word (codes "else") then Some divides
    else if bytes_eq word (codes "endif") then Some closes
    else if bytes_eq word (codes "include") then Some includes
    else None

abbrev pub directive_of : List ℕ → Option DirectiveMeaning
directive_of text =
    if begins_with (codes "!#") text then directive_named (front (is_in Letter) (drop 2 text)) (past_front (is_in Letter) (drop 2 text))
    else None

-- a line that begins with `!` is a directive or a comment
abbrev pub directive_line : ℕ → Option DirectiveMeaning → LineMeaning
directive_line at (Some d) = directive at d
directive_line at None = nothing

abbrev pub is_header : List ℕ → Bool
is_header text = begins_with (codes "[") text && is_ascii_alphabetic (slice_index text 1) && ends_with 93 text

-- `#` alone, or before a space or tab
abbrev pub is_lone_hash : List ℕ → Bool
is_lone_hash text = bytes_eq text (codes "#") || begins_with (codes "# ") text || begins_with (35 ∷ 9 ∷ []) text

-- ---- lines with a separator

-- hosts between slashes
abbrev pub is_regex : List ℕ → Bool
is_regex text = (begins_with (codes "/") text || begins_with (codes "~/") text) && ends_with 47 text

-- one of `| ^ $ = ? &`, which no host has
abbrev pub is_network_sign : ℕ → Bool
is_network_sign b = b == 124 || b == 94 || b == 36 || b == 61 || b == 63 || b == 38

-- the hosts with their place, and what stands behind the separator with its place, trimmed
abbrev pub body_line : Separator → ℕ × List ℕ → ℕ × List ℕ → LineMeaning
body_line s named body =
    if s.foreign then aside kind.Snippet
    else if begins_with (codes "+js(") body.1 then aside kind.Scriptlet
    else if begins_with (codes "^") body.1 then aside kind.HtmlFilter
    else hides s.exception named body

-- the same by the hosts, which begin at the place `at`
abbrev pub hide_line : ℕ → List ℕ → Separator → ℕ × List ℕ → LineMeaning
hide_line at named s body =
    if holds 47 named then aside (if is_regex (trimmed named) then kind.RegexHost else kind.Network)
    else if list_any is_network_sign named then aside kind.Network
    else body_line s (at, named) body

-- a part of a line, which begins at that place, without the white space at its ends
abbrev pub trimmed_part : ℕ → List ℕ → ℕ × List ℕ
trimmed_part at text = (at + space_count text, trimmed text)

-- ---- page options, and all other lines

-- the place of the last byte that is `b`
abbrev pub or_here : Bool → Option ℕ → ℕ → Option ℕ
or_here here (Some place) at = Some place
or_here here None at = if here then Some at else None

abbrev pub last_place : ℕ → ℕ → List ℕ → Option ℕ
last_place b at [] = None
last_place b at (c ∷ text) = or_here (c == b) (last_place b (at + 1) text) at

abbrev pub is_regex_address : List ℕ → Bool
is_regex_address pattern = nat_le 2 (length pattern) && begins_with (codes "/") pattern && ends_with 47 pattern

abbrev pub switches_by : List ℕ → HideOptions → Option (ℕ × List ℕ) → LineMeaning
switches_by pattern options domain = if is_regex_address pattern then aside kind.RegexAddress else switches pattern options domain

-- by what the options say besides those that hide; they begin at the place `at` of the line
abbrev pub switch_line : ℕ → List ℕ → HideOptions → Besides → LineMeaning
switch_line at pattern options unread = aside kind.Option
switch_line at pattern options silent = switches_by pattern options None
switch_line at pattern options (hosts place text) = switches_by pattern options (Some (at + place, text))

abbrev pub option_line : ℕ → List ℕ → List (ℕ × List ℕ) → LineMeaning
option_line at pattern options =
    if hides_some (hide_options options) then switch_line at pattern (hide_options options) (besides options) else aside kind.Network

-- what stands behind `@@`, from the place `at` of the line on, by the place of its last `$`
abbrev pub dollar_line : ℕ → List ℕ → Option ℕ → LineMeaning
dollar_line at text None = aside kind.Network
dollar_line at text (Some n) =
    option_line (at + n + 1) (take n text) (placed 0 (parts 44 (drop (n + 1) text)))

abbrev pub network_line : ℕ → List ℕ → LineMeaning
network_line at text =
    if begins_with (codes "@@") text then dollar_line (at + 2) (drop 2 text) (last_place 36 0 (drop 2 text)) else aside kind.Network

-- a line by its first separator
abbrev pub separated_line : ℕ → List ℕ → Option (ℕ × Separator) → LineMeaning
separated_line at text None = network_line at text
separated_line at text (Some (n, s)) =
    hide_line at (take n text) s (trimmed_part (at + n + s.size) (drop (n + s.size) text))

-- ---- lines

-- a trimmed line that begins at the place `at`
abbrev pub trimmed_line : ℕ → List ℕ → LineMeaning
trimmed_line at text =
    if length text == 0 then nothing
    else if begins_with (codes "!") text then directive_line at (directive_of text)
    else if is_header text then nothing
    else if begins_with (codes "[$") text then aside kind.Modifier
    else if is_lone_hash text then nothing
    else separated_line at text (first_separator 0 text)

-- a line: it has at most 65,536 bytes before it is trimmed, and is UTF-8
abbrev pub line_of : List ℕ → LineMeaning
line_of line =
    if nat_lt LINE_LIMIT (length line) then noted (Malformed cause.LineTooLong LINE_LIMIT)
    else if not (is_utf8 line) then noted (Malformed cause.NotUtf8 (utf8_valid_len line))
    else trimmed_line (space_count line) (trimmed line)
