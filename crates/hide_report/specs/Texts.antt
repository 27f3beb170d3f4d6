-- The texts of a report. Every line ends with LF; a filter is named LIST:LINE.
use Rattle.std.specs.Prelude.{ℕ, Bool, true, false, List, [], ◌++◌, length, codes, slice_get, count_by, sum_by, Option, Some, None, if◌then◌else◌}
use Rattle.std.specs.List.{flat_map}
use Rattle.std.specs.Fmt.{decimal}
use Rattle.page_tree.specs.Forest.{Tree}
use Rattle.page_tree.specs.Standings.{name}
use Rattle.selector_tree.specs.declared.filter.Filter.{Filter}
use Rattle.selector_tree.specs.declared.filter.Taken.{Taken}
use Rattle.list_entries.specs.declared.notice.Notice.{Notice}
use Rattle.list_entries.specs.declared.notice.Notice.TheVariants.{SetAside, Malformed}
use Rattle.list_entries.specs.declared.entry.Entry.{Entry}
use Rattle.list_entries.specs.declared.entry.Entry.TheVariants as entry
use Rattle.list_entries.specs.declared.entry.ListRead.{ListRead}
use Rattle.hide_report.specs.Names.{kind_name, cause_name}

-- ---- notices

-- a list's number and the number of a line of it
abbrev pub place_name : ℕ → ℕ → List ℕ
place_name list line = decimal list ++ codes ":" ++ decimal line

-- a line that is set aside, with the name of its kind
abbrev pub aside_text : ℕ → ℕ → List ℕ → List ℕ
aside_text list line kind = codes "note " ++ place_name list line ++ codes " set-aside " ++ kind ++ codes "\n"

-- the place in a line
abbrev pub at_text : ℕ → List ℕ
at_text at = codes " " ++ decimal at ++ codes "\n"

-- a line that is malformed, with the name of its cause
abbrev pub cause_text : ℕ → ℕ → List ℕ → List ℕ
cause_text list line cause = codes "note " ++ place_name list line ++ codes " malformed " ++ cause

-- the same, with the place in the line
abbrev pub malformed_text : ℕ → ℕ → List ℕ → ℕ → List ℕ
malformed_text list line cause at = cause_text list line cause ++ at_text at

-- what is said of a line of a list
abbrev pub notice_text : ℕ → Notice → List ℕ
notice_text list (SetAside line kind) = aside_text list line (kind_name kind)
notice_text list (Malformed line cause at) = malformed_text list line (cause_name cause) at

-- what is said of the lines of a file: of the list of this number, or by 0 of the file of public suffix rules
abbrev pub notices_text : ℕ → List Notice → List ℕ
notices_text list notices = flat_map (notice_text list) notices

-- ---- the head

-- an active filter in its one spelling
abbrev pub filter_text : Filter → List ℕ
filter_text f = codes "filter " ++ place_name f.list f.line ++ codes " " ++ f.canonical ++ codes "\n"

-- the address of the page, and how many filters are active
abbrev pub count_text : List ℕ → ℕ → List ℕ
count_text address count = codes "page " ++ address ++ codes "\nactive " ++ decimal count ++ codes "\n"

-- lines that a brief report leaves out
abbrev pub unless_brief : Bool → List ℕ → List ℕ
unless_brief brief lines = if brief then [] else lines

-- the address of the page, and the active filters; of a brief report their number alone
abbrev pub head_text : List ℕ → List Filter → Bool → List ℕ
head_text address active brief = count_text address (length active) ++ unless_brief brief (flat_map filter_text active)

-- ---- steps

-- a space and the name of a filter; nothing past the last
abbrev pub spaced_name : Option Filter → List ℕ
spaced_name None = []
spaced_name (Some f) = codes " " ++ place_name f.list f.line

-- a space and the name of the active filter at a place
abbrev pub place_text : List Filter → ℕ → List ℕ
place_text active place = spaced_name (slice_get active place)

-- the filters that select an element, and the end of its line
abbrev pub places_text : List Filter → List ℕ → List ℕ
places_text active places = flat_map (place_text active) places ++ codes "\n"

-- a hidden element: its number, its name, and all filters that select it
abbrev pub row_text : Tree → List Filter → ℕ × List ℕ → List ℕ
row_text t active row = codes " " ++ decimal row.0 ++ codes " " ++ name t row.0 ++ places_text active row.1

-- an element that was taken out: its round, its number and name, and all filters that took it
abbrev pub taken_text : List Filter → Taken → List ℕ
taken_text active taken =
    codes "taken " ++ decimal taken.round ++ codes " " ++ decimal taken.node ++ codes " " ++ taken.name ++ places_text active taken.filters

-- the number of a step, and its answer
abbrev pub step_line : ℕ → List ℕ → List ℕ
step_line number answer = codes "step " ++ decimal number ++ codes " " ++ answer ++ codes "\n"

-- how many elements are hidden
abbrev pub hidden_line : ℕ → List ℕ
hidden_line count = codes "hidden " ++ decimal count ++ codes "\n"

-- the hidden elements; of a brief report their number alone
abbrev pub hidden_text : Tree → List Filter → List (ℕ × List ℕ) → Bool → List ℕ
hidden_text t active rows brief = hidden_line (length rows) ++ unless_brief brief (flat_map (row_text t active) rows)

-- a step, with the elements taken out since the one before, and the hidden elements
abbrev pub step_text : ℕ → List ℕ → Tree → List Filter → List Taken → List (ℕ × List ℕ) → Bool → List ℕ
step_text number answer t active taken rows brief =
    step_line number answer ++ flat_map (taken_text active) taken ++ hidden_text t active rows brief

-- a brief step, by the number of the hidden elements alone
abbrev pub brief_step_text : ℕ → List ℕ → List Filter → List Taken → ℕ → List ℕ
brief_step_text number answer active taken count = step_line number answer ++ flat_map (taken_text active) taken ++ hidden_line count

-- the end of the report, with the number of lines of the script
abbrev pub end_text : ℕ → List ℕ
end_text lines = codes "end " ++ decimal lines ++ codes "\n"

-- ---- what lists have

unfoldable pub is_filter : Entry → Bool
is_filter (entry.Filter filter scope) = true
is_filter _ = false

unfoldable pub is_exception : Entry → Bool
is_exception (entry.Exception canonical scope) = true
is_exception _ = false

unfoldable pub is_page_option : Entry → Bool
is_page_option (entry.Page pattern domain options) = true
is_page_option _ = false

-- how many entries of all lists are of a kind
abbrev pub count_of : (Entry → Bool) → List ListRead → ℕ
count_of is_kind lists = sum_by (λ list. count_by is_kind list.entries) lists

abbrev pub filters_text : ℕ → List ℕ
filters_text count = codes "read " ++ decimal count ++ codes " filters "

abbrev pub exceptions_text : ℕ → List ℕ
exceptions_text count = decimal count ++ codes " exceptions "

abbrev pub options_text : ℕ → List ℕ
options_text count = decimal count ++ codes " options\n"

-- how many filters, exceptions and page options the lists have together
abbrev pub counts_text : List ListRead → List ℕ
counts_text lists =
    filters_text (count_of is_filter lists) ++ exceptions_text (count_of is_exception lists) ++ options_text (count_of is_page_option lists)

-- ---- the drill

abbrev pub size_text : ℕ → List ℕ
size_text number = codes "drill " ++ decimal number

abbrev pub made_text : ℕ → ℕ → List ℕ
made_text nodes steps = codes " nodes " ++ decimal nodes ++ codes " steps " ++ decimal steps

abbrev pub still_hidden_text : ℕ → List ℕ
still_hidden_text count = codes " hidden " ++ decimal count

abbrev pub all_taken_text : ℕ → List ℕ
all_taken_text count = codes " taken " ++ decimal count

-- the line of a drill of this size: the nodes without the document, the lines of the script, the hidden elements at the end, and
-- all elements that were taken out; of a brief one the hidden elements alone
abbrev pub drill_text : ℕ → ℕ → ℕ → ℕ → ℕ → Bool → List ℕ
drill_text number nodes steps hidden taken brief =
    size_text number ++ unless_brief brief (made_text nodes steps) ++ still_hidden_text hidden
    ++ unless_brief brief (all_taken_text taken) ++ codes "\n"
