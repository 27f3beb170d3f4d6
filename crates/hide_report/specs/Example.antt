-- The parts of a report, computed.
use Rattle.std.specs.Prelude.{ℕ, ◌≡◌, Bool, true, false, List, [], ◌∷◌, None, codes, refl}
use Rattle.std.specs.Fmt.{digits}
use Rattle.page_tree.specs.Forest.{element, text, empty, node, Tree}
use Rattle.page_tree.specs.Standings.{elements, standing}
use Rattle.selector_tree.specs.declared.filter.Action.{Action}
use Rattle.selector_tree.specs.declared.filter.Action.TheVariants.{Hide, Remove}
use Rattle.selector_tree.specs.declared.filter.Filter.{Filter}
use Rattle.selector_tree.specs.declared.filter.Taken.{Taken}
use Rattle.selector_spelling.specs.declared.finding.Kind.TheVariants as kind
use Rattle.selector_spelling.specs.declared.finding.Cause.TheVariants as cause
use Rattle.address_patterns.specs.declared.pattern.Begin.TheVariants.{Anywhere}
use Rattle.list_entries.specs.declared.notice.Notice.TheVariants.{SetAside, Malformed}
use Rattle.list_entries.specs.declared.entry.Entry.{Entry}
use Rattle.list_entries.specs.declared.entry.Entry.TheVariants as entry
use Rattle.list_entries.specs.declared.entry.ListRead.{ListRead}
use Rattle.dom_arena.specs.declared.refusals.DomError.TheVariants.{BadPlace}
use Rattle.mutation_script.specs.declared.mutation.BadLine.TheVariants.{UnknownWord}
use Rattle.mutation_script.specs.declared.answer.Answer.TheVariants.{Opened, Refused, Bad}
use Rattle.hide_report.specs.Answers.{answer_name}
use Rattle.hide_report.specs.Texts.{notices_text, head_text, places_text, step_text, brief_step_text, end_text, is_filter, is_exception, is_page_option, counts_text, drill_text}

-- notices: a name that is missing in line 2 of the first list, and `:hover` in its line 8

two_notices : notices_text 1 (Malformed 2 cause.BadName 2 ∷ SetAside 8 kind.State ∷ [])
    ≡ codes "note 1:2 malformed BadName 2\nnote 1:8 set-aside State\n"
unfolding digits
two_notices = refl

-- of the file of public suffix rules
suffix_notice : notices_text 0 (Malformed 3 cause.BadSuffix 0 ∷ []) ≡ codes "note 0:3 malformed BadSuffix 0\n"
unfolding digits
suffix_notice = refl

-- `div:empty:remove()` and `p`, on <div><div><div></div></div></div><p>t</p>: three elements go, one a round, and the last is hidden

abbrev filter_of : ℕ → Action → List ℕ → Filter
filter_of line action canonical = record { list = 1; line = line; selector = []; action = action; canonical = canonical }

abbrev active : List Filter
active = filter_of 1 Remove (codes "div:empty:remove()") ∷ filter_of 2 Hide (codes "p") ∷ []

abbrev address : List ℕ
address = codes "https://example.com/"

head : head_text address active false
    ≡ codes "page https://example.com/\nactive 2\nfilter 1:1 div:empty:remove()\nfilter 1:2 p\n"
unfolding digits
head = refl

brief_head : head_text address active true ≡ codes "page https://example.com/\nactive 2\n"
unfolding digits
brief_head = refl

abbrev page : Tree
page = record { nodes = node 4 (element (codes "p") []) (node 5 (text (codes "t")) empty empty) empty; next = 6 }

abbrev div_taken : ℕ → ℕ → Taken
div_taken round number = record { round = round; node = number; name = codes "div"; filters = 0 ∷ [] }

abbrev taken : List Taken
taken = div_taken 1 3 ∷ div_taken 2 2 ∷ div_taken 3 1 ∷ []

abbrev step_of : Bool → List ℕ
step_of brief = step_text 0 (answer_name Opened) page active taken ((4, 1 ∷ []) ∷ []) brief

step : step_of false
    ≡ codes "step 0 opened\ntaken 1 3 div 1:1\ntaken 2 2 div 1:1\ntaken 3 1 div 1:1\nhidden 1\n 4 p 1:2\n"
unfolding digits elements standing
step = refl

-- a brief step still has the elements that were taken out
brief_step : step_of true
    ≡ codes "step 0 opened\ntaken 1 3 div 1:1\ntaken 2 2 div 1:1\ntaken 3 1 div 1:1\nhidden 1\n"
unfolding digits
brief_step = refl

-- so it is by their number alone
counted_step : brief_step_text 0 (answer_name Opened) active taken 1 ≡ step_of true
unfolding digits
counted_step = refl

-- two filters of one element; a place past the last filter has no name
both_filters : places_text active (0 ∷ 1 ∷ 2 ∷ []) ≡ codes " 1:1 1:2\n"
unfolding digits
both_filters = refl

-- answers

refused_place : answer_name (Refused (BadPlace 5)) ≡ codes "refused BadPlace 5"
unfolding digits
refused_place = refl

bad_word : answer_name (Bad UnknownWord) ≡ codes "bad UnknownWord"
bad_word = refl

after_ten_lines : end_text 10 ≡ codes "end 10\n"
unfolding digits
after_ten_lines = refl

-- two lists, one with a filter and an exception, the other with a filter and a page option

abbrev a_filter : Entry
a_filter = entry.Filter (filter_of 1 Hide (codes "p")) (record { items = [] })

abbrev an_exception : Entry
an_exception = entry.Exception (codes "p") (record { items = [] })

abbrev a_page_option : Entry
a_page_option = entry.Page (record { begin = Anywhere; at_end = false; body = [] }) None (record { elem = true; generic = false; specific = false })

abbrev list_of : List Entry → ListRead
list_of entries = record { entries = entries; notices = [] }

counts : counts_text (list_of (a_filter ∷ an_exception ∷ []) ∷ list_of (a_page_option ∷ a_filter ∷ []) ∷ [])
    ≡ codes "read 2 filters 1 exceptions 1 options\n"
unfolding digits is_filter is_exception is_page_option
counts = refl

-- a drill of four blocks

drill : drill_text 4 18 4 2 1 false ≡ codes "drill 4 nodes 18 steps 4 hidden 2 taken 1\n"
unfolding digits
drill = refl

brief_drill : drill_text 4 18 4 2 1 true ≡ codes "drill 4 hidden 2\n"
unfolding digits
brief_drill = refl
