-- The entries and the notices of a list (uBlock Origin wiki, "Static filter syntax").
use Rattle.std.specs.Prelude.{◌≡◌, ℕ, ◌+◌, Bool, true, false, List, [], ◌∷◌, ◌++◌, not, map, Option, Some, None, unwrap_or, if◌then◌else◌}
use Rattle.cos_patterns.specs.declared.written.Asked.{Asked}
use Rattle.cos_patterns.specs.declared.written.Written.{Written}
use Rattle.address_patterns.specs.declared.options.HideOptions.{HideOptions}
use Rattle.address_patterns.specs.Patterns.{pattern_of}
use Rattle.filter_scope.specs.declared.scope.Scope.{Scope}
use Rattle.filter_scope.specs.declared.scope.ScopeRead.{ScopeRead}
use Rattle.filter_scope.specs.declared.scope.ScopeRead.TheVariants as scope_read
use Rattle.filter_scope.specs.Scopes.{scope_of}
use Rattle.list_entries.specs.declared.entry.Entry.{Entry}
use Rattle.list_entries.specs.declared.entry.Entry.TheVariants as entry
use Rattle.list_entries.specs.declared.notice.Notice.{Notice}
use Rattle.list_entries.specs.declared.notice.Notice.TheVariants as notice
use Rattle.list_reader.specs.declared.entries.Given.{Given}
use Rattle.list_reader.specs.declared.entries.Given.TheVariants.{Nothing, Gives, Said}
use Rattle.list_lines.specs.Conditions.{condition_of}
use Rattle.list_lines.specs.Lines.{DirectiveMeaning, opens, divides, closes, includes, LineMeaning, nothing, directive, hides, switches, noted, line_of}
use Rattle.list_lines.specs.Parts.{Part, Sign, parts_over, are_live, are_some, is_unclosed, takes_else}
use Rattle.list_lines.specs.Parts as sign
use Rattle.proper_filters.specs.Degrees.{have_degrees}
use Rattle.proper_filters.specs.Proper.{is_proper}
use Rattle.selector_parser.specs.declared.read.Read.{Read}
use Rattle.selector_parser.specs.declared.read.Read.TheVariants as read
use Rattle.selector_parser.specs.Readings.{read_by}
use Rattle.selector_spelling.specs.declared.finding.Kind.TheVariants as kind
use Rattle.selector_spelling.specs.declared.finding.Cause.TheVariants as cause
use Rattle.selector_spelling.specs.declared.finding.Finding.{Finding}
use Rattle.selector_spelling.specs.declared.finding.Finding.TheVariants.{SetAside, Malformed}
use Rattle.selector_tree.specs.Canonical.{canonical_text}
use Rattle.selector_tree.specs.Unnumbered.{unnumbered}
use Rattle.selector_tree.specs.declared.filter.Action.{Action}
use Rattle.selector_tree.specs.declared.filter.Filter.{Filter}
use Rattle.selector_tree.specs.declared.selector.Step.{Step}

-- ---- entries

abbrev pub filter_of : ℕ → ℕ → List (List Step) → Action → Filter
filter_of list line selector action = record {
  list = list;
  line = line;
  selector = selector;
  action = action;
  canonical = canonical_text selector action;
}

-- a selector with its action, as a filter or an exception
abbrev pub entry_of : Bool → ℕ → ℕ → Scope → List (List Step) → Action → Entry
entry_of true list line scope selector action = entry.Exception (canonical_text selector action) scope
entry_of false list line scope selector action = entry.Filter (filter_of list line selector action) scope

-- an entry without the numbers of its patterns
abbrev pub unnumbered_entry : Entry → Entry
unnumbered_entry (entry.Filter filter scope) = entry.Filter (record filter { selector = unnumbered filter.selector }) scope
unnumbered_entry (entry.Exception canonical scope) = entry.Exception canonical scope
unnumbered_entry (entry.Page pattern domain options) = entry.Page pattern domain options

-- the same of what a line gives
abbrev pub unnumbered_given : Given → Given
unnumbered_given Nothing = Nothing
unnumbered_given (Gives e) = Gives (unnumbered_entry e)
unnumbered_given (Said finding) = Said finding

-- ---- what a live line gives

abbrev pub bad_host : ℕ → ℕ → Given
bad_host at place = Said (Malformed cause.BadHost (at + place))

-- what was read of a selector that stands at the place `at`
abbrev pub by_read : Bool → ℕ → ℕ → Scope → ℕ → Read → Given
by_read exception list line scope at (read.Filter selector action) = Gives (entry_of exception list line scope selector action)
by_read exception list line scope at (read.SetAside k) = Said (SetAside k)
by_read exception list line scope at (read.Malformed c place) = Said (Malformed c (at + place))

abbrev pub page_entry : List ℕ → HideOptions → Option Scope → Given
page_entry pattern options domain = Gives (entry.Page (pattern_of pattern) domain options)

abbrev pub page_hosts : List ℕ → HideOptions → ℕ → ScopeRead → Given
page_hosts pattern options at (scope_read.BadHost place) = bad_host at place
page_hosts pattern options at (scope_read.Scope scope) = page_entry pattern options (Some scope)

abbrev pub page_line : List ℕ → HideOptions → Option (ℕ × List ℕ) → Given
page_line pattern options None = page_entry pattern options None
page_line pattern options (Some hosts) = page_hosts pattern options hosts.0 (scope_of 124 hosts.1)

module _ (large : List Asked) (unread : List Written) (list : ℕ) where
  -- the selector is read where all hosts before it are hosts
  abbrev pub hide_line : ℕ → Bool → ℕ → ScopeRead → ℕ × List ℕ → Given
  hide_line line exception at (scope_read.BadHost place) selector = bad_host at place
  hide_line line exception at (scope_read.Scope scope) selector =
      by_read exception list line scope selector.0 (read_by large unread selector.1)

  -- a line that is no directive
  abbrev pub live_line : ℕ → LineMeaning → Given
  live_line line nothing = Nothing
  live_line line (directive at d) = Nothing
  live_line line (hides exception hosts selector) = hide_line line exception hosts.0 (scope_of 44 hosts.1) selector
  live_line line (switches pattern options domain) = page_line pattern options domain
  live_line line (noted finding) = Said finding

-- ---- directives

-- a condition that isn't read is false
abbrev pub directive_sign : List (List ℕ) → DirectiveMeaning → Sign
directive_sign names (opens condition) = sign.opens (unwrap_or (condition_of names condition) false)
directive_sign names divides = sign.divides
directive_sign names closes = sign.closes
directive_sign names includes = sign.plain

-- what a line does to parts
abbrev pub sign_of : List (List ℕ) → LineMeaning → Sign
sign_of names nothing = sign.plain
sign_of names (directive at d) = directive_sign names d
sign_of names (hides exception hosts selector) = sign.plain
sign_of names (switches pattern options domain) = sign.plain
sign_of names (noted finding) = sign.plain

abbrev pub signs_of : List (List ℕ) → List (ℕ × List ℕ) → List Sign
signs_of names lines = map (λ line. sign_of names (line_of line.1)) lines

abbrev pub say_unless : Bool → Finding → Given
say_unless fine finding = if fine then Nothing else Said finding

-- an `if` by its condition, where that is read, and by whether it has no `endif`
abbrev pub if_line : ℕ → Option Bool → Bool → Given
if_line at None unclosed = Said (Malformed cause.BadCondition at)
if_line at (Some condition) unclosed = say_unless (not unclosed) (Malformed cause.UnclosedIf at)

abbrev pub if_live : List Part → Given → Given
if_live parts g = if are_live parts then g else Nothing

-- A directive, by the parts that hold it, and by whether an `if` has no `endif`. Those at fault are noted on dead lines too.
abbrev pub directive_line : List (List ℕ) → List Part → Bool → ℕ → DirectiveMeaning → Given
directive_line names parts unclosed at (opens condition) = if_line at (condition_of names condition) unclosed
directive_line names parts unclosed at divides = say_unless (takes_else parts) (Malformed cause.StrayElse at)
directive_line names parts unclosed at closes = say_unless (are_some parts) (Malformed cause.StrayEndif at)
directive_line names parts unclosed at includes = if_live parts (Said (SetAside kind.Include))

abbrev pub notice_of : ℕ → Finding → Notice
notice_of line (SetAside k) = notice.SetAside line k
notice_of line (Malformed c at) = notice.Malformed line c at

abbrev pub with_entry : Given → List Entry → List Entry
with_entry Nothing entries = entries
with_entry (Gives e) entries = e ∷ entries
with_entry (Said finding) entries = entries

abbrev pub with_notice : ℕ → Given → List Notice → List Notice
with_notice line Nothing notices = notices
with_notice line (Gives e) notices = notices
with_notice line (Said finding) notices = notice_of line finding ∷ notices

-- the entries and the notices of what numbered lines give, in order
abbrev pub entries_of : List (ℕ × Given) → List Entry
entries_of [] = []
entries_of (g ∷ gives) = with_entry g.1 (entries_of gives)

abbrev pub notices_of : List (ℕ × Given) → List Notice
notices_of [] = []
notices_of (g ∷ gives) = with_notice g.0 g.1 (notices_of gives)

module _ (names : List (List ℕ)) (large : List Asked) (unread : List Written) (list : ℕ) where
  -- What a line gives, by the parts that hold it and the directives behind it. All but directives at fault comes from live lines.
  abbrev pub line_gives : List Part → List Sign → ℕ → LineMeaning → Given
  line_gives parts behind line (directive at d) = directive_line names parts (is_unclosed behind) at d
  line_gives parts behind line nothing = if_live parts (live_line large unread list line nothing)
  line_gives parts behind line (hides exception hosts selector) = if_live parts (live_line large unread list line (hides exception hosts selector))
  line_gives parts behind line (switches pattern options domain) = if_live parts (live_line large unread list line (switches pattern options domain))
  line_gives parts behind line (noted finding) = if_live parts (live_line large unread list line (noted finding))

  -- what numbered lines give behind lines that do this to parts; each pattern has the number 0
  abbrev pub gives_from : List Sign → List (ℕ × List ℕ) → List (ℕ × Given)
  gives_from before [] = []
  gives_from before (line ∷ lines) =
      (line.0, line_gives (parts_over before) (signs_of names lines) line.0 (line_of line.1))
      ∷ gives_from (before ++ sign_of names (line_of line.1) ∷ []) lines

  -- the entries and the notices of a list
  abbrev pub entries_in : List (ℕ × List ℕ) → List Entry
  entries_in lines = entries_of (gives_from [] lines)

  abbrev pub notices_in : List (ℕ × List ℕ) → List Notice
  notices_in lines = notices_of (gives_from [] lines)

-- ---- what may be asked

-- the filter may be asked, over a table of these patterns, and each `:upward(n)` in it has a number of at least 1
abbrev pub IsProperEntry : List Written → Entry → Type 0
IsProperEntry patterns (entry.Filter filter scope) = (is_proper patterns filter.selector ≡ true) × (have_degrees filter.selector ≡ true)
IsProperEntry patterns (entry.Exception canonical scope) = Unit {0}
IsProperEntry patterns (entry.Page pattern domain options) = Unit {0}

-- the same of what a line gives
abbrev pub IsProperGiven : List Written → Given → Type 0
IsProperGiven patterns Nothing = Unit {0}
IsProperGiven patterns (Gives e) = IsProperEntry patterns e
IsProperGiven patterns (Said finding) = Unit {0}
