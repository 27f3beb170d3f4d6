-- What a text is read as: a selector with its action, the kind that it is set aside for, or its cause and place.
use Rattle.std.specs.Prelude.{◌≡◌, ℕ, ◌≤◌, true, List, Result, Ok, Err}
use Rattle.cos_patterns.specs.declared.written.Asked.{Asked}
use Rattle.cos_patterns.specs.declared.written.Written.{Written}
use Rattle.proper_filters.specs.Proper.{is_proper}
use Rattle.proper_filters.specs.Degrees.{have_degrees}
use Rattle.selector_tree.specs.Unnumbered.{unnumbered}
use Rattle.selector_spelling.specs.declared.finding.Finding.{Finding}
use Rattle.selector_spelling.specs.declared.finding.Finding.TheVariants as finding
use Rattle.selector_spelling.specs.declared.reading.Chains.{Chains}
use Rattle.selector_spelling.specs.Bytes.{Bytes}
use Rattle.selector_spelling.specs.Texts.{read_text, action_of}
use Rattle.selector_parser.specs.declared.read.Read.{Read}
use Rattle.selector_parser.specs.declared.read.Read.TheVariants.{Filter, SetAside, Malformed}
use Rattle.selector_parser.specs.Answers.{answer_by}
use Rattle.selector_parser.specs.Numbered.{numbered}

abbrev pub reading : Result Chains Finding → Read
reading (Ok l) = Filter l.chains (action_of l.notes.removes)
reading (Err (finding.SetAside kind)) = SetAside kind
reading (Err (finding.Malformed cause at)) = Malformed cause at

-- what a text is read as under a maker's lists of what it refused, with 0 for the number of each pattern
abbrev pub read_by : List Asked → List Written → Bytes → Read
read_by large unread text = reading (read_text (answer_by large unread) text)

-- the same without the numbers of patterns
abbrev pub unnumbered_read : Read → Read
unnumbered_read (Filter selector action) = Filter (unnumbered selector) action
unnumbered_read (SetAside kind) = SetAside kind
unnumbered_read (Malformed cause at) = Malformed cause at

-- the same with the numbers that patterns have in a table
abbrev pub numbered_read : List Written → Read → Read
numbered_read patterns (Filter selector action) = Filter (numbered patterns selector) action
numbered_read patterns (SetAside kind) = SetAside kind
numbered_read patterns (Malformed cause at) = Malformed cause at

-- the place of what makes a text malformed is this one at most
abbrev pub PlaceBy : ℕ → Read → Type 0
PlaceBy limit (Filter selector action) = Unit {0}
PlaceBy limit (SetAside kind) = Unit {0}
PlaceBy limit (Malformed cause at) = at ≤ limit

-- a filter that is read is proper: `:others()` stands in its own chains alone, each `:upward(n)` has a number of at least 1,
-- and each pattern stands in the table under its number
abbrev pub IsProperRead : List Written → Read → Type 0
IsProperRead patterns (Filter selector action) = (is_proper patterns selector ≡ true) × (have_degrees selector ≡ true)
IsProperRead patterns (SetAside kind) = Unit {0}
IsProperRead patterns (Malformed cause at) = Unit {0}
