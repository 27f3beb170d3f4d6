-- The place in an answer of the reader of selectors is within its text.
use Rattle.std.proofs.Common.{◌≡◌, ℕ, ◌≤◌, false, List, [], length, Result, Ok, Err, subst, sym, arith}
use Rattle.cos_patterns.specs.declared.written.Asked.{Asked}
use Rattle.cos_patterns.specs.declared.written.Written.{Written}
use Rattle.selector_spelling.specs.declared.finding.Finding.{Finding}
use Rattle.selector_spelling.specs.declared.finding.Finding.TheVariants as finding
use Rattle.selector_spelling.specs.declared.reading.Chains.{Chains}
use Rattle.selector_spelling.specs.Bytes.{Bytes}
use Rattle.selector_spelling.specs.Texts.{read_text}
use Rattle.selector_parser.specs.declared.read.Read.{Read}
use Rattle.selector_parser.specs.declared.read.Read.TheVariants.{Filter, SetAside, Malformed}
use Rattle.selector_parser.specs.Answers.{answer_by}
use Rattle.selector_parser.specs.Readings.{PlaceBy, reading, read_by, unnumbered_read}
use Rattle.selector_parser.proofs.Walk.{By, IsChains, text_read}

reading_by : (n : ℕ) (r : Result Chains Finding) → By [] n (IsChains [] n false) r → PlaceBy n (reading r)
reading_by n (Ok l) h = tt
reading_by n (Err (finding.SetAside kind)) h = tt
reading_by n (Err (finding.Malformed cause at)) h = h

numbered_by : (n : ℕ) (read : Read) → PlaceBy n (unnumbered_read read) → PlaceBy n read
numbered_by n (Filter selector action) h = tt
numbered_by n (SetAside kind) h = tt
numbered_by n (Malformed cause at) h = h

pub place_by : (n : ℕ) (large : List Asked) (unread : List Written) (text : Bytes) (read : Read) → unnumbered_read read ≡ read_by large unread text → length text ≤ n → PlaceBy n read
place_by n large unread text read e h =
    numbered_by n read (subst (PlaceBy n) (sym e) (reading_by n (read_text (answer_by large unread) text) (text_read [] n (answer_by large unread) text h)))

-- a place by one limit is one by each greater limit
pub place_less : (limit n : ℕ) (read : Read) → n ≤ limit → PlaceBy n read → PlaceBy limit read
place_less limit n (Filter selector action) more h = tt
place_less limit n (SetAside kind) more h = tt
place_less limit n (Malformed cause at) more h = omega arith
