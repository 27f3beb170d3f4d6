-- What a maker's lists and the grammar of patterns say of a pattern.
use Rattle.std.specs.Prelude.{ℕ, ◌||◌, not, List, if◌then◌else◌}
use Rattle.cos_patterns.specs.declared.written.Asked.{Asked}
use Rattle.cos_patterns.specs.declared.written.Written.{Written}
use Rattle.cos_patterns.specs.Found.{is_read}
use Rattle.cos_patterns.specs.Tables.{patterns_in}
use Rattle.cos_patterns.specs.Written.{written, is_in}
use Rattle.selector_spelling.specs.Bytes.{Bytes}
use Rattle.selector_spelling.specs.Texts.{Answer, found, bad_pattern, pattern_too_large}

-- `large` has what the maker refused for size, and `unread` the patterns that it couldn't read. A pattern that stands in
-- neither is what the grammar reads.
abbrev pub answer_by : List Asked → List Written → Bytes → ℕ → Answer
answer_by large unread body flags =
    if is_in (written body flags) (patterns_in large) then pattern_too_large
    else if is_in (written body flags) unread || not (is_read body flags) then bad_pattern
    else found
