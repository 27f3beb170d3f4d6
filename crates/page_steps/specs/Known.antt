-- What is known of the hidden elements of a page.
use Rattle.std.specs.Prelude.{◌≡◌, length, map}
use Rattle.cos_patterns.specs.Found.{pattern_found}
use Rattle.engine_meaning.specs.Hidden.{pair_of}
use Rattle.engine_meaning.specs.States.{State, hidden_of}
use Rattle.page_steps.specs.declared.known.Known.{Known}
use Rattle.page_steps.specs.declared.known.Known.TheVariants.{Nothing, Count, Rows}

-- nothing is true of every page; a number is that of the hidden elements, and rows are they, in document order, each with the
-- places of all filters that hide it
abbrev pub Knows : Known → State → Type 0
Knows Nothing s = Unit
Knows (Count count) s = count ≡ length (hidden_of pattern_found s)
Knows (Rows rows) s = map pair_of rows ≡ hidden_of pattern_found s
