-- What the answers of a maker say.
use Rattle.std.specs.Prelude.{ℕ, ◌≡◌, List, [], ◌∷◌, ◌++◌, None, Result, Ok, Err, IsErrOf, ◌⊎◌}
use Rattle.url.specs.declared.error.ParseError.{ParseError}
use Rattle.url.specs.Parser.{parse_url}
use Rattle.url.specs.Parts.{Parts}
use Rattle.cos_patterns.specs.declared.errors.MakeError.{MakeError}
use Rattle.cos_patterns.specs.declared.errors.MakeError.TheVariants.{Unreadable, TooLarge, NoMemory}
use Rattle.cos_patterns.specs.declared.errors.PatternError.{PatternError}
use Rattle.cos_patterns.specs.declared.errors.PatternError.TheVariants.{BadPattern, PatternTooLarge}
use Rattle.cos_patterns.specs.declared.errors.PatternError.TheVariants as pattern
use Rattle.cos_patterns.specs.declared.written.Asked.{Asked}
use Rattle.cos_patterns.specs.declared.written.Written.{Written}

-- the URL Standard's parser reads this address in the text
abbrev pub IsAddressOf : List ℕ → Parts → Type 0
IsAddressOf text address = parse_url None text ≡ Ok address

-- the URL Standard's parser reads no address in the text
abbrev pub IsNoAddress : List ℕ → Type 0
IsNoAddress text = (error : ParseError) × (parse_url None text ≡ Err error)

-- the list of what was refused for size, after an answer to this text
abbrev pub large_after : {T : Type 0} → Result T MakeError → Asked → List Asked → List Asked
large_after (Ok made) asked before = before
large_after (Err Unreadable) asked before = before
large_after (Err TooLarge) asked before = before ++ asked ∷ []
large_after (Err NoMemory) asked before = before

-- the list of patterns that were unreadable, after an answer to this pattern
abbrev pub unread_after : {T : Type 0} → Result T MakeError → Written → List Written → List Written
unread_after (Ok made) pattern before = before
unread_after (Err Unreadable) pattern before = before ++ pattern ∷ []
unread_after (Err TooLarge) pattern before = before
unread_after (Err NoMemory) pattern before = before

-- it is so, or there was no memory
abbrev pub UnlessNoMemory : {T : Type 0} → Result T PatternError → Type 0 → Type 0
UnlessNoMemory (Ok value) P = P
UnlessNoMemory (Err BadPattern) P = P
UnlessNoMemory (Err PatternTooLarge) P = P
UnlessNoMemory (Err pattern.NoMemory) P = Unit {0}

-- the text was refused for size, or there was no memory to note so
abbrev pub IsRefusedForSize : {T : Type 0} → Result T MakeError → Type 0
IsRefusedForSize result = IsErrOf result TooLarge ⊎ IsErrOf result NoMemory
