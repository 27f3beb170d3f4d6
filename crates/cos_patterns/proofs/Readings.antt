-- From a compiled pattern to what the grammar reads in its text.
use Rattle.std.proofs.Common.{◌≡◌, ◌≢◌, ℕ, ◌<◌, ◌≤◌, inl, inr, true, List, get_or, length, Option, None, Some, is_some, IsSomeAnd, refl}
use Rattle.regex_hir.specs.Re.{Re}
use Rattle.regex_hir.specs.Find.{find_str}
use Rattle.regex_syntax.specs.Brackets.{Nested}
use Rattle.regex_syntax.specs.Captures.{SameCaptures}
use Rattle.regex_syntax.specs.Grammar.{Names, group_count}
use Rattle.regex_syntax.specs.Verdict.{Reads, Refuses}
use Rattle.regex_syntax.specs.declared.error.ErrorKind.{ErrorKind}
use Rattle.regex_syntax.specs.declared.error.ErrorKind.TheVariants.{OutOfMemory}
use Rattle.regex.specs.Strings.{regex_pattern}
use Rattle.regex.specs.declared.string.regex.Regex.{Regex}
use Rattle.regex.proofs.ForCallers.{is_match_alike}
use Rattle.cos_patterns.specs.Found.{config_of, read_as, is_read, found_by, pattern_found, IsPatternOf, IsUnreadable}

-- in a text of bytes a compiled pattern is found where what it was read as is found
module _ (text : List ℕ) (bytes : (k : ℕ) → get_or text k 0 < 256) where
  alike : (compiled : Re) (most : ℕ) (names : Names) (o : Option (Nested Re × Names)) →
      IsSomeAnd o (λ (pattern, found). (pattern.depth ≤ most) × SameCaptures compiled pattern.value × (names ≡ found) × (group_count compiled ≤ length names)) →
      is_some (find_str compiled text 0) ≡ found_by o text
  alike compiled most names None is = absurd is
  alike compiled most names (Some p) is = is_match_alike is.1 text bytes true 0

  pub found_is : (body : List ℕ) (flags : ℕ) (regex : Regex) → IsPatternOf body flags regex →
      is_some (find_str (regex_pattern regex) text 0) ≡ pattern_found body flags text
  unfolding Reads read_as
  found_is body flags regex is = alike (regex_pattern regex) _ _ (read_as body flags) (rw (is.source, is.config) at is.read)

-- where something is so, there is something
there_is : (o : Option (Nested Re × Names)) (P : Nested Re × Names → Type 0) → IsSomeAnd o P → is_some o ≡ true
there_is None P is = absurd is
there_is (Some p) P is = refl

-- the grammar reads the text of each compiled pattern
pub pattern_reads : (body : List ℕ) (flags : ℕ) (regex : Regex) → IsPatternOf body flags regex → is_read body flags ≡ true
unfolding Reads read_as
pattern_reads body flags regex is = there_is (read_as body flags) _ (rw (is.source, is.config) at is.read)

-- a syntax error that isn't want of memory says that the text is unreadable
pub unreadable_is : (body : List ℕ) (flags : ℕ) (kind : ErrorKind) → Refuses (config_of flags) body kind → kind ≢ OutOfMemory → IsUnreadable body flags
unfolding Refuses read_as
unreadable_is body flags kind (inl memory) other = absurd (other memory)
unreadable_is body flags kind (inr (inl nothing)) other = inl nothing
unreadable_is body flags kind (inr (inr deep)) other = inr deep.1
