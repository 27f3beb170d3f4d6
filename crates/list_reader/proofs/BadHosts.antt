-- A bad host stands within the text that it was read from.
use Rattle.std.proofs.Common.{◌≡◌, ℕ, ◌+◌, ◌≤◌, List, [], ◌∷◌, length, subst, sym, arith}
use Rattle.std.specs.Prelude.{Option, Some, None}
use Rattle.cos_source.specs.Spaces.{space_count, trimmed}
use Rattle.filter_scope.specs.declared.scope.Item.{Item}
use Rattle.filter_scope.specs.declared.scope.ScopeRead.{ScopeRead}
use Rattle.filter_scope.specs.declared.scope.ScopeRead.TheVariants as read
use Rattle.filter_scope.specs.Scopes.{by_item, item_of, read_parts, scope_of, with_item}
use Rattle.filter_scope.proofs.Reading.{EndBy, parts_end}

abbrev BadBy : ℕ → ScopeRead → Type 0
BadBy n (read.Scope scope) = Unit {0}
BadBy n (read.BadHost at) = at ≤ n

with_item_by : (n : ℕ) (i : Item) (more : ScopeRead) → BadBy n more → BadBy n (with_item i more)
with_item_by n i (read.Scope scope) h = tt
with_item_by n i (read.BadHost at) h = h

item_by : (n : ℕ) (part : ℕ × List ℕ) (o : Option Item) (more : ScopeRead) → part.0 + length part.1 ≤ n → BadBy n more → BadBy n (by_item part o more)
item_by n part None more ends h = omega (arith, ends)
item_by n part (Some i) more ends h = with_item_by n i more h

parts_by : (n : ℕ) (parts : List (ℕ × List ℕ)) → EndBy n parts → BadBy n (read_parts parts)
parts_by n [] h = tt
parts_by n (part ∷ more) h = item_by n part (item_of (trimmed part.1)) (read_parts more) h.0 (parts_by n more h.1)

scope_by : (separator : ℕ) (text : List ℕ) → BadBy (length text) (scope_of separator text)
scope_by separator [] = tt
scope_by separator (b ∷ text) = parts_by (length (b ∷ text)) _ (parts_end separator (b ∷ text))

pub bad_by : (separator at : ℕ) (text : List ℕ) → read.BadHost at ≡ scope_of separator text → at ≤ length text
bad_by separator at text e = subst (BadBy (length text)) (sym e) (scope_by separator text)
