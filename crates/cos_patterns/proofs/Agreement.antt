-- How a table and a maker go on agreeing.
use Rattle.std.proofs.Common.{◌≡◌, ◌↔◌, ℕ, Bool, true, false, List, [], ◌∷◌, ◌++◌, Option, Some, is_some, Result, Ok, Err, OnOk, OnErr, IsTrue, arith, refl, ap, sym, ◌∙◌}
use Rattle.std.specs.Prelude.{IfOk}
use Rattle.std.specs.Result.{IsErrOf, is_ok}
use Rattle.std.proofs.lemmas.Grind.{common_steps}
use Rattle.cos_patterns.specs.declared.errors.PatternError.{PatternError}
use Rattle.cos_patterns.specs.declared.errors.PatternError.TheVariants.{BadPattern, PatternTooLarge}
use Rattle.cos_patterns.specs.declared.errors.PatternError.TheVariants as errors
use Rattle.cos_patterns.specs.declared.written.Asked.{Asked}
use Rattle.cos_patterns.specs.declared.written.Asked.TheVariants.{Pattern, Address}
use Rattle.cos_patterns.specs.declared.written.Written.{Written}
use Rattle.cos_patterns.specs.Makers.{UnlessNoMemory}
use Rattle.cos_patterns.specs.Written.{is_in, is_same, place_of}
use Rattle.cos_patterns.specs.Tables.{Noted, Agrees, is_noted, said_of, with_pattern, patterns_in}
use Rattle.cos_patterns.proofs.Places.{in_more, has_place}

-- one pattern more was refused for size
pub patterns_in_more : (list : List Asked) (pattern : Written) →
    patterns_in (list ++ Pattern pattern ∷ []) ≡ patterns_in list ++ pattern ∷ []
patterns_in_more [] pattern = refl
patterns_in_more (Pattern first ∷ rest) pattern = ap (λ list. first ∷ list) (patterns_in_more rest pattern)
patterns_in_more (Address first ∷ rest) pattern = patterns_in_more rest pattern

-- what isn't noted stands in none of the lists
pub not_noted : (pattern : Written) (table : Noted) → is_noted pattern table ≡ false →
    (is_in pattern table.patterns ≡ false) × (is_in pattern table.large ≡ false) × (is_in pattern table.unread ≡ false)
not_noted pattern table new = (grind arith, grind arith, grind arith)

-- what isn't noted is no refusal of the maker
module _ (pattern : Written) (table : Noted) (large : List Asked) (unread : List Written) (agrees : Agrees table large unread)
    (new : is_noted pattern table ≡ false) where
  pub is_not_large : is_in pattern (patterns_in large) ≡ false
  is_not_large = sym (agrees.large pattern) ∙ (not_noted pattern table new).1

  pub is_not_unread : is_in pattern unread ≡ false
  is_not_unread = sym (agrees.unread pattern) ∙ (not_noted pattern table new).2

-- an answer that is no error, where the pattern isn't refused
pub no_error : {T E : Type 0} (value : T) (error : E) (refused : Bool) → refused ≡ false →
    IsErrOf (Ok value) error ↔ IsTrue refused
no_error value error refused is_not = (λ is. grind arith, λ is. grind arith)

-- an error, where the pattern is refused so
pub an_error : {T E : Type 0} (error : E) (refused : Bool) → refused ≡ true → IsErrOf {T = T} (Err error) error ↔ IsTrue refused
an_error error refused is_so = (λ _. is_so, λ _. refl)

-- a pattern that has a number is put without a change
pub put_again : (pattern : Written) (patterns : List Written) (number : ℕ) → place_of pattern patterns ≡ Some number →
    patterns ≡ with_pattern pattern patterns
put_again pattern patterns number is = grind (arith, common_steps, has_place pattern patterns)

-- a pattern that isn't noted stands behind the others once it is put
pub put_new : (pattern : Written) (table : Noted) → is_noted pattern table ≡ false →
    table.patterns ++ pattern ∷ [] ≡ with_pattern pattern table.patterns
put_new pattern table new = rw (not_noted pattern table new).0 refl

-- a table and a maker that agreed, after a refusal for size
pub agrees_on_large : (table after : Noted) (large large_now : List Asked) (unread unread_now : List Written) (pattern : Written) →
    Agrees table large unread → after.large ≡ table.large ++ pattern ∷ [] → after.unread ≡ table.unread →
    large_now ≡ large ++ Pattern pattern ∷ [] → unread_now ≡ unread → Agrees after large_now unread_now
agrees_on_large table after large large_now unread unread_now pattern agrees noted same refused stays = record {
  large = λ other. rw (noted, refused, patterns_in_more large pattern, in_more other pattern table.large, in_more other pattern (patterns_in large), agrees.large other) refl;
  unread = λ other. rw (same, stays) (agrees.unread other);
}

-- a list with one pattern more, as to another one
pub in_others : (list : List Written) (added other : Written) → is_same added other ≡ false → is_in other (list ++ added ∷ []) ≡ is_in other list
in_others list added other differs = grind (arith, in_more other added list)

-- a table of these lists
abbrev pub noted_as : List Written → List Written → List Written → Noted
noted_as patterns large unread = record { patterns = patterns; large = large; unread = unread }

-- what is said of another pattern, where the table holds one more
pub said_behind_patterns : (before : Noted) (patterns large unread : List Written) (added other : Written) → is_same added other ≡ false
    → patterns ≡ before.patterns ++ added ∷ [] → large ≡ before.large → unread ≡ before.unread
    → said_of other (noted_as patterns large unread) ≡ said_of other before
said_behind_patterns before patterns large unread added other differs p l u = rw (p, l, u, in_others before.patterns added other differs) refl

-- a pattern that has a number is held
pub is_held : (pattern : Written) (patterns : List Written) (number : ℕ) → place_of pattern patterns ≡ Some number → is_in pattern patterns ≡ true
is_held pattern patterns number is = sym (has_place pattern patterns) ∙ ap (λ (o : Option ℕ). is_some o) is

-- one that wasn't noted is held exactly where it got a number
pub held_by : (pattern : Written) (before after : Noted) → is_noted pattern before ≡ false → (result : Result ℕ PatternError) →
    IfOk result (λ number. place_of pattern after.patterns ≡ Some number) → OnErr result (after.patterns ≡ before.patterns) → is_in pattern after.patterns ≡ is_ok result
held_by pattern before after new (Ok number) ok err = is_held pattern after.patterns number ok
held_by pattern before after new (Err error) ok err = ap (is_in pattern) err ∙ (not_noted pattern before new).0

-- what holds for each answer but want of memory
pub unless_by : (result : Result ℕ PatternError) (P : Type 0) → OnOk result P → (IsErrOf result BadPattern → P) → (IsErrOf result PatternTooLarge → P) → UnlessNoMemory result P
unless_by (Ok number) P ok bad large = ok
unless_by (Err BadPattern) P ok bad large = bad refl
unless_by (Err PatternTooLarge) P ok bad large = large refl
unless_by (Err errors.NoMemory) P ok bad large = tt

-- a pattern that has a number is noted
pub held_noted : (pattern : Written) (table : Noted) (number : ℕ) → place_of pattern table.patterns ≡ Some number → is_noted pattern table ≡ false → ⊥
held_noted pattern table number is new = let no : true ≡ false = sym (is_held pattern table.patterns number is) ∙ (not_noted pattern table new).0 in cc
