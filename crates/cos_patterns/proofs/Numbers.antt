-- What a caller needs of the numbers of a table: they name their patterns, and later puts keep them.
use Rattle.std.proofs.Common.{◌≡◌, ◌+◌, ℕ, suc, Bool, true, false, List, [], ◌∷◌, ◌++◌, Option, Some, None, slice_get, if◌then◌else◌, arith, refl, ap}
use Rattle.std.specs.Option.{option_map}
use Rattle.std.proofs.lemmas.Grind.{common_steps}
use Rattle.cos_patterns.specs.declared.written.Asked.{Asked}
use Rattle.cos_patterns.specs.declared.written.Asked.TheVariants.{Pattern, Address}
use Rattle.cos_patterns.specs.declared.written.Written.{Written}
use Rattle.cos_patterns.specs.Tables.{Noted, Agrees, patterns_in, with_pattern}
use Rattle.cos_patterns.specs.Written.{is_same, place_of}
use Rattle.cos_patterns.proofs.Places.{same_is}

-- the pattern stands at its place, by whether that is the first one
at_cases : (pattern first : Written) (rest : List Written) (place : ℕ) (same : Bool) (later : Option ℕ) →
    is_same first pattern ≡ same → ((n : ℕ) → later ≡ Some n → slice_get rest n ≡ Some pattern) →
    (if same then Some 0 else option_map (λ n. n + 1) later) ≡ Some place → slice_get (first ∷ rest) place ≡ Some pattern
at_cases pattern first rest place true later same there is =
    let here : place ≡ 0 = grind (arith, common_steps) in
    rw here (ap Some (same_is first pattern same))
at_cases pattern first rest place false None same there is = absurd (grind (arith, common_steps))
at_cases pattern first rest place false (Some n) same there is =
    let behind : place ≡ suc n = grind (arith, common_steps) in
    rw behind (there n refl)

pub at_place : (pattern : Written) (list : List Written) (place : ℕ) → place_of pattern list ≡ Some place →
    slice_get list place ≡ Some pattern
at_place pattern [] place is = grind (arith, common_steps)
at_place pattern (first ∷ rest) place is =
    at_cases pattern first rest place (is_same first pattern) (place_of pattern rest) refl (at_place pattern rest) is

-- a place stays where a list gets more, by whether it is the first one
stays_cases : (same : Bool) (before after : Option ℕ) (place : ℕ) → ((n : ℕ) → before ≡ Some n → after ≡ Some n) →
    (if same then Some 0 else option_map (λ n. n + 1) before) ≡ Some place →
    (if same then Some 0 else option_map (λ n. n + 1) after) ≡ Some place
stays_cases true before after place stays is = is
stays_cases false None after place stays is = absurd (grind (arith, common_steps))
stays_cases false (Some n) after place stays is = rw (stays n refl) is

pub place_stays : (pattern : Written) (list more : List Written) (place : ℕ) → place_of pattern list ≡ Some place →
    place_of pattern (list ++ more) ≡ Some place
place_stays pattern [] more place is = absurd (grind (arith, common_steps))
place_stays pattern (first ∷ rest) more place is =
    stays_cases (is_same first pattern) (place_of pattern rest) (place_of pattern (rest ++ more)) place (place_stays pattern rest more) is

-- a number stays, whatever is put
pub number_stays : (pattern other : Written) (patterns : List Written) (number : ℕ) → place_of pattern patterns ≡ Some number →
    place_of pattern (with_pattern other patterns) ≡ Some number
number_stays pattern other patterns number is =
    grind (arith, common_steps, is, place_stays pattern patterns (other ∷ []) number is)

-- an address that is refused for size changes no agreement
pub patterns_in_address : (large : List Asked) (text : List ℕ) → patterns_in (large ++ Address text ∷ []) ≡ patterns_in large
patterns_in_address [] text = refl
patterns_in_address (Pattern first ∷ rest) text = grind (arith, common_steps, patterns_in_address rest text)
patterns_in_address (Address first ∷ rest) text = patterns_in_address rest text

pub agrees_on_address : (table : Noted) (large : List Asked) (unread : List Written) (text : List ℕ) →
    Agrees table large unread → Agrees table (large ++ Address text ∷ []) unread
agrees_on_address table large unread text agrees = record {
  large = λ pattern. rw (patterns_in_address large text) (agrees.large pattern);
  unread = agrees.unread;
}
