-- How tables extend each other.
use Rattle.std.proofs.Common.{◌≡◌, ◌||◌, ℕ, Bool, true, false, List, [], ◌∷◌, ◌++◌, Result, Ok, Err, OnOk, OnErr, IsTrue, arith, refl, ap, sym, ◌∙◌, append_assoc}
use Rattle.std.proofs.lemmas.List.{append-nil}
use Rattle.cos_patterns.specs.declared.errors.PatternError.{PatternError}
use Rattle.cos_patterns.specs.declared.written.Written.{Written}
use Rattle.cos_patterns.specs.Written.{is_in, is_same}
use Rattle.cos_patterns.specs.Tables.{Noted, Extends, is_noted, said_of, said_by, with_pattern}
use Rattle.cos_patterns.proofs.Places.{same_is}

-- a table extends itself
pub extends_self : (table : Noted) → Extends table table
extends_self table = record { said = λ pattern noted. refl; more = []; numbers = sym (append-nil table.patterns) }

or_true : (first : Bool) → (first || true) ≡ true
or_true true = refl
or_true false = refl

-- what is said of a noted pattern, by whether it stands in each list
noted_by : (large unread held later_large later_unread later_held : Bool) → IsTrue (held || (large || unread)) →
    said_by later_large later_unread later_held ≡ said_by large unread held → IsTrue (later_held || (later_large || later_unread))
noted_by large unread held true later_unread later_held noted said = or_true later_held
noted_by large unread held false true later_held noted said = or_true later_held
noted_by large unread held false false true noted said = refl
noted_by true unread held false false false noted said = absurd (grind arith)
noted_by false true held false false false noted said = absurd (grind arith)
noted_by false false true false false false noted said = absurd (grind arith)
noted_by false false false false false false noted said = noted

-- what is noted stays noted
pub noted_later : (earlier later : Noted) → Extends earlier later → (pattern : Written) → IsTrue (is_noted pattern earlier) → IsTrue (is_noted pattern later)
noted_later earlier later extends pattern noted =
    noted_by _ _ _ (is_in pattern later.large) (is_in pattern later.unread) (is_in pattern later.patterns) noted (extends.said pattern noted)

-- a table extends what an earlier one extends
pub extends_through : (earlier between later : Noted) → Extends earlier between → Extends between later → Extends earlier later
extends_through earlier between later first second = record {
  said = λ pattern noted. second.said pattern (noted_later earlier between first pattern noted) ∙ first.said pattern noted;
  more = first.more ++ second.more;
  numbers = second.numbers ∙ ap (λ patterns. patterns ++ second.more) first.numbers ∙ append_assoc earlier.patterns first.more second.more;
}

-- a table behind a put of a pattern that wasn't noted
module _ (key : Written) (before after : Noted) (new : is_noted key before ≡ false)
    (others : (other : Written) → is_same key other ≡ false → said_of other after ≡ said_of other before) where
  others_by : (pattern : Written) (same : Bool) → is_same key pattern ≡ same → IsTrue (is_noted pattern before) → said_of pattern after ≡ said_of pattern before
  others_by pattern true same noted =
      let none : is_noted pattern before ≡ false = rw (← same_is key pattern same) new in
      absurd (grind (arith, none, noted))
  others_by pattern false differs noted = others pattern differs

  put_with : (more : List Written) → after.patterns ≡ before.patterns ++ more → Extends before after
  put_with more numbers = record { said = λ pattern noted. others_by pattern (is_same key pattern) refl noted; more = more; numbers = numbers }

  put_by : (held : Bool) → is_in key before.patterns ≡ held → after.patterns ≡ with_pattern key before.patterns → Extends before after
  put_by true held is = put_with [] (grind (arith, append-nil before.patterns))
  put_by false held is = put_with (key ∷ []) (grind arith)

  pub put_extends : (result : Result ℕ PatternError) → OnOk result (after.patterns ≡ with_pattern key before.patterns) →
      OnErr result (after.patterns ≡ before.patterns) → Extends before after
  put_extends (Ok number) ok err = put_by (is_in key before.patterns) refl ok
  put_extends (Err error) ok err = put_with [] (err ∙ sym (append-nil before.patterns))
