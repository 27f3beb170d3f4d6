-- The first part of a text, and an argument, as slices.
use denote.Ref.{Bor}
use Rattle.std.proofs.Common.{◌≡◌, ℕ, ◌+◌, ◌<◌, Bool, false, [], ◌∷◌, ◌++◌, length, get_or, take, drop, Some, None, Result, if◌then◌else◌, refl, sym, ap, ◌∙◌, arith, inl, inr}
use Rattle.std.specs.List.{list_any}
use Rattle.std.specs.Str.{IsUtf8, IsCharBoundary}
use Rattle.std.proofs.lemmas.List.{take_all, append-nil, take-append-drop, drop_more, length-take-le, length-drop}
use Rattle.std.proofs.lemmas.Bool.{cases_Bool, ltb-true, lt-ltb, or_parts, and_right}
use Rattle.std.proofs.lemmas.Str.{IsCharBoundary-after_ascii}
use Rattle.selector_spelling.specs.Bytes.{Bytes}
use Rattle.selector_spelling.specs.Scan.{Scan, bare, is_bare, step, standing, within, is_closed}
use Rattle.selector_spelling.specs.Pieces.{bad, Piece, where_closed}
use Rattle.selector_spelling.specs.declared.finding.Cause.TheVariants as cause
use Rattle.selector_spelling.specs.declared.finding.Finding.{Finding}
use Rattle.selector_spelling.specs.Cuts.{Part, parts_from}
use Rattle.selector_spelling.specs.declared.open.Open.{Open}
use Rattle.selector_lexer.specs.declared.cuts.Cut.{Cut}
use Rattle.selector_lexer.specs.Splits.{cuts, first_part, EndsPart, EndsArgument, IsFirst, IsArgument}
use Rattle.selector_lexer.proofs.CutLaws.{cuts-separate, parts-last, parts-first}

abbrev part : ℕ → ℕ → Bytes → Part
part sign at text = record { sign = sign; at = at; text = text }

pub is-last : (cut : Cut) (text : Bytes) (n : ℕ) (front : Bor Bytes) → EndsPart cut text n → n ≡ length text → front.now ≡ take n text → IsFirst cut text (record { text = front; behind = None })
is-last cut text n front ends all front-is =
    let e : front.now ≡ text = front-is ∙ take_all n text (omega (arith, all)) in
    record {
      whole = sym (append-nil front.now ∙ e);
      lengths = omega (arith, ap length e);
      passes = tt;
      parts = λ sign at. parts-last (cuts cut) (cuts-separate cut) bare sign at text (ends.front ∙ take_all n text (omega (arith, all))) ∙ ap (λ (v : Bytes). part sign at v ∷ []) (sym e);
    }

pub is-first : (cut : Cut) (text : Bytes) (n b : ℕ) (front rest : Bor Bytes) → EndsPart cut text n → n < length text → front.now ≡ take n text → rest.now ≡ drop (n + 1) text → b ≡ get_or text n 0
    → IsFirst cut text (record { text = front; behind = Some (record { sign = b; text = rest }) })
is-first cut text n b front rest ends lt front-is rest-is b-is =
    let p = cuts cut in
    let count : length front.now ≡ n = ap length front-is ∙ length-take-le n text ends.most in
    record {
      passes = ap p b-is ∙ ends.passes lt;
      lengths = omega (arith, count, ap length rest-is, length-drop (n + 1) text);
      whole = sym (ap (λ (v : Bytes). v ++ b ∷ rest.now) front-is ∙ ap (λ (v : Bytes). take n text ++ b ∷ v) rest-is ∙ ap (λ (k : ℕ). take n text ++ k ∷ drop (n + 1) text) b-is
          ∙ ap (λ (v : Bytes). take n text ++ v) (sym (drop_more text n 0 lt)) ∙ take-append-drop n text);
      parts = λ sign at.
          parts-first p (cuts-separate cut) bare sign at n text lt ends.front
          ∙ ap (λ (v : Bytes). part sign at v ∷ parts_from p bare (get_or text n 0) (at + n + 1) (drop (n + 1) text)) (sym front-is)
          ∙ ap (λ (k : ℕ). part sign at front.now ∷ parts_from p bare k (at + n + 1) (drop (n + 1) text)) (sym b-is)
          ∙ ap (λ (k : ℕ). part sign at front.now ∷ parts_from p bare b (at + k + 1) (drop (n + 1) text)) (sym count)
          ∙ ap (λ (v : Bytes). part sign at front.now ∷ parts_from p bare b (at + length front.now + 1) v) (sym rest-is);
    }

-- ---- a text that is cut nowhere

uncut-part : (p : ℕ → Bool) (s : Scan) (text : Bytes) → list_any p text ≡ false → first_part p s text ≡ text
uncut-part p s [] h = refl
uncut-part p s (b ∷ text) h =
    let q = or_parts (p b) (list_any p text) h in
    let more = first_part p (step s b text) text in
    ap (λ (c : Bool). if c then [] else b ∷ more) (and_right (is_bare s) (p b) q.0) ∙ ap (λ (t : Bytes). b ∷ t) (uncut-part p (step s b text) text q.1)

pub is-uncut : (cut : Cut) (text : Bytes) → list_any (cuts cut) text ≡ false → EndsPart cut text (length text)
is-uncut cut text h = record {
  most = omega arith;
  front = uncut-part (cuts cut) bare text h ∙ sym (take_all (length text) text (omega arith));
  passes = λ (lt : length text < length text). absurd (omega (arith, lt));
}

-- ---- an argument, and whether a bracket closes it

within-length : (opened : Open) (text : Bytes) (n : ℕ) → EndsArgument opened text n → length (within (standing (opened ∷ [])) text) ≡ n
within-length opened text n ends = ap length ends.front ∙ length-take-le n text ends.most

pub is-open : (at : ℕ) (opened : Open) (text : Bytes) (n : ℕ) (read : Result Piece Finding) → EndsArgument opened text n → n ≡ length text → where_closed at opened text read ≡ bad cause.Unbalanced at
is-open at opened text n read ends all =
    let open_still : is_closed (standing (opened ∷ [])) text ≡ false =
    elim (cases_Bool (is_closed (standing (opened ∷ [])) text)) [ inl h ↦ absurd (omega (arith, ltb-true _ _ h, within-length opened text n ends, all)) | inr h ↦ h ] in
    ap (λ (c : Bool). if c then read else bad cause.Unbalanced at) open_still

pub is-argument : (opened : Open) (text : Bytes) (n : ℕ) (front rest : Bor Bytes) → EndsArgument opened text n → n < length text → front.now ≡ take n text → rest.now ≡ drop (n + 1) text
    → IsArgument opened text front.now rest.now
is-argument opened text n front rest ends lt front-is rest-is =
    let count : length front.now ≡ n = ap length front-is ∙ length-take-le n text ends.most in
    record {
      closed = lt-ltb _ _ (omega (arith, within-length opened text n ends, lt));
      is = front-is ∙ sym ends.front;
      rest_is = rest-is ∙ ap (λ (k : ℕ). drop (k + 1) text) (sym count);
      lengths = omega (arith, count, ap length rest-is, length-drop (n + 1) text);
    }

-- a text may be cut behind a byte that it is cut at, and behind the end of an argument
pub behind-part : (cut : Cut) (text : Bytes) (n : ℕ) → IsUtf8 text → EndsPart cut text n → n < length text → IsCharBoundary text (n + 1)
behind-part cut text n utf8 ends lt = IsCharBoundary-after_ascii text n utf8 lt ((cuts-separate cut).low (get_or text n 0) (ends.passes lt))

pub behind-argument : (opened : Open) (text : Bytes) (n : ℕ) → IsUtf8 text → EndsArgument opened text n → n < length text → IsCharBoundary text (n + 1)
behind-argument opened text n utf8 ends lt = IsCharBoundary-after_ascii text n utf8 lt (ends.ascii lt)
