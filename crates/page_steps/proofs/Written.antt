-- How the texts of a list are written one after the other, in a loop.
use Rattle.std.proofs.Common.{◌≡◌, ◌∙◌, ℕ, Bool, List, [], ◌∷◌, ◌++◌, Ok, Err, arith, refl, ap, sym, subst, append-nil, append_assoc, le_refl}
use Rattle.cos_outside.specs.Writes.{WritesText, WritesTexts}
use Rattle.cos_outside.proofs.Writing.{and_more, error_before, no_texts, text_alone}

-- the value that is answered has no part in what was written, and the text goes by what it is
pub same_text : {S T U E : Type 0} {tells : S → Bool} {written : S → List ℕ} {faults : S → ℕ} {fault memory : E} {old new : S}
    {text other : List ℕ} {x : T} (y : U) → text ≡ other →
    WritesText tells written faults fault memory old new text (Ok x) → WritesText tells written faults fault memory old new other (Ok y)
same_text {U = U} {tells = tells} {written = written} {faults = faults} {fault = fault} {memory = memory} {old = old} {new = new} y e h =
    subst (λ (text : List ℕ). WritesText tells written faults fault memory old new text (Ok y)) e (record {
      told = h.told;
      whole = h.whole;
      front = h.front;
      nothing = λ e. cc;
      later = h.later;
      cause = λ e. cc;
    })

-- so it is with an error
pub same_error : {S T U E : Type 0} {tells : S → Bool} {written : S → List ℕ} {faults : S → ℕ} {fault memory : E} {old new : S}
    {text other : List ℕ} {error : E} → text ≡ other →
    WritesText {T = T} tells written faults fault memory old new text (Err error) → WritesText {T = U} tells written faults fault memory old new other (Err error)
same_error {U = U} {tells = tells} {written = written} {faults = faults} {fault = fault} {memory = memory} {old = old} {new = new} {error = error} e h =
    subst (λ (text : List ℕ). WritesText {T = U} tells written faults fault memory old new text (Err error)) e (record {
      told = h.told;
      whole = λ t. tt;
      front = h.front;
      nothing = λ e. let same : error ≡ memory = cc in h.nothing (ap Err same);
      later = h.later;
      cause = λ e. let same : error ≡ fault = cc in h.cause (ap Err same);
    })

-- want of memory before the text is written
pub none_of_text : {S T E : Type 0} {tells : S → Bool} {written : S → List ℕ} {faults : S → ℕ} {fault memory : E} (old : S)
    {text : List ℕ} → (memory ≡ fault → ⊥) → WritesText {T = T} tells written faults fault memory old old text (Err memory)
none_of_text {written = written} {faults = faults} old other = record {
  told = refl;
  whole = λ t. tt;
  front = λ t. record { count = 0; within = omega arith; front = sym (append-nil (written old)) };
  nothing = λ e. refl;
  later = le_refl (faults old);
  cause = λ e. absurd (other cc);
}

-- the first of the texts were written, and these are left
pub record HasTextsLeft {S E : Type 0} (tells : S → Bool) (written : S → List ℕ) (faults : S → ℕ) (fault memory : E)
    (old new : S) (texts left : List (List ℕ)) : Type 0 where
  pub done : List (List ℕ)
  pub so_far : WritesTexts {T = Unit {0}} tells written faults fault memory old new done (Ok tt)
  pub whole : texts ≡ done ++ left

-- before the first text
pub none_written : {S E : Type 0} {tells : S → Bool} {written : S → List ℕ} {faults : S → ℕ} {fault memory : E} (old : S) (texts : List (List ℕ)) →
    HasTextsLeft tells written faults fault memory old old texts texts
none_written old texts = record { done = []; so_far = no_texts old tt; whole = refl }

-- one more was written
pub one_more : {S T E : Type 0} {tells : S → Bool} {written : S → List ℕ} {faults : S → ℕ} {fault memory : E} {old mid new : S}
    {texts : List (List ℕ)} (text : List ℕ) (left : List (List ℕ)) {x : T} →
    HasTextsLeft tells written faults fault memory old mid texts (text ∷ left) → WritesText tells written faults fault memory mid new text (Ok x) →
    HasTextsLeft tells written faults fault memory old new texts left
one_more text left before h = record {
  done = before.done ++ text ∷ [];
  so_far = and_more before.so_far (text_alone (same_text tt refl h));
  whole = before.whole ∙ sym (append_assoc before.done (text ∷ []) left);
}

-- an error came in its place
pub fails_within : {S T U E : Type 0} {tells : S → Bool} {written : S → List ℕ} {faults : S → ℕ} {fault memory : E} {old mid new : S}
    {texts : List (List ℕ)} (text : List ℕ) (left : List (List ℕ)) {error : E} →
    HasTextsLeft tells written faults fault memory old mid texts (text ∷ left) → WritesText {T = T} tells written faults fault memory mid new text (Err error) →
    WritesTexts {T = U} tells written faults fault memory old new texts (Err error)
fails_within {U = U} {tells = tells} {written = written} {faults = faults} {fault = fault} {memory = memory} {old = old} {new = new} text left {error = error} before h =
    subst (λ (all : List (List ℕ)). WritesTexts {T = U} tells written faults fault memory old new all (Err error)) (sym before.whole)
    (and_more before.so_far (error_before left (text_alone h)))

-- no text is left
pub all_written : {S U E : Type 0} {tells : S → Bool} {written : S → List ℕ} {faults : S → ℕ} {fault memory : E} {old new : S}
    {texts : List (List ℕ)} (y : U) → HasTextsLeft tells written faults fault memory old new texts [] → WritesTexts tells written faults fault memory old new texts (Ok y)
all_written {tells = tells} {written = written} {faults = faults} {fault = fault} {memory = memory} {old = old} {new = new} y before =
    subst (λ (all : List (List ℕ)). WritesTexts tells written faults fault memory old new all (Ok y)) (sym before.whole)
    (and_more before.so_far (no_texts new y))
