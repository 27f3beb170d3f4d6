-- Texts that are written one after the other: those that were written, and those that are left.
use Rattle.std.proofs.Common.{◌≡◌, ◌++◌, ◌∙◌, ℕ, Bool, List, [], ◌∷◌, Ok, Err, refl, sym, subst, append_assoc}
use Rattle.cos_outside.specs.Writes.{WritesText, WritesTexts}
use Rattle.cos_outside.proofs.Writing.{and_more, error_before, no_texts, text_alone}

-- some of all texts were written whole, and these are left
pub record TextsLeft {S E : Type 0} (T : Type 0) (tells : S → Bool) (written : S → List ℕ) (faults : S → ℕ) (fault memory : E)
    (old new : S) (texts left : List (List ℕ)) : Type 0 where
  pub done : List (List ℕ)
  pub parted : texts ≡ done ++ left
  pub value : T
  pub so_far : WritesTexts {T = T} tells written faults fault memory old new done (Ok value)

module _ {S E T : Type 0} {tells : S → Bool} {written : S → List ℕ} {faults : S → ℕ} {fault memory : E} where
  pub all_left : (old : S) (texts : List (List ℕ)) (value : T) → TextsLeft T tells written faults fault memory old old texts texts
  all_left old texts value = record { done = []; parted = refl; value = value; so_far = no_texts old value }

  -- the next text was written whole
  pub one_more : {old mid new : S} {texts left : List (List ℕ)} {text : List ℕ} {value : T} →
      TextsLeft T tells written faults fault memory old mid texts (text ∷ left) →
      WritesText tells written faults fault memory mid new text (Ok value) →
      TextsLeft T tells written faults fault memory old new texts left
  one_more {left = left} {text = text} {value = value} before now = record {
    done = before.done ++ text ∷ [];
    parted = before.parted ∙ sym (append_assoc before.done (text ∷ []) left);
    value = value;
    so_far = and_more before.so_far (text_alone now);
  }

  -- or it was not
  pub one_failed : {U : Type 0} {old mid new : S} {texts left : List (List ℕ)} {text : List ℕ} {error : E} →
      TextsLeft T tells written faults fault memory old mid texts (text ∷ left) →
      WritesText {T = T} tells written faults fault memory mid new text (Err error) →
      WritesTexts {T = U} tells written faults fault memory old new texts (Err error)
  one_failed {U = U} {old = old} {new = new} {left = left} {text = text} {error = error} before now =
      subst (λ (all : List (List ℕ)). WritesTexts {T = U} tells written faults fault memory old new all (Err error))
      (append_assoc before.done (text ∷ []) left ∙ sym before.parted)
      (error_before left (and_more before.so_far (text_alone now)))

  -- none is left
  pub all_written : {U : Type 0} {old new : S} {texts : List (List ℕ)} (value : U) → TextsLeft T tells written faults fault memory old new texts [] →
      WritesTexts tells written faults fault memory old new texts (Ok value)
  all_written {old = old} {new = new} value before =
      subst (λ (all : List (List ℕ)). WritesTexts tells written faults fault memory old new all (Ok value))
      (sym before.parted) (and_more before.so_far (no_texts new value))
