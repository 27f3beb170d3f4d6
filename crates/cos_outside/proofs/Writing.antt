-- How texts are written one after the other.
use Rattle.std.proofs.Common.{◌≡◌, ◌+◌, ◌<◌, ◌≤◌, ◌∙◌, ℕ, Bool, List, [], ◌∷◌, ◌++◌, length, take, Result, Ok, Err, IsTrue, OnOk, IsErrOf, arith, refl, sym, ap, append_assoc, append-nil, le_refl}
use Rattle.std.specs.List.{concat}
use Rattle.std.proofs.lemmas.Grind.{common_steps}
use Rattle.std.proofs.lemmas.List.Folds.{concat-append}
use Rattle.std.proofs.lemmas.Result.{on_ok_weaker}
use Rattle.std.proofs.Math.Seq.{take-append-add}
use Rattle.std.proofs.lemmas.List.{take-append-le}
use Rattle.cos_outside.specs.Causes.{Rose}
use Rattle.cos_outside.specs.Runs.{AppendsPrefix}
use Rattle.cos_outside.specs.Writes.{AppendsFirst, WritesText, WritesTexts}
use Rattle.cos_outside.proofs.Appending.{front_of_first, front_of_second, whole_is_front}

-- of texts and more of them, the first of the texts
pub first_of_more : (old new : List ℕ) (texts more : List (List ℕ)) → AppendsFirst old new texts → AppendsFirst old new (texts ++ more)
first_of_more old new texts more first = record {
  count = first.count;
  fewer = grind (arith, common_steps, first.fewer);
  front = let within : first.count ≤ length texts = omega (arith, first.fewer) in
      rw (take-append-le first.count texts more within) first.front;
}

-- and the first of those that come later
pub first_of_later : (old new next : List ℕ) (texts more : List (List ℕ)) → new ≡ old ++ concat texts → AppendsFirst new next more →
    AppendsFirst old next (texts ++ more)
first_of_later old new next texts more e first = record {
  count = length texts + first.count;
  fewer = grind (arith, common_steps, first.fewer);
  front =
      let cut = take-append-add texts more first.count in
      let parted = concat-append texts (take first.count more) in
      grind (arith, common_steps, e, first.front, cut, parted);
}

told_still : {a b : Bool} → b ≡ a → IsTrue a → IsTrue b
told_still e h = rw e h

rose_since : (a b c : ℕ) → a ≤ b → Rose b c → Rose a c
rose_since a b c later rose = omega arith

-- one text alone
pub text_alone : {S T E : Type 0} {tells : S → Bool} {written : S → List ℕ} {faults : S → ℕ} {fault memory : E} {old new : S}
    {text : List ℕ} {result : Result T E} →
    WritesText tells written faults fault memory old new text result → WritesTexts tells written faults fault memory old new (text ∷ []) result
text_alone {written = written} {old = old} {new = new} {text = text} {result = result} h = record {
  told = h.told;
  whole = λ t. on_ok_weaker result (λ e. e ∙ ap (λ xs. written old ++ xs) (sym (append-nil text))) (h.whole t);
  front = λ t. rw append-nil (h.front t);
  first = λ t e. record { count = 0; fewer = omega arith; front = h.nothing e ∙ sym (append-nil (written old)) };
  later = h.later;
  cause = h.cause;
}

-- nothing is to be written
pub no_texts : {S T E : Type 0} {tells : S → Bool} {written : S → List ℕ} {faults : S → ℕ} {fault memory : E} (old : S) (x : T) →
    WritesTexts tells written faults fault memory old old [] (Ok x)
no_texts {written = written} {faults = faults} old x = record {
  told = refl;
  whole = λ t. sym (append-nil (written old));
  front = λ t. whole_is_front (written old) (written old) [] (sym (append-nil (written old)));
  first = λ t e. cc;
  later = le_refl (faults old);
  cause = λ e. cc;
}

-- texts, and then more
pub and_more : {S T U E : Type 0} {tells : S → Bool} {written : S → List ℕ} {faults : S → ℕ} {fault memory : E} {old mid new : S}
    {texts more : List (List ℕ)} {x : T} {result : Result U E} →
    WritesTexts tells written faults fault memory old mid texts (Ok x) → WritesTexts tells written faults fault memory mid new more result →
    WritesTexts tells written faults fault memory old new (texts ++ more) result
and_more {tells = tells} {written = written} {faults = faults} {old = old} {mid = mid} {new = new} {texts = texts} {more = more} {result = result} one two = record {
  told = two.told ∙ one.told;
  whole = λ t. on_ok_weaker result
      (λ e. e ∙ ap (λ xs. xs ++ concat more) (one.whole t) ∙ append_assoc (written old) (concat texts) (concat more)
      ∙ ap (λ xs. written old ++ xs) (sym (concat-append texts more)))
      (two.whole (told_still one.told t));
  front = λ t. rw concat-append
      (front_of_second (written old) (written mid) (written new) (concat texts) (concat more) (one.whole t) (two.front (told_still one.told t)));
  first = λ t e. first_of_later (written old) (written mid) (written new) texts more (one.whole t) (two.first (told_still one.told t) e);
  later = omega (arith, one.later, two.later);
  cause = λ e. rose_since (faults old) (faults mid) (faults new) one.later (two.cause e);
}

-- an error in the first texts
pub error_before : {S T U E : Type 0} {tells : S → Bool} {written : S → List ℕ} {faults : S → ℕ} {fault memory : E} {old new : S}
    {texts : List (List ℕ)} {error : E} → (more : List (List ℕ)) →
    WritesTexts {T = T} tells written faults fault memory old new texts (Err error) →
    WritesTexts {T = U} tells written faults fault memory old new (texts ++ more) (Err error)
error_before {E = E} {written = written} {fault = fault} {memory = memory} {old = old} {new = new} {texts = texts} {error = error} more h = record {
  told = h.told;
  whole = λ t. tt;
  front = λ t. rw concat-append (front_of_first (written old) (written new) (concat texts) (concat more) (h.front t));
  first = λ t e. let same : error ≡ memory = cc in
      first_of_more (written old) (written new) texts more (h.first t (ap Err same));
  later = h.later;
  cause = λ e. let same : error ≡ fault = cc in h.cause (ap Err same);
}

-- want of memory, between two texts
pub no_memory : {S T E : Type 0} {tells : S → Bool} {written : S → List ℕ} {faults : S → ℕ} {fault memory : E} (old : S)
    (text : List ℕ) (more : List (List ℕ)) → (memory ≡ fault → ⊥) →
    WritesTexts {T = T} tells written faults fault memory old old (text ∷ more) (Err memory)
no_memory {written = written} {faults = faults} old text more other = record {
  told = refl;
  whole = λ t. tt;
  front = λ t. record { count = 0; within = omega arith; front = sym (append-nil (written old)) };
  first = λ t e. record { count = 0; fewer = omega arith; front = sym (append-nil (written old)) };
  later = le_refl (faults old);
  cause = λ e. absurd (other (cc));
}
