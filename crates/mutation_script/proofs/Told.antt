-- What comes of a mutation, by what a call on the tree answered.
use Rattle.std.proofs.Common.{◌≡◌, Option, Some, None, Result, Ok, Err, true, false, refl, ap, sym, ◌∙◌, subst}
use Rattle.std.specs.Prelude.{MatchOption, IsOkUnless, IsOk, IfOk, OnOk, OnErr, alloc_error}
use Rattle.std.specs.Result.{result_unwrap_or}
use Rattle.std.proofs.lemmas.Bool.{false≢true}
use Rattle.std.specs.declared.alloc.AllocError.{AllocError}
use Rattle.page_tree.specs.Forest.{Tree}
use Rattle.page_tree.specs.Refusals.{Refusal}
use Rattle.page_tree.specs.Refusals as refusals
use Rattle.dom_arena.specs.Refusals.{error_of}
use Rattle.dom_arena.specs.declared.refusals.DomError.{DomError}
use Rattle.dom_arena.specs.declared.refusals.DomError.TheVariants as errors
use Rattle.mutation_script.specs.declared.answer.Outcome.{Outcome}
use Rattle.mutation_script.specs.declared.answer.Outcome.TheVariants as outcomes
use Rattle.mutation_script.specs.declared.page.PageState.{PageState}
use Rattle.mutation_script.specs.Changes.{unless_refused, outcome_of}
use Rattle.mutation_script.specs.Told.{told, refused}

-- the page with another tree
abbrev pub with_tree : PageState → Tree → PageState
with_tree page tree = record page { tree = tree }

-- a refusal is told as it is: it is never want of memory
refused-error_of : (r : Refusal) → refused (error_of r) ≡ Ok (outcomes.Refused (error_of r))
refused-error_of (refusals.NoSuchNode n) = refl
refused-error_of (refusals.NotElement n) = refl
refused-error_of (refusals.NotText n) = refl
refused-error_of (refusals.BadPlace place) = refl
refused-error_of (refusals.IntoItself n) = refl
refused-error_of refusals.IsDocument = refl
refused-error_of refusals.TooDeep = refl
refused-error_of refusals.TooManyNodes = refl

-- a call that takes no memory
ok_unless : {T : Type 0} (done : Result T DomError) → IsOk done → IsOkUnless done errors.NoMemory
ok_unless (Ok value) h = tt
ok_unless (Err error) h = absurd (false≢true h)

pub none_needed : {T : Type 0} (refusal : Option Refusal) (done : Result T DomError) → MatchOption refusal (IsOk done) (λ r. done ≡ Err (error_of r))
    → MatchOption refusal (IsOkUnless done errors.NoMemory) (λ r. done ≡ Err (error_of r))
none_needed None done h = ok_unless done h
none_needed (Some r) done h = h

-- whatever came of it
on_ok : {T E : Type 0} {Q : Type 0} (r : Result T E) → Q → OnOk r Q
on_ok (Ok value) q = q
on_ok (Err error) q = tt

-- a refusal, told
refused_told : {T : Type 0} (r : Refusal) (done : Result T DomError) → done ≡ Err (error_of r) → told done ≡ Ok (outcomes.Refused (error_of r))
refused_told r done h = ap told h ∙ refused-error_of r

no_memory_told : (error : DomError) → error ≡ errors.NoMemory → refused error ≡ Err alloc_error
no_memory_told error h = ap refused h

-- a call that refuses just this, and else gives the tree t
module _ {T : Type 0} (page : PageState) (t new : Tree) where
  pub told_outcome : (refusal : Option Refusal) (done : Result T DomError) (result : Result Outcome AllocError)
      → MatchOption refusal (IsOkUnless done errors.NoMemory) (λ r. done ≡ Err (error_of r)) → result ≡ told done
      → IfOk result (λ outcome. outcome ≡ outcome_of (unless_refused refusal t page))
  told_outcome None (Ok value) result h is = subst (λ (r : Result Outcome AllocError). IfOk r (λ outcome. outcome ≡ outcomes.Done)) (sym is) refl
  told_outcome None (Err error) result h is =
      subst (λ (r : Result Outcome AllocError). IfOk r (λ outcome. outcome ≡ outcomes.Done)) (sym (is ∙ no_memory_told error h)) tt
  told_outcome (Some r) done result h is =
      subst (λ (o : Result Outcome AllocError). IfOk o (λ outcome. outcome ≡ outcomes.Refused (error_of r))) (sym (is ∙ refused_told r done h)) refl

  pub told_page : (refusal : Option Refusal) (done : Result T DomError) (result : Result Outcome AllocError)
      → MatchOption refusal (IsOkUnless done errors.NoMemory) (λ r. done ≡ Err (error_of r)) → OnOk done (new ≡ t) → OnErr done (new ≡ page.tree) → result ≡ told done
      → OnOk result (with_tree page new ≡ result_unwrap_or (unless_refused refusal t page) page)
  told_page None (Ok value) result h ok err is = on_ok result (ap (with_tree page) ok)
  told_page None (Err error) result h ok err is =
      subst (λ (r : Result Outcome AllocError). OnOk r (with_tree page new ≡ with_tree page t)) (sym (is ∙ no_memory_told error h)) tt
  told_page (Some r) done result h ok err is =
      on_ok result (ap (with_tree page) (subst (λ (d : Result T DomError). OnErr d (new ≡ page.tree)) h err))
