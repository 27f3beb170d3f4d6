-- How a command ends: it is refused before anything is written, or ends with what was written of its texts.
use Rattle.std.proofs.Common.{◌≡◌, ◌∙◌, ℕ, Bool, false, List, ◌++◌, Option, Some, None, Result, Ok, Err, IsTrue, OnOk, IfErr, IsErrOf, arith, refl, sym, ap, subst, append-nil}
use Rattle.std.specs.List.{concat}
use Rattle.cos_outside.specs.Runs.{AppendsPrefix}
use Rattle.cos_outside.specs.Writes.{AppendsFirst, WritesTexts}
use Rattle.cos_patterns.specs.declared.written.Asked.{Asked}
use Rattle.cos_patterns.specs.declared.written.Written.{Written}
use Rattle.command_inputs.specs.declared.status.Status.{Status}
use Rattle.command_inputs.specs.declared.status.Status.TheVariants.{Done, Usage, ReadFault, WriteFault, Refused, NoMemory}
use Rattle.command_inputs.specs.declared.status.InputRefusal.{InputRefusal}
use Rattle.command_inputs.specs.Due.{Due, Files}
use Rattle.command_inputs.specs.Reads.{IsFileError, IsInputError, IsPageError, ReadsAs, is_failure}
use Rattle.command_words.specs.declared.command.Command.{Command}
use Rattle.command_meaning.specs.Output.{Texts, status_by, texts_by, texts_due, texts_of}
use Rattle.hide_report.specs.declared.writing.ReportError.{ReportError}
use Rattle.hide_report.specs.declared.writing.ReportError.TheVariants.{WriteFault as OutputFault, NoMemory as OutputMemory}
use Rattle.cosmetic_top.specs.Statuses.{IsFailed, status_of}
use Rattle.cosmetic_top.specs.Runs.{AppendsWhole, RunsAlone, RunsAs}

failed_of : (status : Status) → IsInputError status → IsFailed status
failed_of Done h = h
failed_of Usage h = h
failed_of ReadFault h = tt
failed_of WriteFault h = tt
failed_of (Refused refusal) h = tt
failed_of NoMemory h = tt

no_output_fault : (status : Status) → IsInputError status → status ≡ WriteFault → ⊥
no_output_fault status h e = subst IsInputError e h

nothing : (bytes text : List ℕ) → AppendsPrefix bytes bytes text
nothing bytes text = record { count = 0; within = omega arith; front = sym (append-nil bytes) }

no_text : (bytes : List ℕ) (texts : List (List ℕ)) → AppendsWhole bytes bytes texts
no_text bytes texts = record { count = 0; within = omega arith; front = sym (append-nil bytes) }

whole_texts : {old new : List ℕ} {texts : List (List ℕ)} → AppendsFirst old new texts → AppendsWhole old new texts
whole_texts h = record { count = h.count; within = omega (arith, h.fewer); front = h.front }

texts_read : {S : Type 0} {tells : S → Bool} {files : S → Files} {begun : S → List (List ℕ)} {read_faults : S → ℕ} {old new : S}
    (large : List Asked) (unread : List Written) {due : Files → Due Texts} (texts : Texts) → ReadsAs tells files begun read_faults old new due (Ok texts) → IsTrue (tells old) →
    texts large unread ≡ texts_by (due (files old)).answer large unread
texts_read large unread texts read t = sym (ap (λ answer. texts_by answer large unread) (read.is_due t))

module _ {S O T : Type 0} {tells : S → Bool} {files : S → Files} {begun : S → List (List ℕ)} {read_faults : S → ℕ} {old new : S}
    {shows : O → Bool} {written : O → List ℕ} {write_faults : O → ℕ} (large : List Asked) (unread : List Written) {due : Files → Due Texts} where
  -- the input is refused or can't be read
  pub refused : (out : O) {status : Status} → IsInputError status → ReadsAs {A = Texts} tells files begun read_faults old new due (Err status) →
      RunsAs {T = T} tells files begun read_faults old new shows written write_faults out out large unread due (Err status)
  refused out {status = status} kind read = record {
    kinds = failed_of status kind;
    is_due = λ t fine. ap status_by (read.is_due t fine);
    done = λ t. tt;
    accepted = λ t e. let same : status ≡ WriteFault = cc in absurd (no_output_fault status kind same);
    names = read.names;
    read_fault = λ e. let same : status ≡ ReadFault = cc in read.cause (ap Err same);
    write_fault = λ e. let same : status ≡ WriteFault = cc in absurd (no_output_fault status kind same);
    output = λ t s. tt;
    front = λ t s. nothing (written out) (concat (texts_by (due (files old)).answer large unread));
    whole = λ t s e. no_text (written out) (texts_by (due (files old)).answer large unread);
    silent = λ r. refl;
  }

  -- memory runs out behind the input, before anything is written
  pub no_memory : (out : O) (texts : Texts) → ReadsAs tells files begun read_faults old new due (Ok texts) →
      RunsAs {T = T} tells files begun read_faults old new shows written write_faults out out large unread due (Err NoMemory)
  no_memory out texts read = record {
    kinds = tt;
    is_due = λ t fine. cc;
    done = λ t. tt;
    accepted = λ t e. cc;
    names = read.names;
    read_fault = λ e. cc;
    write_fault = λ e. cc;
    output = λ t s. tt;
    front = λ t s. nothing (written out) (concat (texts_by (due (files old)).answer large unread));
    whole = λ t s e. no_text (written out) (texts_by (due (files old)).answer large unread);
    silent = λ r. cc;
  }

  -- all was written
  pub wrote : {before after : O} (texts : Texts) (x : T) → ReadsAs tells files begun read_faults old new due (Ok texts) →
      WritesTexts {T = T} shows written write_faults OutputFault OutputMemory before after (texts large unread) (Ok x) →
      RunsAs tells files begun read_faults old new shows written write_faults before after large unread due (Ok x)
  wrote {before = before} {after = after} texts x read write = record {
    kinds = tt;
    is_due = λ t. tt;
    done = λ t. ap status_by (read.is_due t);
    accepted = λ t e. cc;
    names = read.names;
    read_fault = λ e. cc;
    write_fault = λ e. cc;
    output = λ t s. subst (λ (ts : List (List ℕ)). written after ≡ written before ++ concat ts) (texts_read large unread texts read t) (write.whole s);
    front = λ t s. subst (λ (ts : List (List ℕ)). AppendsPrefix (written before) (written after) (concat ts)) (texts_read large unread texts read t) (write.front s);
    whole = λ t s e. cc;
    silent = tt;
  }

  -- writing failed
  pub failed : {before after : O} (texts : Texts) (error : ReportError) → ReadsAs tells files begun read_faults old new due (Ok texts) →
      WritesTexts {T = T} shows written write_faults OutputFault OutputMemory before after (texts large unread) (Err error) →
      RunsAs {T = T} tells files begun read_faults old new shows written write_faults before after large unread due (Err (status_of error))
  failed {before = before} {after = after} texts OutputFault read write = record {
    kinds = tt;
    is_due = λ t fine. cc;
    done = λ t. tt;
    accepted = λ t e. ap status_by (read.is_due t);
    names = read.names;
    read_fault = λ e. cc;
    write_fault = λ e. write.cause refl;
    output = λ t s. tt;
    front = λ t s. subst (λ (ts : List (List ℕ)). AppendsPrefix (written before) (written after) (concat ts)) (texts_read large unread texts read t) (write.front s);
    whole = λ t s e. cc;
    silent = λ r. cc;
  }
  failed {before = before} {after = after} texts OutputMemory read write = record {
    kinds = tt;
    is_due = λ t fine. cc;
    done = λ t. tt;
    accepted = λ t e. cc;
    names = read.names;
    read_fault = λ e. cc;
    write_fault = λ e. cc;
    output = λ t s. tt;
    front = λ t s. subst (λ (ts : List (List ℕ)). AppendsPrefix (written before) (written after) (concat ts)) (texts_read large unread texts read t) (write.front s);
    whole = λ t s e. subst (λ (ts : List (List ℕ)). AppendsWhole (written before) (written after) ts) (texts_read large unread texts read t) (whole_texts (write.first s refl));
    silent = λ r. cc;
  }

  -- an error that goes on as it is
  pub exits : {before after : O} {result : Result T Status} {status : Status} → (y : Status) × (result ≡ Err y) × (y ≡ status) →
      RunsAs {T = T} tells files begun read_faults old new shows written write_faults before after large unread due (Err status) →
      RunsAs tells files begun read_faults old new shows written write_faults before after large unread due result
  exits {before = before} {after = after} e h =
      subst (λ (r : Result T Status). RunsAs tells files begun read_faults old new shows written write_faults before after large unread due r) (sym (e.1 ∙ ap Err e.2)) h

-- a command that reads no files, over a shelf that it leaves as it is
pub alone : {S O T : Type 0} {tells : S → Bool} {files : S → Files} {begun : S → List (List ℕ)} {read_faults : S → ℕ}
    {shows : O → Bool} {written : O → List ℕ} {write_faults : O → ℕ} {before after : O} {large : List Asked} {unread : List Written} {due : Files → Due Texts} {result : Result T Status} →
    (old : S) → due (λ name. None) ≡ due (files old) → RunsAlone shows written write_faults before after large unread due result →
    RunsAs tells files begun read_faults old old shows written write_faults before after large unread due result
alone {begun = begun} {written = written} {before = before} {after = after} {large = large} {unread = unread} {result = result} old same h = record {
  kinds = h.kinds;
  is_due = λ t. subst (λ (d : Due Texts). IfErr result (λ status. is_failure status ≡ false → status_by d.answer ≡ status)) same (h.is_due refl);
  done = λ t. subst (λ (d : Due Texts). OnOk result (status_by d.answer ≡ Done)) same (h.done refl);
  accepted = λ t e. subst (λ (d : Due Texts). status_by d.answer ≡ Done) same (h.accepted refl e);
  names = λ t. record { count = 0; within = omega arith; front = sym (append-nil (begun old)) };
  read_fault = λ e. absurd (omega (arith, h.read_fault e));
  write_fault = h.write_fault;
  output = λ t s. subst (λ (d : Due Texts). OnOk result (written after ≡ written before ++ concat (texts_by d.answer large unread))) same (h.output refl s);
  front = λ t s. subst (λ (d : Due Texts). AppendsPrefix (written before) (written after) (concat (texts_by d.answer large unread))) same (h.front refl s);
  whole = λ t s e. subst (λ (d : Due Texts). AppendsWhole (written before) (written after) (texts_by d.answer large unread)) same (h.whole refl s e);
  silent = h.silent;
}

-- writing that fails refuses nothing
pub never_refused : {T : Type 0} (error : ReportError) (status : Status) (refusal : InputRefusal) → status ≡ status_of error →
    IsErrOf {T = T} (Err status) (Refused refusal) → ⊥
never_refused OutputFault status refusal h e = cc
never_refused OutputMemory status refusal h e = cc

-- errors of files and of pages are errors of input
pub file_kind : (status : Status) → IsFileError status → IsInputError status
file_kind Done h = h
file_kind Usage h = h
file_kind ReadFault h = tt
file_kind WriteFault h = h
file_kind (Refused refusal) h = tt
file_kind NoMemory h = tt

pub page_kind : (status : Status) → IsPageError status → IsInputError status
page_kind Done h = h
page_kind Usage h = h
page_kind ReadFault h = tt
page_kind WriteFault h = h
page_kind (Refused refusal) h = tt
page_kind NoMemory h = tt

-- what comes of a command that the words say is what comes of the words
pub texts_are : (command : Option Command) (words : Command) (files : Files) (large : List Asked) (unread : List Written) → command ≡ Some words →
    texts_by (texts_due words files).answer large unread ≡ texts_of command files large unread
unfolding texts_of
texts_are command words files large unread e = ap (λ (o : Option Command). texts_of o files large unread) (sym e)
