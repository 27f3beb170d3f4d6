-- How files are read one after the other.
use Rattle.std.proofs.Common.{◌≡◌, ◌+◌, ◌-◌, ◌≤◌, ◌∙◌, ℕ, Bool, false, List, [], ◌∷◌, ◌++◌, ◌<◌, suc, length, drop, get_or, add-one, drop-cons, Result, Ok, Err, IsTrue, OnOk, IfErr, arith, refl, sym, ap, subst, append-nil, append_assoc, le_refl}
use Rattle.std.proofs.lemmas.List.{drop_all}
use Rattle.cos_outside.specs.Causes.{Rose}
use Rattle.cos_outside.specs.Runs.{AppendsPrefix}
use Rattle.cos_outside.proofs.Appending.{front_of_first, front_of_second, whole_is_front}
use Rattle.command_inputs.specs.declared.TheConstants.{FILE_LIMIT}
use Rattle.command_inputs.specs.declared.status.File.TheVariants as file
use Rattle.command_inputs.specs.declared.status.Status.{Status}
use Rattle.command_inputs.specs.declared.status.Status.TheVariants.{ReadFault, NoMemory}
use Rattle.command_inputs.specs.Due.{Due, Files, at_once, behind, file_due, ◌>>=◌}
use Rattle.command_inputs.specs.Inputs.{lists_due}
use Rattle.command_inputs.specs.Reads.{IsDue, IsAddressError, IsPageError, ReadsAs, is_failure}

told_still : {a b : Bool} → b ≡ a → IsTrue a → IsTrue b
told_still e h = rw e h

rose_since : (a b c : ℕ) → a ≤ b → Rose b c → Rose a c
rose_since a b c later rose = omega arith

-- the first came to something
behind-ok : {A B : Type 0} (d : Due A) (next : A → Due B) (x : A) → d.answer ≡ Ok x →
    (d >>= next) ≡ record { begun = d.begun ++ (next x).begun; answer = (next x).answer }
behind-ok d next x e = ap (λ a. behind d.begun a next) e

-- the names that are begun for the first are begun for all
names_behind : {A B : Type 0} (old new begun : List (List ℕ)) (answer : Result A Status) (next : A → Due B) →
    AppendsPrefix old new begun → AppendsPrefix old new (behind begun answer next).begun
names_behind old new begun (Ok x) next h = front_of_first old new begun (next x).begun h
names_behind old new begun (Err status) next h = h

-- all names, of two that are read
all_names_of : {B : Type 0} (result : Result B Status) (old mid new one two : List (List ℕ)) → mid ≡ old ++ one → OnOk result (new ≡ mid ++ two) →
    OnOk result (new ≡ old ++ (one ++ two))
all_names_of (Ok x) old mid new one two e h = h ∙ ap (λ ns. ns ++ two) e ∙ append_assoc old one two
all_names_of (Err status) old mid new one two e h = tt

none_begun : {A : Type 0} (result : Result A Status) (begun : List (List ℕ)) → OnOk result (begun ≡ begun ++ [])
none_begun (Ok x) begun = sym (append-nil begun)
none_begun (Err status) begun = tt

-- an error of a page, and one of an address, come from no fault
pub no_page_fault : {A : Type 0} (result : Result A Status) → IfErr result IsPageError → result ≡ Err ReadFault → ⊥
no_page_fault {A = A} result h e = subst (λ (r : Result A Status). IfErr r IsPageError) e h

pub no_address_fault : {A : Type 0} (result : Result A Status) → IfErr result IsAddressError → result ≡ Err ReadFault → ⊥
no_address_fault {A = A} result h e = subst (λ (r : Result A Status). IfErr r IsAddressError) e h

pub none_at_ok : {A : Type 0} (x : A) → Ok x ≡ Err ReadFault → ⊥
none_at_ok x e = cc

-- one is read, and then the next
pub reads_then : {S A B : Type 0} {tells : S → Bool} {files : S → Files} {begun : S → List (List ℕ)} {faults : S → ℕ} {old mid new : S}
    {first : Files → Due A} {x : A} {result : Result B Status} (next : A → Files → Due B) →
    ReadsAs tells files begun faults old mid first (Ok x) → ReadsAs tells files begun faults mid new (next x) result →
    ReadsAs tells files begun faults old new (λ fs. first fs >>= λ y. next y fs) result
reads_then {A = A} {B = B} {tells = tells} {files = files} {begun = begun} {faults = faults} {old = old} {mid = mid} {new = new} {first = first} {x = x} {result = result} next one two =
    let whole = λ (t : IsTrue (tells old)). behind-ok (first (files old)) (λ y. next y (files old)) x (one.is_due t) in
    record {
      told = two.told ∙ one.told;
      same_files = two.same_files ∙ one.same_files;
      is_due = λ t.
          subst (λ (d : Due B). IsDue result d.answer) (sym (whole t))
          (subst (λ (fs : Files). IsDue result (next x fs).answer) one.same_files (two.is_due (told_still one.told t)));
      names = λ t.
          subst (λ (d : Due B). AppendsPrefix (begun old) (begun new) d.begun) (sym (whole t))
          (front_of_second (begun old) (begun mid) (begun new) (first (files old)).begun (next x (files old)).begun (one.all_names t)
          (subst (λ (fs : Files). AppendsPrefix (begun mid) (begun new) (next x fs).begun) one.same_files (two.names (told_still one.told t))));
      all_names = λ t.
          subst (λ (d : Due B). OnOk result (begun new ≡ begun old ++ d.begun)) (sym (whole t))
          (all_names_of result (begun old) (begun mid) (begun new) (first (files old)).begun (next x (files old)).begun (one.all_names t)
          (subst (λ (fs : Files). OnOk result (begun new ≡ begun mid ++ (next x fs).begun)) one.same_files (two.all_names (told_still one.told t))));
      later = omega (arith, one.later, two.later);
      cause = λ e. rose_since (faults old) (faults mid) (faults new) one.later (two.cause e);
    }

-- the first is missing or refused
pub reads_error : {S A B : Type 0} {tells : S → Bool} {files : S → Files} {begun : S → List (List ℕ)} {faults : S → ℕ} {old new : S}
    {first : Files → Due A} {status : Status} (next : A → Files → Due B) →
    ReadsAs {A = A} tells files begun faults old new first (Err status) →
    ReadsAs {A = B} tells files begun faults old new (λ fs. first fs >>= λ y. next y fs) (Err status)
reads_error {files = files} {begun = begun} {old = old} {new = new} {first = first} {status = status} next one = record {
  told = one.told;
  same_files = one.same_files;
  is_due = λ t fine. ap (λ a. (behind (first (files old)).begun a (λ y. next y (files old))).answer) (one.is_due t fine);
  names = λ t. names_behind (begun old) (begun new) (first (files old)).begun (first (files old)).answer (λ y. next y (files old)) (one.names t);
  all_names = λ t. tt;
  later = one.later;
  cause = λ e. let same : status ≡ ReadFault = cc in one.cause (ap Err same);
}

-- no file is begun
pub reads_none : {S A : Type 0} {tells : S → Bool} {files : S → Files} {begun : S → List (List ℕ)} {faults : S → ℕ} (old : S)
    (answer result : Result A Status) → IsDue result answer → (result ≡ Err ReadFault → ⊥) →
    ReadsAs tells files begun faults old old (λ fs. at_once answer) result
reads_none {begun = begun} {faults = faults} old answer result due no_fault = record {
  told = refl;
  same_files = refl;
  is_due = λ t. due;
  names = λ t. whole_is_front (begun old) (begun old) [] (sym (append-nil (begun old)));
  all_names = λ t. none_begun result (begun old);
  later = le_refl (faults old);
  cause = λ e. absurd (no_fault e);
}

-- want of memory before anything is read
pub reads_no_memory : {S A : Type 0} {tells : S → Bool} {files : S → Files} {begun : S → List (List ℕ)} {faults : S → ℕ} (old : S)
    (due : Files → Due A) → ReadsAs tells files begun faults old old due (Err NoMemory)
reads_no_memory {begun = begun} {faults = faults} old due = record {
  told = refl;
  same_files = refl;
  is_due = λ t fine. cc;
  names = λ t. record { count = 0; within = omega arith; front = sym (append-nil (begun old)) };
  all_names = λ t. tt;
  later = le_refl (faults old);
  cause = λ e. cc;
}

-- ---- lists

-- lists, and those that were read before them
abbrev pub behind_lists : List (List ℕ) → Result (List (List ℕ)) Status → Result (List (List ℕ)) Status
behind_lists lists (Ok more) = Ok (lists ++ more)
behind_lists lists (Err status) = Err status

pub behind_more : (lists : List (List ℕ)) (bytes : List ℕ) (rest : Result (List (List ℕ)) Status) →
    behind_lists lists (behind_lists (bytes ∷ []) rest) ≡ behind_lists (lists ++ bytes ∷ []) rest
behind_more lists bytes (Ok more) = ap Ok (sym (append_assoc lists (bytes ∷ []) more))
behind_more lists bytes (Err status) = refl

pub behind_no_lists : (rest : Result (List (List ℕ)) Status) → behind_lists [] rest ≡ rest
behind_no_lists (Ok more) = refl
behind_no_lists (Err status) = refl

-- an error that goes on as it is
pub exits : {S A : Type 0} {tells : S → Bool} {files : S → Files} {begun : S → List (List ℕ)} {faults : S → ℕ} {old new : S} {due : Files → Due A}
    {result : Result A Status} {status : Status} → (y : Status) × (result ≡ Err y) × (y ≡ status) →
    ReadsAs {A = A} tells files begun faults old new due (Err status) → ReadsAs tells files begun faults old new due result
exits {A = A} {tells = tells} {files = files} {begun = begun} {faults = faults} {old = old} {new = new} {due = due} e h =
    subst (λ (r : Result A Status). ReadsAs tells files begun faults old new due r) (sym (e.1 ∙ ap Err e.2)) h

abbrev pub after_list : ℕ → ℕ → List (List ℕ) → List ℕ → Files → Due (List (List ℕ))
after_list number room rest bytes files = lists_due (number + 1) (room - length bytes) rest files >>= λ more. at_once (Ok (bytes ∷ more))

-- a list is missing or refused
pub list_error : {S : Type 0} {tells : S → Bool} {files : S → Files} {begun : S → List (List ℕ)} {faults : S → ℕ} {old new : S} {status : Status}
    (number room : ℕ) (name : List ℕ) (rest : List (List ℕ)) → ReadsAs {A = List ℕ} tells files begun faults old new (file_due (file.List number) room name) (Err status) →
    ReadsAs {A = List (List ℕ)} tells files begun faults old new (lists_due number room (name ∷ rest)) (Err status)
list_error number room name rest h = reads_error (after_list number room rest) h

-- a list is read, and then the others
pub list_then : {S : Type 0} {tells : S → Bool} {files : S → Files} {begun : S → List (List ℕ)} {faults : S → ℕ} {old mid new : S} {bytes : List ℕ}
    (number room : ℕ) (name : List ℕ) (rest : List (List ℕ)) (result : Result (List (List ℕ)) Status) →
    ReadsAs tells files begun faults old mid (file_due (file.List number) room name) (Ok bytes) →
    ReadsAs tells files begun faults mid new (lists_due (number + 1) (room - length bytes) rest) result →
    ReadsAs tells files begun faults old new (lists_due number room (name ∷ rest)) (behind_lists (bytes ∷ []) result)
list_then {new = new} {bytes = bytes} number room name rest (Ok more) one two =
    reads_then (after_list number room rest) one (reads_then (λ more fs. at_once (Ok (bytes ∷ more))) two (reads_none new (Ok (bytes ∷ more)) (Ok (bytes ∷ more)) refl (none_at_ok (bytes ∷ more))))
list_then {bytes = bytes} number room name rest (Err status) one two =
    reads_then (after_list number room rest) one (reads_error (λ more fs. at_once (Ok (bytes ∷ more))) two)

-- the names that are left begin with the one at hand
pub names_left : (names items : List (List ℕ)) (i : ℕ) (name text : List ℕ) → items ≡ names → i < length items → name ≡ get_or items i name → text ≡ name →
    drop i names ≡ text ∷ drop (i + 1) names
names_left names items i name text e within is same =
    let inside : i < length names = subst (λ (ns : List (List ℕ)). i < length ns) e within in
    let first : name ≡ get_or names i name = subst (λ (ns : List (List ℕ)). name ≡ get_or ns i name) e is in
    rw add-one (drop-cons names i name inside ∙ ap (λ (n : List ℕ). n ∷ drop (suc i) names) (sym first ∙ sym same))

-- what comes of the lists that are left decides what comes of all
abbrev pub DecidesAll : {S : Type 0} → (S → Bool) → (S → Files) → (S → List (List ℕ)) → (S → ℕ) → S → S → List (List ℕ) → List (List ℕ) → ℕ → ℕ → List (List ℕ) → Type 0
DecidesAll {S = S} tells files begun faults old mid names lists number room left =
    (new : S) (rest : Result (List (List ℕ)) Status) →
    ReadsAs tells files begun faults mid new (lists_due number room left) rest →
    ReadsAs tells files begun faults old new (lists_due 1 FILE_LIMIT names) (behind_lists lists rest)

-- one more list
pub decides_after : {S : Type 0} {tells : S → Bool} {files : S → Files} {begun : S → List (List ℕ)} {faults : S → ℕ} (old mid next : S)
    (names lists more left : List (List ℕ)) (number room : ℕ) (name bytes : List ℕ) (rest : List (List ℕ)) → left ≡ name ∷ rest → more ≡ lists ++ bytes ∷ [] →
    ReadsAs tells files begun faults mid next (file_due (file.List number) room name) (Ok bytes) →
    DecidesAll tells files begun faults old mid names lists number room left → DecidesAll tells files begun faults old next names more (number + 1) (room - length bytes) rest
decides_after {tells = tells} {files = files} {begun = begun} {faults = faults} old mid next names lists more left number room name bytes rest e added read decides = λ new result h.
    subst (λ (all : List (List ℕ)). ReadsAs tells files begun faults old new (lists_due 1 FILE_LIMIT names) (behind_lists all result)) (sym added)
    (subst (λ (r : Result (List (List ℕ)) Status). ReadsAs tells files begun faults old new (lists_due 1 FILE_LIMIT names) r) (behind_more lists bytes result)
    (decides new (behind_lists (bytes ∷ []) result)
    (subst (λ (ns : List (List ℕ)). ReadsAs tells files begun faults mid new (lists_due number room ns) (behind_lists (bytes ∷ []) result)) (sym e)
    (list_then number room name rest result read h))))

-- no list is left
pub decides_last : {S : Type 0} {tells : S → Bool} {files : S → Files} {begun : S → List (List ℕ)} {faults : S → ℕ} (old mid : S)
    (names items lists : List (List ℕ)) (number room i : ℕ) → items ≡ names → length items ≤ i →
    DecidesAll tells files begun faults old mid names lists number room (drop i names) → ReadsAs tells files begun faults old mid (lists_due 1 FILE_LIMIT names) (Ok lists)
decides_last {tells = tells} {files = files} {begun = begun} {faults = faults} old mid names items lists number room i e past decides =
    let none : drop i names ≡ [] = drop_all i names (subst (λ (ns : List (List ℕ)). length ns ≤ i) e past) in
    subst (λ (all : List (List ℕ)). ReadsAs tells files begun faults old mid (lists_due 1 FILE_LIMIT names) (Ok all)) (append-nil lists)
    (decides mid (Ok []) (subst (λ (ns : List (List ℕ)). ReadsAs tells files begun faults mid mid (lists_due number room ns) (Ok [])) (sym none)
    (reads_none mid (Ok []) (Ok []) refl (none_at_ok []))))
