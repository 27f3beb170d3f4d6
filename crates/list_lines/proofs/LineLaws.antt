-- The first separator and the last `$` of a line, byte by byte.
use Rattle.std.proofs.Common.{◌≡◌, ℕ, ◌+◌, ◌==◌, ◌<◌, ◌≤◌, Bool, true, false, List, [], ◌∷◌, Option, Some, None, length, get_or, drop, refl, ap, sym, subst, ◌∙◌, ◌≢◌, arith, eq-eqb, ne_eqb}
use Rattle.std.proofs.lemmas.List.{drop_more, drop_all}
use Rattle.list_lines.specs.declared.separator.Separator.{Separator}
use Rattle.std.specs.Prelude.{if◌then◌else◌, nat_lt, not}
use Rattle.std.specs.Str.{IsUtf8, is_utf8}
use Rattle.std.specs.Str.Lossy.{utf8_valid_len}
use Rattle.std.proofs.lemmas.Bool.Decides.{nat_tests}
use Rattle.std.proofs.lemmas.Str.{IsUtf8-from_is_utf8, is_utf8-from_IsUtf8}
use Rattle.cos_source.specs.Spaces.{space_count, trimmed}
use Rattle.selector_spelling.specs.declared.finding.Cause.TheVariants as cause
use Rattle.selector_spelling.specs.declared.finding.Finding.TheVariants.{Malformed}
use Rattle.list_lines.specs.declared.TheConstants.{LINE_LIMIT}
use Rattle.list_lines.specs.declared.options.Domain.{Domain}
use Rattle.list_lines.specs.declared.options.Domain.TheVariants.{Silent, Hosts, Unread}
use Rattle.list_lines.specs.Meanings.{HostsBy}
use Rattle.list_lines.specs.Lines.{last_place, line_of, noted, or_here, trimmed_line}
use Rattle.list_lines.specs.Separators.{first_separator, or_behind, separator_of}

-- a text that begins with another byte than `#` begins with no separator
no_hash : (b : ℕ) (text : List ℕ) → (b == 35) ≡ false → separator_of (b ∷ text) ≡ None
no_hash b text h = rw h refl

separator_step : (b place : ℕ) (text : List ℕ) → separator_of (b ∷ text) ≡ None → first_separator place (b ∷ text) ≡ first_separator (place + 1) text
separator_step b place text e = ap (λ (s : Option Separator). or_behind place s (first_separator (place + 1) text)) e

-- no separator begins at this place
pub none_here : (place : ℕ) (text : List ℕ) (total : Option (ℕ × Separator)) → place < length text → separator_of (drop place text) ≡ None
    → first_separator place (drop place text) ≡ total → first_separator (place + 1) (drop (place + 1) text) ≡ total
none_here place text total lt none h =
    let e = drop_more text place 0 lt in
    sym (separator_step (get_or text place 0) place (drop (place + 1) text) (ap separator_of (sym e) ∙ none))
    ∙ ap (λ (t : List ℕ). first_separator place t) (sym e) ∙ h

pub no_hash_here : (place : ℕ) (text : List ℕ) → place < length text → (get_or text place 0 == 35) ≡ false → separator_of (drop place text) ≡ None
no_hash_here place text lt h = ap separator_of (drop_more text place 0 lt) ∙ no_hash (get_or text place 0) (drop (place + 1) text) h

-- one begins at this place
pub one_here : (place : ℕ) (text : List ℕ) (s : Separator) (total : Option (ℕ × Separator)) → place < length text → separator_of (drop place text) ≡ Some s
    → first_separator place (drop place text) ≡ total → total ≡ Some (place, s)
one_here place text s total lt is h =
    let e = drop_more text place 0 lt in
    sym h ∙ ap (λ (t : List ℕ). first_separator place t) e
    ∙ ap (λ (o : Option Separator). or_behind place o (first_separator (place + 1) (drop (place + 1) text))) (ap separator_of (sym e) ∙ is)

pub none_left : (place : ℕ) (text : List ℕ) (total : Option (ℕ × Separator)) → length text ≤ place → first_separator place (drop place text) ≡ total → total ≡ None
none_left place text total most h = sym h ∙ ap (λ (t : List ℕ). first_separator place t) (drop_all place text most)

-- ---- the last `$`

-- a place that was found, or a later one
abbrev pub or_last : Option ℕ → Option ℕ → Option ℕ
or_last last (Some place) = Some place
or_last last None = last

dollar_step : (last : Option ℕ) (more : Option ℕ) (place : ℕ) → or_last last (or_here true more place) ≡ or_last (Some place) more
dollar_step last (Some later) place = refl
dollar_step last None place = refl

other_step : (last : Option ℕ) (more : Option ℕ) (place : ℕ) → or_last last (or_here false more place) ≡ or_last last more
other_step last (Some later) place = refl
other_step last None place = refl

pub dollar_here : (place : ℕ) (text : List ℕ) (last after total : Option ℕ) → after ≡ Some place → place < length text → get_or text place 0 ≡ 36
    → or_last last (last_place 36 place (drop place text)) ≡ total → or_last after (last_place 36 (place + 1) (drop (place + 1) text)) ≡ total
dollar_here place text last after total a lt is h =
    let more = last_place 36 (place + 1) (drop (place + 1) text) in
    ap (λ (l : Option ℕ). or_last l more) a
    ∙ sym (dollar_step last more place)
    ∙ ap (λ (v : Bool). or_last last (or_here v more place)) (sym (eq-eqb (get_or text place 0) 36 is))
    ∙ ap (λ (t : List ℕ). or_last last (last_place 36 place t)) (sym (drop_more text place 0 lt)) ∙ h

pub other_here : (place : ℕ) (text : List ℕ) (last after total : Option ℕ) → after ≡ last → place < length text → get_or text place 0 ≢ 36
    → or_last last (last_place 36 place (drop place text)) ≡ total → or_last after (last_place 36 (place + 1) (drop (place + 1) text)) ≡ total
other_here place text last after total a lt is h =
    let more = last_place 36 (place + 1) (drop (place + 1) text) in
    ap (λ (l : Option ℕ). or_last l more) a
    ∙ sym (other_step last more place)
    ∙ ap (λ (v : Bool). or_last last (or_here v more place)) (sym (ne_eqb (get_or text place 0) 36 is))
    ∙ ap (λ (t : List ℕ). or_last last (last_place 36 place t)) (sym (drop_more text place 0 lt)) ∙ h

pub dollar_at : (text : List ℕ) (place x : ℕ) (last : Option ℕ) → last ≡ Some place → place < length text → get_or text place 0 ≡ 36 → last ≡ Some x
    → (x < length text) × (get_or text x 0 ≡ 36)
dollar_at text place x last a lt is e =
    let same : place ≡ x = cc in
    (subst (λ (k : ℕ). k < length text) same lt, subst (λ (k : ℕ). get_or text k 0 ≡ 36) same is)

or_none : (last : Option ℕ) → or_last last None ≡ last
or_none last = refl

pub no_more_left : (place : ℕ) (text : List ℕ) (last total : Option ℕ) → length text ≤ place → or_last last (last_place 36 place (drop place text)) ≡ total → last ≡ total
no_more_left place text last total most h = ap (λ (t : List ℕ). or_last last (last_place 36 place t)) (sym (drop_all place text most)) ∙ h

-- ---- whole lines

pick : {A : Type 0} (a b : Bool) (x y z : A) → a ≡ false → b ≡ true → z ≡ (if a then x else (if not b then y else z))
pick true b x y z h k = let no : true ≡ false = h in cc
pick false true x y z h k = refl
pick false false x y z h k = let no : false ≡ true = k in cc

pick_second : {A : Type 0} (a b : Bool) (x y z : A) → a ≡ false → b ≡ false → y ≡ (if a then x else (if not b then y else z))
pick_second true b x y z h k = let no : true ≡ false = h in cc
pick_second false false x y z h k = refl
pick_second false true x y z h k = let no : true ≡ false = k in cc

short : (line : List ℕ) → length line ≤ LINE_LIMIT → nat_lt LINE_LIMIT (length line) ≡ false
short line h = grind (arith, nat_tests)

not_text_by : (line : List ℕ) (v : Bool) → is_utf8 line ≡ v → ¬ (IsUtf8 line) → is_utf8 line ≡ false
not_text_by line true e h = absurd (h (IsUtf8-from_is_utf8 line e))
not_text_by line false e h = e

pub text_is : (line : List ℕ) → length line ≤ LINE_LIMIT → IsUtf8 line → trimmed_line (space_count line) (trimmed line) ≡ line_of line
text_is line h u =
    pick (nat_lt LINE_LIMIT (length line)) (is_utf8 line) (noted (Malformed cause.LineTooLong LINE_LIMIT)) (noted (Malformed cause.NotUtf8 (utf8_valid_len line)))
    (trimmed_line (space_count line) (trimmed line)) (short line h) (is_utf8-from_IsUtf8 line u)

pub no_text_is : (line : List ℕ) → length line ≤ LINE_LIMIT → ¬ (IsUtf8 line) → noted (Malformed cause.NotUtf8 (utf8_valid_len line)) ≡ line_of line
no_text_is line h u =
    pick_second (nat_lt LINE_LIMIT (length line)) (is_utf8 line) (noted (Malformed cause.LineTooLong LINE_LIMIT)) (noted (Malformed cause.NotUtf8 (utf8_valid_len line)))
    (trimmed_line (space_count line) (trimmed line)) (short line h) (not_text_by line (is_utf8 line) refl u)

-- ---- places

pub hosts_more : (n m : ℕ) (domain : Domain) → n ≤ m → HostsBy n domain → HostsBy m domain
hosts_more n m Silent h k = tt
hosts_more n m (Hosts part) h k = omega (arith, h, k)
hosts_more n m Unread h k = tt
