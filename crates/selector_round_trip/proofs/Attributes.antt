-- Attributes: their canonical text is read as they are.
use Rattle.std.proofs.Common.{◌≡◌, ℕ, Bool, true, false, eqb, [], ◌∷◌, ◌++◌, codes, Option, Some, None, if◌then◌else◌, refl, sym, ap, ap₂, subst, ◌∙◌, append_assoc, inl, inr}
use Rattle.std.specs.Prelude.{option_and_then}
use Rattle.std.specs.Str.{str_to_ascii_lowercase}
use Rattle.std.proofs.lemmas.Bool.{cases_Bool}
use Rattle.cos_source.specs.Spaces.{is_space, without_first_spaces, trimmed}
use Rattle.selector_tree.specs.declared.letters.Spelling.TheVariants as spelling
use Rattle.selector_tree.specs.declared.selector.AttrOp.{AttrOp}
use Rattle.selector_tree.specs.declared.selector.AttrOp.TheVariants.{Exists, Equals, Word, Dash, Prefix, Suffix, Part}
use Rattle.selector_tree.specs.declared.selector.Test.{Test}
use Rattle.selector_tree.specs.declared.selector.Test.TheVariants as test
use Rattle.selector_tree.specs.Letters.{is_name_byte, letters, name_text, string_text}
use Rattle.selector_tree.specs.Canonical.{op_text, value_text}
use Rattle.selector_spelling.specs.declared.open.Open.TheVariants.{Square}
use Rattle.selector_spelling.specs.Bytes.{Bytes, is_empty}
use Rattle.selector_spelling.specs.Names.{Taken, name, string}
use Rattle.selector_spelling.specs.Attributes.{Comparison, with_equals, comparison, value, flag, compared, attribute}
use Rattle.selector_round_trip.proofs.Scanned.{IsKept, IsKept-nil, IsKept-append}
use Rattle.selector_round_trip.proofs.Classes.{apart}
use Rattle.selector_round_trip.proofs.Names.{IsRead, Ends, Printed, begins_text, read_again, read_printed, name_read, lower_read, lower_lower}
use Rattle.selector_round_trip.proofs.NameScans.{name_square, string_square, string_again}
use Rattle.selector_round_trip.proofs.Numbers.{then_some}

-- a test of an attribute that stands for itself: without a value it asks for nothing more
abbrev pub fits : AttrOp → Bytes → Bool → Type 0
fits Exists v i = (v ≡ []) × (i ≡ false)
fits Equals v i = Unit {0}
fits Word v i = Unit {0}
fits Dash v i = Unit {0}
fits Prefix v i = Unit {0}
fits Suffix v i = Unit {0}
fits Part v i = Unit {0}

pub record IsAttr (key : Bytes) (op : AttrOp) (v : Bytes) (i : Bool) : Type 0 where
  pub name : IsRead key
  pub lower : str_to_ascii_lowercase key ≡ key
  pub fits : fits op v i

-- what an attribute is read as
pub record Attribute (t : Test) : Type 0 where
  pub key : Bytes
  pub op : AttrOp
  pub v : Bytes
  pub i : Bool
  pub is : test.Attr key op v i ≡ t
  pub attr : IsAttr key op v i

-- ---- what is read

abbrev OnComparison : Option Comparison → Type 0
OnComparison None = Unit {0}
OnComparison (Some c) = (v : Bytes) (i : Bool) → fits c.op v i

on_cond : (c : Bool) (x y : Option Comparison) → OnComparison x → OnComparison y → OnComparison (if c then x else y)
on_cond true x y h g = h
on_cond false x y h g = g

with_equals_fits : (op : AttrOp) (text : Bytes) → ((v : Bytes) (i : Bool) → fits op v i) → OnComparison (with_equals op text)
with_equals_fits op [] h = tt
with_equals_fits op (b ∷ text) h = on_cond (eqb b 61) _ _ h tt

comparison_fits : (text : Bytes) → OnComparison (comparison text)
comparison_fits [] = tt
comparison_fits (b ∷ text) =
    on_cond (eqb b 61) _ _ (λ v i. tt)
    (on_cond (eqb b 126) _ _ (with_equals_fits Word text (λ v i. tt))
    (on_cond (eqb b 124) _ _ (with_equals_fits Dash text (λ v i. tt))
    (on_cond (eqb b 94) _ _ (with_equals_fits Prefix text (λ v i. tt))
    (on_cond (eqb b 36) _ _ (with_equals_fits Suffix text (λ v i. tt))
    (on_cond (eqb b 42) _ _ (with_equals_fits Part text (λ v i. tt)) tt)))))

compared_read : (key text : Bytes) (t : Test) → IsRead key → compared key text ≡ Some t → Attribute t
compared_read key text t h g =
    let c = then_some (comparison text) _ t g in
    let v = then_some (value (without_first_spaces c.value.rest)) _ t c.gives in
    let f = then_some (flag (str_to_ascii_lowercase (trimmed v.value.rest))) _ t v.gives in
    let fit : OnComparison (Some c.value) = subst OnComparison c.is (comparison_fits text) in
    record {
      key = str_to_ascii_lowercase key;
      op = c.value.op;
      v = v.value.value;
      i = f.value;
      is = (let w = f.gives in cc);
      attr = record { name = lower_read key h; lower = lower_lower key; fits = fit v.value.value f.value };
    }

pub attribute_read : (text : Bytes) (t : Test) → attribute text ≡ Some t → Attribute t
attribute_read text t h =
    let k = then_some (name (without_first_spaces text)) _ t h in
    let n = name_read (without_first_spaces text) k.value k.is in
    let rest = without_first_spaces k.value.rest in
    let key = k.value.value in
    elim (cases_Bool (is_empty rest)) [
      | inl none ↦ (
          let w : Some (test.Attr (str_to_ascii_lowercase key) Exists [] false) ≡ Some t = sym (ap (λ (c : Bool). if c then Some (test.Attr (str_to_ascii_lowercase key) Exists [] false) else compared key rest) none) ∙ k.gives in
          record { key = str_to_ascii_lowercase key; op = Exists; v = []; i = false; is = (cc); attr = record { name = lower_read key n; lower = lower_lower key; fits = (refl, refl) } })
      | inr some ↦ compared_read key rest t n (sym (ap (λ (c : Bool). if c then Some (test.Attr (str_to_ascii_lowercase key) Exists [] false) else compared key rest) some) ∙ k.gives)
    ]

-- ---- again

-- no name goes on into a byte that is no part of one
pub ends_before : (b : ℕ) (rest : Bytes) → is_name_byte b ≡ false → eqb b 92 ≡ false → Ends (b ∷ rest)
ends_before b rest h k = record { ends = rw (h, k) refl }

pub ends_nil : Ends []
ends_nil = record { ends = refl }

begins_solid : (b : ℕ) → begins_text b ≡ true → is_space b ≡ false
begins_solid b h = let d = apart begins_text b in rw (d 32 h refl, d 9 h refl, d 12 h refl, d 13 h refl) refl

solid_first : (text rest : Bytes) → Printed text → without_first_spaces (text ++ rest) ≡ text ++ rest
solid_first text rest p =
    ap (λ (t : Bytes). without_first_spaces (t ++ rest)) p.is
    ∙ ap (λ (c : Bool). if c then without_first_spaces (p.others ++ rest) else p.first ∷ (p.others ++ rest)) (begins_solid p.first p.begins)
    ∙ ap (λ (t : Bytes). t ++ rest) (sym p.is)

abbrev flag_text : Bool → Bytes
flag_text i = if i then codes " i" else []

flag_again : (i : Bool) → flag (str_to_ascii_lowercase (trimmed (flag_text i))) ≡ Some i
flag_again true = refl
flag_again false = refl

abbrev flagged : Bytes → AttrOp → Bytes → Option Bool → Option Test
flagged key op v o = option_and_then (λ (f : Bool). Some (test.Attr (str_to_ascii_lowercase key) op v f)) o

-- a value in quotes with its flag
quoted_again : (key : Bytes) (op : AttrOp) (v : Bytes) (i : Bool)
    → option_and_then (λ (t : Taken). flagged key op t.value (flag (str_to_ascii_lowercase (trimmed t.rest)))) (value (without_first_spaces (string_text v ++ flag_text i))) ≡ Some (test.Attr (str_to_ascii_lowercase key) op v i)
quoted_again key op v i =
    let then_flag : Option Taken → Option Test = λ (o : Option Taken). option_and_then (λ (t : Taken). flagged key op t.value (flag (str_to_ascii_lowercase (trimmed t.rest)))) o in
    ap (λ (t : Bytes). then_flag (string 34 0 t)) (append_assoc (letters spelling.Quoted v) (34 ∷ []) (flag_text i))
    ∙ ap then_flag (string_again v (flag_text i))
    ∙ ap (flagged key op v) (flag_again i)

abbrev compared_value : Bytes → AttrOp → Bytes → Bool → Type 0
compared_value key op v i =
    (is_empty (without_first_spaces (value_text op v i)) ≡ false) × (compared key (without_first_spaces (value_text op v i)) ≡ Some (test.Attr (str_to_ascii_lowercase key) op v i))

abbrev valued : Bytes → AttrOp → Bytes → Bool → Type 0
valued key Exists v i = Unit {0}
valued key Equals v i = compared_value key Equals v i
valued key Word v i = compared_value key Word v i
valued key Dash v i = compared_value key Dash v i
valued key Prefix v i = compared_value key Prefix v i
valued key Suffix v i = compared_value key Suffix v i
valued key Part v i = compared_value key Part v i

value_again : (key : Bytes) (op : AttrOp) (v : Bytes) (i : Bool) → valued key op v i
value_again key Exists v i = tt
value_again key Equals v i = (refl, quoted_again key Equals v i)
value_again key Word v i = (refl, quoted_again key Word v i)
value_again key Dash v i = (refl, quoted_again key Dash v i)
value_again key Prefix v i = (refl, quoted_again key Prefix v i)
value_again key Suffix v i = (refl, quoted_again key Suffix v i)
value_again key Part v i = (refl, quoted_again key Part v i)

value_ends : (op : AttrOp) (v : Bytes) (i : Bool) → Ends (value_text op v i)
value_ends Exists v i = ends_nil
value_ends Equals v i = ends_before 61 _ refl refl
value_ends Word v i = ends_before 126 _ refl refl
value_ends Dash v i = ends_before 124 _ refl refl
value_ends Prefix v i = ends_before 94 _ refl refl
value_ends Suffix v i = ends_before 36 _ refl refl
value_ends Part v i = ends_before 42 _ refl refl

abbrev pub attr_argument : Bytes → AttrOp → Bytes → Bool → Bytes
attr_argument key op v i = name_text key ++ value_text op v i

-- behind the name
abbrev behind_key : Bytes → Bytes → Option Test
behind_key key rest = if is_empty rest then Some (test.Attr (str_to_ascii_lowercase key) Exists [] false) else compared key rest

with_value : (key : Bytes) (op : AttrOp) (v : Bytes) (i : Bool) → compared_value key op v i → str_to_ascii_lowercase key ≡ key → behind_key key (without_first_spaces (value_text op v i)) ≡ Some (test.Attr key op v i)
with_value key op v i h lower =
    let rest = without_first_spaces (value_text op v i) in
    ap (λ (c : Bool). if c then Some (test.Attr (str_to_ascii_lowercase key) Exists [] false) else compared key rest) h.0 ∙ h.1 ∙ ap (λ (k : Bytes). Some (test.Attr k op v i)) lower

behind_again : (key : Bytes) (op : AttrOp) (v : Bytes) (i : Bool) → IsAttr key op v i → behind_key key (without_first_spaces (value_text op v i)) ≡ Some (test.Attr key op v i)
behind_again key Exists v i h = ap₂ (λ (w : Bytes) (j : Bool). Some (test.Attr (str_to_ascii_lowercase key) Exists w j)) (sym h.fits.0) (sym h.fits.1) ∙ ap (λ (k : Bytes). Some (test.Attr k Exists v i)) h.lower
behind_again key Equals v i h = with_value key Equals v i (value_again key Equals v i) h.lower
behind_again key Word v i h = with_value key Word v i (value_again key Word v i) h.lower
behind_again key Dash v i h = with_value key Dash v i (value_again key Dash v i) h.lower
behind_again key Prefix v i h = with_value key Prefix v i (value_again key Prefix v i) h.lower
behind_again key Suffix v i h = with_value key Suffix v i (value_again key Suffix v i) h.lower
behind_again key Part v i h = with_value key Part v i (value_again key Part v i) h.lower

pub attribute_again : (key : Bytes) (op : AttrOp) (v : Bytes) (i : Bool) → IsAttr key op v i → attribute (attr_argument key op v i) ≡ Some (test.Attr key op v i)
attribute_again key op v i h =
    let rest = value_text op v i in
    let n : name (without_first_spaces (attr_argument key op v i)) ≡ Some (record { value = key; rest = rest }) =
    ap name (solid_first (name_text key) rest (read_printed key h.name)) ∙ read_again key rest h.name (value_ends op v i) in
    ap (λ (o : Option Taken). option_and_then (λ (k : Taken). behind_key k.value (without_first_spaces k.rest)) o) n ∙ behind_again key op v i h

-- ---- the scan

op_square : (op : AttrOp) (rest : Bytes) → IsKept (Square ∷ []) (op_text op) rest
op_square Exists rest = IsKept-nil (Square ∷ []) rest
op_square Equals rest = record { kept = refl; ends = refl }
op_square Word rest = record { kept = refl; ends = refl }
op_square Dash rest = record { kept = refl; ends = refl }
op_square Prefix rest = record { kept = refl; ends = refl }
op_square Suffix rest = record { kept = refl; ends = refl }
op_square Part rest = record { kept = refl; ends = refl }

flag_square : (i : Bool) (rest : Bytes) → IsKept (Square ∷ []) (flag_text i) rest
flag_square true rest = record { kept = refl; ends = refl }
flag_square false rest = IsKept-nil (Square ∷ []) rest

given_square : (op : AttrOp) (v : Bytes) (i : Bool) (rest : Bytes) → IsKept (Square ∷ []) ((op_text op ++ string_text v) ++ flag_text i) rest
given_square op v i rest =
    IsKept-append (Square ∷ []) (op_text op ++ string_text v) (flag_text i) rest
    (IsKept-append (Square ∷ []) (op_text op) (string_text v) (flag_text i ++ rest) (op_square op (string_text v ++ (flag_text i ++ rest))) (string_square v (flag_text i ++ rest)))
    (flag_square i rest)

value_square : (op : AttrOp) (v : Bytes) (i : Bool) (rest : Bytes) → IsKept (Square ∷ []) (value_text op v i) rest
value_square Exists v i rest = IsKept-nil (Square ∷ []) rest
value_square Equals v i rest = given_square Equals v i rest
value_square Word v i rest = given_square Word v i rest
value_square Dash v i rest = given_square Dash v i rest
value_square Prefix v i rest = given_square Prefix v i rest
value_square Suffix v i rest = given_square Suffix v i rest
value_square Part v i rest = given_square Part v i rest

pub attr_square : (key : Bytes) (op : AttrOp) (v : Bytes) (i : Bool) (rest : Bytes) → IsKept (Square ∷ []) (attr_argument key op v i) rest
attr_square key op v i rest = IsKept-append (Square ∷ []) (name_text key) (value_text op v i) rest (name_square key (value_text op v i ++ rest)) (value_square op v i rest)
