-- The laws of each simple test and of Others, from the facts of a change alone.
use Rattle.std.proofs.Common.{◌≡◌, ℕ, ℤ, ◌+◌, Bool, true, false, ◌&&◌, ◌||◌, ◌==◌, not, inl, inr, List, [], ◌∷◌, ◌++◌, filter, length, codes, Option, refl, sym, ap, ap₂, ◌∙◌}
use Rattle.std.specs.Prelude.{nat_le}
use Rattle.std.specs.List.{list_any, list_all}
use Rattle.std.specs.Str.{bytes_eq}
use Rattle.selector_tree.specs.declared.selector.Arg.{Arg}
use Rattle.selector_tree.specs.declared.selector.AttrOp.{AttrOp}
use Rattle.selector_tree.specs.declared.selector.Step.TheOpen.{Test-F}
use Rattle.page_tree.specs.Directions.{is_in}
use Rattle.page_tree.specs.Facts.{attr, text_content, words_in}
use Rattle.page_tree.specs.Forest.{first_in}
use Rattle.page_tree.specs.Standings.{above, after, all, before, name}
use Rattle.page_tree.specs.Words.{utf16_length}
use Rattle.selector_meaning.specs.Meaning.{StepMeaning, TestMeaning, is_apart, is_beside, is_found, is_named, is_named_by, is_nth, is_other, is_shown, of_same_name, test_meaning, unshown}
use Rattle.selector_meaning.specs.Texts.{Bytes, fits, is_empty, some_fits, spelled}
use Rattle.sensor_meaning.specs.Dirty.{comes}
use Rattle.sensor_meaning.specs.Sensors.{Sensors, one, via}
use Rattle.sensor_meaning.specs.declared.sensor.Observes.TheVariants.{AnyAttr, Attr, Children, Path, Text}
use Rattle.sensor_meaning.specs.declared.sensor.Way.TheVariants.{ToAbove, ToBelow, ToChild, Whole}
use Rattle.sensor_laws.specs.Frame.{Event, Frame}
use Rattle.sensor_laws.proofs.Any.{and-true, and_parts, any-same, any-append, or-right, is_in-filter}
use Rattle.sensor_laws.proofs.Quiet.{quiet-join, quiet-via, inside}
use Rattle.sensor_laws.proofs.Laws.{quiet, Alike, TestLaw, in_after, far, not_below, none_moved, go-whole, untouched, not_zero}
use Rattle.sensor_laws.proofs.Relations.{and-both}

all-any : (p : ℕ → Bool) (s : List ℕ) → list_all p s ≡ not (list_any (λ y. not (p y)) s)
all-any p [] = refl
all-any p (y ∷ s) = case (p y) (all-any p s)
  where
    case : (b : Bool) → list_all p s ≡ not (list_any (λ z. not (p z)) s) → (b && list_all p s) ≡ not (not b || list_any (λ z. not (p z)) s)
    case true e = e
    case false e = refl

module _ (e : Event) (frame : Frame e) (found : Bytes → ℕ → Bytes → Bool) where
  abbrev Holds : Test-F StepMeaning TestMeaning → Sensors → Type 0
  Holds q r = TestLaw e frame (test_meaning found e.old e.old_path q) (test_meaning found e.new e.new_path q) r

  pub law-Any : Holds Test-F.Any []
  law-Any x m h q = refl

  pub law-Tag : (n : Bytes) → Holds (Test-F.Tag n) []
  law-Tag n x m h q = ap (λ w. bytes_eq w n) (frame.same_name x m h)

  attr_kept : (key : Bytes) (x : ℕ) → e.moved x ≡ false → is_in (all e.old) x ≡ true → quiet e frame (one (Attr key) []) x → attr e.old key x ≡ attr e.new key x
  attr_kept key x m h q = frame.same_attr key x m h (untouched e frame x (in_after e frame x m h) (Attr key) x q)

  pub law-Id : (v : Bytes) → Holds (Test-F.Id v) (one (Attr (codes "id")) [])
  law-Id v x m h q = ap (λ o. some_fits o (bytes_eq v)) (attr_kept (codes "id") x m h q)

  pub law-Class : (v : Bytes) → Holds (Test-F.Class v) (one (Attr (codes "class")) [])
  law-Class v x m h q = ap (λ o. list_any (bytes_eq v) (words_in o)) (attr_kept (codes "class") x m h q)

  pub law-Attr : (key : Bytes) (op : AttrOp) (v : Bytes) (i : Bool) → Holds (Test-F.Attr key op v i) (one (Attr key) [])
  law-Attr key op v i x m h q = ap (λ o. some_fits o (λ own. fits op (spelled i v) (spelled i own))) (attr_kept key x m h q)

  pub law-Root : Holds Test-F.Root []
  law-Root x m h q = ap (is_empty {A = ℕ}) (frame.same_above x m h)

  pub law-Empty : Holds Test-F.Empty (one Text [])
  law-Empty x m h q = frame.same_blank x m h (untouched e frame x (in_after e frame x m h) Text x q)

  module _ (x : ℕ) (m : e.moved x ≡ false) (h : is_in (all e.old) x ≡ true) (q : quiet e frame (one Children (ToChild ∷ [])) x) where
    beside : (before e.old x ≡ before e.new x) × (after e.old x ≡ after e.new x)
    beside = elim (frame.same_beside x m h) [
      | inl same ↦ same
      | inr b ↦ absurd (not_below e frame x (in_after e frame x m h) q b)
    ]

    pub nth : (a b : ℤ) (from_end of_name : Bool) →
        test_meaning found e.old e.old_path (Test-F.Nth a b from_end of_name) x ≡ test_meaning found e.new e.new_path (Test-F.Nth a b from_end of_name) x
    nth a b true o = ap₂ (λ n l. is_nth a b (length (of_same_name o n l) + 1)) (frame.same_name x m h) beside.1
    nth a b false o = ap₂ (λ n l. is_nth a b (length (of_same_name o n l) + 1)) (frame.same_name x m h) beside.0

    pub only : (o : Bool) → test_meaning found e.old e.old_path (Test-F.Only o) x ≡ test_meaning found e.new e.new_path (Test-F.Only o) x
    only o =
        ap (λ n. is_empty (of_same_name o n (before e.old x ++ after e.old x))) (frame.same_name x m h)
        ∙ ap₂ (λ a b. is_empty (of_same_name o (name e.new x) (a ++ b))) beside.0 beside.1

  pub law-Nth : (a b : ℤ) (from_end of_name : Bool) → Holds (Test-F.Nth a b from_end of_name) (one Children (ToChild ∷ []))
  law-Nth a b from_end of_name x m h q = nth x m h q a b from_end of_name

  pub law-Only : (of_name : Bool) → Holds (Test-F.Only of_name) (one Children (ToChild ∷ []))
  law-Only of_name x m h q = only x m h q of_name

  text_kept : (x : ℕ) → e.moved x ≡ false → is_in (all e.old) x ≡ true → quiet e frame (one Text [] ++ one Text (ToAbove ∷ [])) x → text_content e.old x ≡ text_content e.new x
  text_kept x m h q = elim (frame.same_text x m h) [
    | inl same ↦ same
    | inr near ↦ (let two = quiet-join e.new e.seen e.places (one Text []) (one Text (ToAbove ∷ [])) x q in
        absurd (far e frame x (in_after e frame x m h) Text two.0 two.1 near))
  ]

  pub law-HasText : (arg : Arg) → Holds (Test-F.HasText arg) (one Text [] ++ one Text (ToAbove ∷ []))
  law-HasText arg x m h q = ap (is_found found arg) (text_kept x m h q)

  pub law-MinText : (n : ℕ) → Holds (Test-F.MinText n) (one Text [] ++ one Text (ToAbove ∷ []))
  law-MinText n x m h q = ap (λ s. nat_le n (utf16_length s)) (text_kept x m h q)

  go-from_document : (x : ℕ) → is_in (all e.new) x ≡ true → comes e.new ToBelow 0 x ≡ true
  unfolding comes
  go-from_document x h = and-true _ _ (not_zero e frame x h) (any-append (λ y. y == 0) (above e.new x) (0 ∷ []) ∙ or-right (is_in (above e.new x) 0) true refl)

  pub law-MatchesPath : (arg : Arg) → Holds (Test-F.MatchesPath arg) (one Path (ToBelow ∷ []))
  law-MatchesPath arg x m h q =
      let i = in_after e frame x m h in
      ap (is_found found arg) (frame.same_path
      (untouched e frame x i Path 0 (quiet-via e.new e.seen e.places ToBelow (one Path []) x 0 (inside e.new e.seen e.places x i) (go-from_document x i) q)))

  pub law-MatchesAttr : (key : Arg) (v : Option Arg) → Holds (Test-F.MatchesAttr key v) (one AnyAttr [])
  law-MatchesAttr key v x m h q =
      ap (list_any (λ a. is_named found key a.0 && is_named_by found v a.1))
      (frame.same_attrs x m h (untouched e frame x (in_after e frame x m h) AnyAttr x q))

  pub law-WatchAttr : (names : List Bytes) → Holds (Test-F.WatchAttr names) []
  law-WatchAttr names x m h q = refl

  -- ---- Others, where a moved node is dirty everywhere
  module _ (r : Sensors) (s v : List ℕ) (alike : Alike e frame r s v) where
    module _ (x : ℕ) (m : e.moved x ≡ false) (h : is_in (all e.old) x ≡ true) (q : quiet e frame (via Whole r ++ one Children (Whole ∷ [])) x) where
      i : is_in (all e.new) x ≡ true
      i = in_after e frame x m h

      two : quiet e frame (via Whole r) x × quiet e frame (one Children (Whole ∷ [])) x
      two = quiet-join e.new e.seen e.places (via Whole r) (one Children (Whole ∷ [])) x q

      still : (y : ℕ) → e.moved y ≡ false
      still = none_moved e frame x i two.1

      all_same : (y : ℕ) → is_in s y ≡ is_in v y
      all_same y = alike.same y (still y) (quiet-via e.new e.seen e.places Whole r x y (inside e.new e.seen e.places x i) (go-whole e frame x y i) two.0)

      up : (y : ℕ) → is_in s y ≡ true → above e.old y ≡ above e.new y
      up y n = frame.same_above y (still y) (alike.of_before y n)

      apart_same : (y : ℕ) → is_in s y ≡ true → is_apart e.old y x ≡ is_apart e.new y x
      apart_same y n = ap₂ (λ a b. not (y == x) && not (is_in a x) && not (is_in b y)) (up y n) (frame.same_above x m h)

      beside_same : (y : ℕ) → is_in s y ≡ true → is_beside e.old y x ≡ is_beside e.new y x
      beside_same y n = ap₂ (λ a b. is_in (a ++ 0 ∷ []) (Rattle.std.specs.Prelude.unwrap_or (first_in b) 0)) (up y n) (frame.same_above x m h)

      other_same : is_other e.old s x ≡ is_other e.new v x
      other_same =
          ap (λ a. a && list_any (λ y. is_beside e.old y x) s && is_shown e.old x)
          (all-any (λ y. is_apart e.old y x) s
          ∙ ap not (any-same (λ y. not (is_apart e.old y x)) (λ y. not (is_apart e.new y x)) s v
          (λ y. and-both (not (is_apart e.old y x)) (is_in s y) (not (is_apart e.new y x)) (is_in v y) (λ n. ap not (apart_same y n)) (all_same y)))
          ∙ sym (all-any (λ y. is_apart e.new y x) v))
          ∙ ap (λ b. list_all (λ y. is_apart e.new y x) v && b && is_shown e.old x)
          (any-same (λ y. is_beside e.old y x) (λ y. is_beside e.new y x) s v
          (λ y. and-both (is_beside e.old y x) (is_in s y) (is_beside e.new y x) (is_in v y) (beside_same y) (all_same y)))
          ∙ ap (λ n. list_all (λ y. is_apart e.new y x) v && list_any (λ y. is_beside e.new y x) v && not (list_any (λ w. bytes_eq w n) unshown))
          (frame.same_name x m h)

    pub member-others : Alike e frame (via Whole r ++ one Children (Whole ∷ [])) (filter (is_other e.old s) (all e.old)) (filter (is_other e.new v) (all e.new))
    member-others = record {
      of_before = λ x h. (and_parts (is_other e.old s x) (is_in (all e.old) x) (sym (is_in-filter (is_other e.old s) x (all e.old)) ∙ h)).1;
      of_after = λ x h. (and_parts (is_other e.new v x) (is_in (all e.new) x) (sym (is_in-filter (is_other e.new v) x (all e.new)) ∙ h)).1;
      same = λ x m q.
          is_in-filter (is_other e.old s) x (all e.old)
          ∙ and-both (is_other e.old s x) (is_in (all e.old) x) (is_other e.new v x) (is_in (all e.new) x)
          (λ h. other_same x m h q) (frame.stays x m)
          ∙ sym (is_in-filter (is_other e.new v) x (all e.new));
    }
