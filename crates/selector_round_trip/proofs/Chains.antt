-- What is read as a chain is read again from its canonical text.
use Rattle.std.proofs.Common.{◌≡◌, ℕ, ◌+◌, Bool, true, false, List, [], ◌∷◌, ◌++◌, map, Result, Ok, Err, refl, sym, ap, ap₂, subst, ◌∙◌, append_assoc, append-nil, inl, inr}
use Rattle.std.specs.List.{list_all}
use Rattle.std.proofs.lemmas.List.Folds.{list_all-append}
use Rattle.std.proofs.lemmas.Bool.{or_cases, or_from, both_ways, and_parts}
use Rattle.selector_tree.specs.declared.selector.Place.{Place}
use Rattle.selector_tree.specs.declared.selector.Step.TheVariants as step
use Rattle.selector_tree.specs.Canonical.{StepText, chain_text, place_text, sign_text, text_of_step}
use Rattle.selector_tree.proofs.TextLaws.{text_of_step-Move}
use Rattle.selector_spelling.specs.declared.finding.Finding.{Finding}
use Rattle.selector_spelling.specs.declared.finding.Finding.TheVariants.{Malformed}
use Rattle.selector_spelling.specs.declared.finding.Cause.TheVariants as cause
use Rattle.selector_spelling.specs.declared.reading.Reading.{Reading}
use Rattle.selector_spelling.specs.declared.reading.Chains.{Chains}
use Rattle.selector_spelling.specs.declared.reading.Setting.{Setting}
use Rattle.selector_spelling.specs.Bytes.{Bytes, is_empty}
use Rattle.selector_spelling.specs.Cuts.{Part, Item, combinator, compound, missing, items_of}
use Rattle.selector_spelling.specs.Pieces.{◌>>=◌, nothing, one, both, pieces}
use Rattle.selector_spelling.specs.Texts.{place_of, chain}
use Rattle.selector_round_trip.specs.Balanced.{step_is_balanced, are_balanced}
use Rattle.selector_round_trip.proofs.Scanned.{IsSound}
use Rattle.selector_round_trip.proofs.Seen.{seen, both-same, reading_text, both_text, steps_text, move_text, removes_text}
use Rattle.selector_round_trip.proofs.Operators.{ends_piece}
use Rattle.selector_round_trip.proofs.Pieces.{IsSelector, Starts}
use Rattle.selector_round_trip.proofs.Compounds.{SomePieces, PiecesRead, compound_good}
use Rattle.selector_round_trip.proofs.Cutting.{Shape, sign_shape, compound_shape, missing_shape, shape, chain_shapes, chain-shapes}
use Rattle.selector_round_trip.proofs.Links.{Link, IsWord, AreWords, links_text, links_shapes, sign_of, place_again, has_text, space_if, plain_chain, has_chain, Uncut, chain_uncut, has_uncut, chain_sound, has_sound, word_starts}
use Rattle.selector_round_trip.proofs.Items.{IsRest, IsFirst, IsLed, chain_first, chain_led}

-- what came first, where both came to something
pub record Bound {A B : Type 0} (x : Result A Finding) (f : A → Result B Finding) (y : B) : Type 0 where
  pub value : A
  pub is : x ≡ Ok value
  pub gives : f value ≡ Ok y

pub bound : {A B : Type 0} (x : Result A Finding) (f : A → Result B Finding) (y : B) → (x >>= f) ≡ Ok y → Bound x f y
bound (Ok v) f y h = record { value = v; is = refl; gives = h }
bound (Err e) f y h = absurd (let w : Err e ≡ Ok y = h in cc)

pub ok_same : {A : Type 0} (x y : A) → ◌≡◌ {A = Result A Finding} (Ok x) (Ok y) → x ≡ y
ok_same x y h = cc

empty_nil : {A : Type 0} (xs : List A) → is_empty xs ≡ true → xs ≡ []
empty_nil [] h = refl
empty_nil (x ∷ xs) h = absurd (both_ways false refl h)

empty_links : (more : List Item) (ls : List Link) → map shape more ≡ links_shapes ls → is_empty more ≡ is_empty ls
empty_links [] [] h = refl
empty_links [] (l ∷ ls) h = absurd (let w : [] ≡ sign_shape (sign_of l.place) ∷ compound_shape l.text ∷ links_shapes ls = h in cc)
empty_links (i ∷ more) [] h = absurd (let w : shape i ∷ map shape more ≡ [] = h in cc)
empty_links (i ∷ more) (l ∷ ls) h = refl

no_items : (others : List Item) → map shape others ≡ [] → others ≡ []
no_items [] h = refl
no_items (i ∷ others) h = absurd (let w : shape i ∷ map shape others ≡ [] = h in cc)

module _ (inner : Bool → ℕ → Bytes → Result Chains Finding) (is_nested is_several : Bool) (k : ℕ)
    (good : (in_has : Bool) (place : ℕ) (text : Bytes) (l : Chains) → inner in_has place text ≡ Ok l → are_balanced l.chains ≡ true → IsSelector inner (k + 1) in_has l) where
  abbrev setting : Bool → Setting
  setting last = record { nested = is_nested; several = is_several; last = last }

  abbrev read_chain : List Item → Result Reading Finding
  read_chain = chain inner is_nested is_several

  pub record ChainRead (more : List Item) (r : Reading) : Type 0 where
    pub read : Reading
    pub is : read_chain more ≡ Ok read
    pub same : seen read ≡ seen r

  -- combinators with compounds behind them
  record IsLinks (more : List Item) (r : Reading) : Type 0 where
    links : List Link
    words : AreWords k links
    text : reading_text r ≡ links_text links
    again : (others : List Item) → map shape others ≡ links_shapes links → ChainRead others r
    count : is_empty more ≡ is_empty links
    nested : is_nested ≡ true → r.notes.removes ≡ false
    only : r.notes.removes ≡ true → is_several ≡ false
    alone : is_empty more ≡ true → r ≡ nothing

  -- a compound, and such
  record IsLine (r : Reading) : Type 0 where
    word : Bytes
    links : List Link
    is_word : IsWord k word
    words : AreWords k links
    text : reading_text r ≡ word ++ links_text links
    again : (others : List Item) → map shape others ≡ compound_shape word ∷ links_shapes links → ChainRead others r
    nested : is_nested ≡ true → r.notes.removes ≡ false
    only : r.notes.removes ≡ true → is_several ≡ false

  line_again : (c o : Reading) (word : Bytes) (links : List Link) (empty : Bool) → ((place : ℕ) → PiecesRead inner (setting empty) k good true place c) → word ≡ reading_text c → is_empty links ≡ empty
      → ((others : List Item) → map shape others ≡ links_shapes links → ChainRead others o)
      → (others : List Item) → map shape others ≡ compound_shape word ∷ links_shapes links → ChainRead others (both c o)
  line_again c o word links empty read w count more [] h = absurd (let e : [] ≡ compound_shape word ∷ links_shapes links = h in cc)
  line_again c o word links empty read w count more (combinator b ∷ others) h = absurd (let e : sign_shape b ∷ map shape others ≡ compound_shape word ∷ links_shapes links = h in cc)
  line_again c o word links empty read w count more (missing place ∷ others) h = absurd (let e : missing_shape ∷ map shape others ≡ compound_shape word ∷ links_shapes links = h in cc)
  line_again c o word links empty read w count more (compound place text ∷ others) h =
      let e : compound_shape text ∷ map shape others ≡ compound_shape word ∷ links_shapes links = h in
      let same_text : text ≡ reading_text c = (let f : text ≡ word = cc in f ∙ w) in
      let same_rest : map shape others ≡ links_shapes links = cc in
      let last : is_empty others ≡ empty = empty_links others links same_rest ∙ count in
      let x = read place in
      let y = more others same_rest in
      record {
        read = both x.read y.read;
        is = ap₂ (λ (l : Bool) (t : Bytes). pieces inner (setting l) true place 0 t >>= λ a. read_chain others >>= λ b. Ok (both a b)) last same_text
            ∙ ap (λ (z : Result Reading Finding). z >>= λ a. read_chain others >>= λ b. Ok (both a b)) x.is
            ∙ ap (λ (z : Result Reading Finding). z >>= λ b. Ok (both x.read b)) y.is;
        same = both-same x.read y.read c o x.same y.same;
      }

  -- a compound and what is behind it
  line_from : (place : ℕ) (text : Bytes) (more : List Item) (c o : Reading) → SomePieces inner (setting (is_empty more)) k good true c → IsLinks more o → IsLine (both c o)
  line_from place text more c o s h =
      let lone : c.notes.removes ≡ true → o ≡ nothing = λ (e : c.notes.removes ≡ true). h.alone (s.are.only e).0 in
      record {
        word = reading_text c;
        links = h.links;
        is_word = record { some = s.some; begun = s.are.begun; closed = s.are.closed };
        words = h.words;
        text = both_text c o (λ (e : c.notes.removes ≡ true). (ap (λ (r : Reading). r.steps) (lone e), ap (λ (r : Reading). r.notes.removes) (lone e))) ∙ ap (λ (t : Bytes). reading_text c ++ t) h.text;
        again = line_again c o (reading_text c) h.links (is_empty more) s.are.again refl (sym h.count) h.again;
        nested = λ e. or_from c.notes.removes o.notes.removes (s.are.nested e) (h.nested e);
        only = λ e. elim (or_cases c.notes.removes o.notes.removes e) [ inl here ↦ (s.are.only here).1 | inr there ↦ h.only there ];
      }

  move_reading : (p : Place) → reading_text (one (step.Move p)) ≡ place_text p
  move_reading p = append-nil (steps_text (step.Move p ∷ [])) ∙ move_text p

  link_again : (p : Place) (r : Reading) (word : Bytes) (links : List Link) → ((others : List Item) → map shape others ≡ compound_shape word ∷ links_shapes links → ChainRead others r)
      → (others : List Item) → map shape others ≡ sign_shape (sign_of p) ∷ compound_shape word ∷ links_shapes links → ChainRead others (both (one (step.Move p)) r)
  link_again p r word links more [] h = absurd (let e : [] ≡ sign_shape (sign_of p) ∷ compound_shape word ∷ links_shapes links = h in cc)
  link_again p r word links more (compound place text ∷ others) h = absurd (let e : compound_shape text ∷ map shape others ≡ sign_shape (sign_of p) ∷ compound_shape word ∷ links_shapes links = h in cc)
  link_again p r word links more (missing place ∷ others) h = absurd (let e : missing_shape ∷ map shape others ≡ sign_shape (sign_of p) ∷ compound_shape word ∷ links_shapes links = h in cc)
  link_again p r word links more (combinator b ∷ others) h =
      let e : sign_shape b ∷ map shape others ≡ sign_shape (sign_of p) ∷ compound_shape word ∷ links_shapes links = h in
      let same_sign : b ≡ sign_of p = cc in
      let same_rest : map shape others ≡ compound_shape word ∷ links_shapes links = cc in
      let same_place : place_of b ≡ p = ap place_of same_sign ∙ place_again p in
      let y = more others same_rest in
      record {
        read = both (one (step.Move (place_of b))) y.read;
        is = ap (λ (z : Result Reading Finding). z >>= λ o. Ok (both (one (step.Move (place_of b))) o)) y.is;
        same = both-same (one (step.Move (place_of b))) y.read (one (step.Move p)) r (ap (λ (q : Place). seen (one (step.Move q))) same_place) y.same;
      }

  -- a combinator and a chain behind it
  link_from : (b : ℕ) (first : Item) (more : List Item) (r : Reading) → IsLine r → IsLinks (combinator b ∷ first ∷ more) (both (one (step.Move (place_of b))) r)
  link_from b first more r h = record {
    links = record { place = place_of b; text = h.word } ∷ h.links;
    words = (h.is_word, h.words);
    text = both_text (one (step.Move (place_of b))) r (λ (e : false ≡ true). absurd (both_ways false refl e)) ∙ ap₂ ◌++◌ (move_reading (place_of b)) h.text;
    again = link_again (place_of b) r h.word h.links h.again;
    count = refl;
    nested = h.nested;
    only = h.only;
    alone = λ (e : false ≡ true). absurd (both_ways false refl e);
  }

  balanced_parts : (a c r : Reading) → both a c ≡ r → list_all step_is_balanced r.steps ≡ true → (list_all step_is_balanced a.steps ≡ true) × (list_all step_is_balanced c.steps ≡ true)
  balanced_parts a c r e balanced =
      and_parts (list_all step_is_balanced a.steps) (list_all step_is_balanced c.steps)
      (sym (list_all-append step_is_balanced a.steps c.steps) ∙ ap (λ (x : Reading). list_all step_is_balanced x.steps) e ∙ balanced)

  nothing_links : IsLinks [] nothing
  nothing_links = record {
    links = [];
    words = tt;
    text = refl;
    again = λ others h. record { read = nothing; is = ap read_chain (no_items others h); same = refl };
    count = refl;
    nested = λ e. refl;
    only = λ (e : false ≡ true). absurd (both_ways false refl e);
    alone = λ e. refl;
  }

  -- the chain behind its first item, in two parts
  line_good : (place : ℕ) (text : Bytes) (more : List Item) (r : Reading) → is_empty text ≡ false → read_chain (compound place text ∷ more) ≡ Ok r → list_all step_is_balanced r.steps ≡ true
      → ((o : Reading) → read_chain more ≡ Ok o → list_all step_is_balanced o.steps ≡ true → IsLinks more o) → IsLine r
  line_good place text more r some h balanced rest =
      let x = bound (pieces inner (setting (is_empty more)) true place 0 text) (λ c. read_chain more >>= λ o. Ok (both c o)) r h in
      let y = bound (read_chain more) (λ o. Ok (both x.value o)) r x.gives in
      let e : both x.value y.value ≡ r = ok_same (both x.value y.value) r y.gives in
      let q = balanced_parts x.value y.value r e balanced in
      subst IsLine e (line_from place text more x.value y.value (compound_good inner (setting (is_empty more)) k good place text x.value some x.is q.0) (rest y.value y.is q.1))

  links_good : (more : List Item) (r : Reading) → IsRest more → read_chain more ≡ Ok r → list_all step_is_balanced r.steps ≡ true → IsLinks more r
  links_good [] r shaped h balanced = subst (IsLinks []) (ok_same nothing r h) nothing_links
  links_good (combinator b ∷ []) r shaped h balanced = absurd shaped
  links_good (combinator b ∷ combinator c ∷ more) r shaped h balanced = absurd shaped
  links_good (combinator b ∷ missing place ∷ more) r shaped h balanced = absurd (let w : Err (Malformed cause.EmptyPart place) ≡ Ok r = h in cc)
  links_good (combinator b ∷ compound place text ∷ more) r shaped h balanced =
      let first = one (step.Move (place_of b)) in
      let y = bound (read_chain (compound place text ∷ more)) (λ o. Ok (both first o)) r h in
      let e : both first y.value ≡ r = ok_same (both first y.value) r y.gives in
      let q = balanced_parts first y.value r e balanced in
      subst (IsLinks (combinator b ∷ compound place text ∷ more)) e
      (link_from b (compound place text) more y.value (line_good place text more y.value shaped.0 y.is q.1 (λ o is kept. links_good more o shaped.1 is kept)))
  links_good (compound place text ∷ more) r shaped h balanced = absurd shaped
  links_good (missing place ∷ more) r shaped h balanced = absurd shaped

  first_good : (more : List Item) (r : Reading) → IsFirst more → read_chain more ≡ Ok r → list_all step_is_balanced r.steps ≡ true → IsLine r
  first_good [] r shaped h balanced = absurd shaped
  first_good (combinator b ∷ more) r shaped h balanced = absurd shaped
  first_good (compound place text ∷ more) r shaped h balanced = line_good place text more r shaped.0 h balanced (λ o is kept. links_good more o shaped.1 is kept)
  first_good (missing place ∷ more) r shaped h balanced = absurd (let w : Err (Malformed cause.EmptyPart place) ≡ Ok r = h in cc)

  -- ---- chains, in `:has` and elsewhere

  abbrev pub led_text : Bool → Reading → Bytes
  led_text in_has r = chain_text in_has (map text_of_step r.steps) ++ removes_text r.notes.removes

  pub record IsChain (in_has : Bool) (r : Reading) : Type 0 where
    pub text : Bytes
    pub is : led_text in_has r ≡ text
    pub shapes : List Shape
    pub cut : (lead : Bool) → chain_shapes in_has (space_if lead text) ≡ shapes
    pub again : (others : List Item) → map shape others ≡ shapes → ChainRead others r
    pub uncut : (rest : Bytes) → ends_piece rest ≡ true → Uncut text rest
    pub sound : (rest : Bytes) → ends_piece rest ≡ true → IsSound k text rest
    pub starts : in_has ≡ false → (rest : Bytes) → Starts (text ++ rest)
    pub nested : is_nested ≡ true → r.notes.removes ≡ false
    pub only : r.notes.removes ≡ true → is_several ≡ false

  plain_good : (r : Reading) → IsLine r → IsChain false r
  plain_good r h = record {
    text = h.word ++ links_text h.links;
    is = h.text;
    shapes = compound_shape h.word ∷ links_shapes h.links;
    cut = λ lead. plain_chain k lead h.word h.links h.is_word h.words;
    again = h.again;
    uncut = λ rest ends. chain_uncut k h.word h.links rest h.is_word h.words ends;
    sound = λ rest ends. chain_sound k h.word h.links rest h.is_word h.words ends;
    starts = λ e rest. subst Starts (sym (append_assoc h.word (links_text h.links) rest)) (word_starts k h.word (links_text h.links ++ rest) h.is_word);
    nested = h.nested;
    only = h.only;
  }

  led_move : (p : Place) (r : Reading) → led_text true (both (one (step.Move p)) r) ≡ sign_text p ++ reading_text r
  led_move p r =
      ap (λ (s : StepText). (s true ++ steps_text r.steps) ++ removes_text r.notes.removes) (text_of_step-Move p)
      ∙ append_assoc (sign_text p) (steps_text r.steps) (removes_text r.notes.removes)

  led_good : (b : ℕ) (r : Reading) → IsLine r → IsChain true (both (one (step.Move (place_of b))) r)
  led_good b r h =
      let p = place_of b in
      record {
        text = has_text p h.word h.links;
        is = led_move p r ∙ ap (λ (t : Bytes). sign_text p ++ t) h.text;
        shapes = sign_shape (sign_of p) ∷ compound_shape h.word ∷ links_shapes h.links;
        cut = λ lead. has_chain k lead p h.word h.links h.is_word h.words;
        again = link_again p r h.word h.links h.again;
        uncut = λ rest ends. has_uncut k p h.word h.links rest h.is_word h.words ends;
        sound = λ rest ends. has_sound k p h.word h.links rest h.is_word h.words ends;
        starts = λ (e : true ≡ false). absurd (both_ways true e refl);
        nested = h.nested;
        only = h.only;
      }

  has_good : (more : List Item) (r : Reading) → IsLed more → read_chain more ≡ Ok r → list_all step_is_balanced r.steps ≡ true → IsChain true r
  has_good [] r shaped h balanced = absurd shaped
  has_good (compound place text ∷ more) r shaped h balanced = absurd shaped
  has_good (missing place ∷ more) r shaped h balanced = absurd shaped
  has_good (combinator b ∷ more) r shaped h balanced =
      let first = one (step.Move (place_of b)) in
      let y = bound (read_chain more) (λ o. Ok (both first o)) r h in
      let e : both first y.value ≡ r = ok_same (both first y.value) r y.gives in
      let q = balanced_parts first y.value r e balanced in
      subst (IsChain true) e (led_good b y.value (first_good more y.value shaped y.is q.1))

  -- what is read as a chain is read again from its canonical text
  pub chain_good : (in_has : Bool) (p : Part) (r : Reading) → read_chain (items_of in_has p) ≡ Ok r → list_all step_is_balanced r.steps ≡ true → IsChain in_has r
  chain_good true p r h balanced = has_good (items_of true p) r (chain_led p) h balanced
  chain_good false p r h balanced = plain_good r (first_good (items_of false p) r (chain_first p) h balanced)

  pub chain_again : (in_has lead : Bool) (r : Reading) (c : IsChain in_has r) (p : Part) → p.text ≡ space_if lead c.text → ChainRead (items_of in_has p) r
  chain_again in_has lead r c p e = c.again (items_of in_has p) (chain-shapes in_has p ∙ ap (chain_shapes in_has) e ∙ c.cut lead)
