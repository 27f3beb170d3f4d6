-- What is read as a selector is read again from its canonical text.
use Rattle.std.proofs.Common.{◌≡◌, ℕ, zero, suc, ◌+◌, ◌≤◌, Bool, true, false, not, ◌||◌, List, [], ◌∷◌, ◌++◌, map, Result, Ok, Err, refl, sym, ap, ap₂, subst, ◌∙◌, append_assoc, append-nil, arith}
use Rattle.std.specs.List.{list_all}
use Rattle.std.proofs.lemmas.Bool.{or_from, both_ways, and_parts}
use Rattle.selector_tree.specs.Canonical.{chain_text, behind_comma, text_of_step}
use Rattle.selector_spelling.specs.declared.finding.Finding.{Finding}
use Rattle.selector_spelling.specs.declared.finding.Finding.TheVariants.{Malformed}
use Rattle.selector_spelling.specs.declared.finding.Cause.TheVariants as cause
use Rattle.selector_spelling.specs.declared.reading.Reading.{Reading}
use Rattle.selector_spelling.specs.declared.reading.Chains.{Chains}
use Rattle.selector_spelling.specs.Bytes.{Bytes, is_empty}
use Rattle.selector_spelling.specs.Scan.{bare}
use Rattle.selector_spelling.specs.Cuts.{Part, parts, is_comma, items_of}
use Rattle.selector_spelling.specs.Pieces.{◌>>=◌, no_notes}
use Rattle.selector_spelling.specs.Texts.{chain, chains, chains_then, are_several, selector, argument}
use Rattle.selector_round_trip.specs.Balanced.{step_is_balanced, are_balanced}
use Rattle.selector_round_trip.proofs.Scanned.{IsSound, IsSound-append, IsSound-nil}
use Rattle.selector_round_trip.proofs.Seen.{Seen, seen, Told, told-joined, told_joined, SeenChains, seen_chains, removes_text}
use Rattle.selector_round_trip.proofs.Operators.{ends_piece}
use Rattle.selector_round_trip.proofs.Pieces.{IsSelector, Starts, chains_text}
use Rattle.selector_round_trip.proofs.Cutting.{Cut, cut_of, cuts_from, with_byte, parts-cuts, prefixed, prefixed-one}
use Rattle.selector_round_trip.proofs.Links.{space_if, Uncut}
use Rattle.selector_round_trip.proofs.Items.{IsSome, parts_some}
use Rattle.selector_round_trip.proofs.Chains.{bound, ok_same, IsChain, chain_good, chain_again}

-- ---- texts between commas

abbrev later_cuts : List Bytes → List Cut
later_cuts [] = []
later_cuts (t ∷ ts) = record { sign = 44; text = 32 ∷ t } ∷ later_cuts ts

empty_later : (ts : List Bytes) → is_empty (later_cuts ts) ≡ is_empty ts
empty_later [] = refl
empty_later (t ∷ ts) = refl

empty_cuts : (cuts : List Part) → is_empty (map cut_of cuts) ≡ is_empty cuts
empty_cuts [] = refl
empty_cuts (c ∷ cuts) = refl

comma_ends : (ts : List Bytes) (rest : Bytes) → ends_piece rest ≡ true → ends_piece (behind_comma ts ++ rest) ≡ true
comma_ends [] rest h = h
comma_ends (t ∷ ts) rest h = refl

comma_end : (ts : List Bytes) → ends_piece (behind_comma ts) ≡ true
comma_end [] = refl
comma_end (t ∷ ts) = refl

-- a first text, which isn't cut, and what is behind it
first_cut : (sign : ℕ) (t : Bytes) (ts : List Bytes) → Uncut t (behind_comma ts) → cuts_from is_comma bare sign (behind_comma ts) ≡ record { sign = sign; text = [] } ∷ later_cuts ts
    → cuts_from is_comma bare sign (t ++ behind_comma ts) ≡ record { sign = sign; text = t } ∷ later_cuts ts
first_cut sign t ts whole h =
    whole sign ∙ ap (prefixed sign t) h ∙ prefixed-one sign t [] (later_cuts ts) ∙ ap (λ (x : Bytes). record { sign = sign; text = x } ∷ later_cuts ts) (append-nil t)

text_join : (a b : Bytes) (x y : Bool) → (x ≡ true → (b ≡ []) × (y ≡ false)) → (a ++ b) ++ removes_text (x || y) ≡ (a ++ removes_text x) ++ (b ++ removes_text y)
text_join a b true y h =
    let e = (h refl).0 in
    let f = (h refl).1 in
    ap (λ (s : Bytes). (a ++ s) ++ removes_text true) e ∙ ap (λ (s : Bytes). s ++ removes_text true) (append-nil a)
    ∙ sym (append-nil (a ++ removes_text true))
    ∙ ap₂ (λ (s : Bytes) (z : Bool). (a ++ removes_text true) ++ (s ++ removes_text z)) (sym e) (sym f)
text_join a b false y h = append_assoc a b (removes_text y) ∙ ap (λ (t : Bytes). t ++ (b ++ removes_text y)) (sym (append-nil a))

abbrev no_chains : Chains
no_chains = record { chains = []; notes = no_notes }

abbrev seen_then : Seen → SeenChains → SeenChains
seen_then r l = record { chains = r.steps ∷ l.chains; told = told_joined r.told l.told }

seen-then : (r : Reading) (l : Chains) → seen_chains (chains_then r l) ≡ seen_then (seen r) (seen_chains l)
seen-then r l = ap (λ (t : Told). record { chains = r.steps ∷ l.chains; told = t }) (told-joined r.notes l.notes)

then-same : (a c : Reading) (b d : Chains) → seen a ≡ seen c → seen_chains b ≡ seen_chains d → seen_chains (chains_then a b) ≡ seen_chains (chains_then c d)
then-same a c b d h g = seen-then a b ∙ ap₂ seen_then h g ∙ sym (seen-then c d)

module _ (inner : Bool → ℕ → Bytes → Result Chains Finding) (k : ℕ)
    (good : (in_has : Bool) (place : ℕ) (text : Bytes) (l : Chains) → inner in_has place text ≡ Ok l → are_balanced l.chains ≡ true → IsSelector inner (k + 1) in_has l) (is_nested in_has : Bool) where
  module _ (is_several : Bool) where
    abbrev read_chains : List Part → Result Chains Finding
    read_chains = chains inner is_nested is_several in_has

    record ChainsRead (cuts : List Part) (l : Chains) : Type 0 where
      read : Chains
      is : read_chains cuts ≡ Ok read
      same : seen_chains read ≡ seen_chains l

    abbrev tail_text : Chains → Bytes
    tail_text l = behind_comma (map (chain_text in_has) (map (map text_of_step) l.chains)) ++ removes_text l.notes.removes

    -- further chains, each behind a comma
    record AreChains (ps : List Part) (l : Chains) : Type 0 where
      texts : List Bytes
      is : tail_text l ≡ behind_comma texts
      cut : (sign : ℕ) → cuts_from is_comma bare sign (behind_comma texts) ≡ record { sign = sign; text = [] } ∷ later_cuts texts
      again : (cuts : List Part) → map cut_of cuts ≡ later_cuts texts → ChainsRead cuts l
      sound : (rest : Bytes) → ends_piece rest ≡ true → IsSound k (behind_comma texts) rest
      count : is_empty ps ≡ is_empty texts
      nested : is_nested ≡ true → l.notes.removes ≡ false
      none : is_empty ps ≡ true → l ≡ no_chains

    -- where there is one chain alone, nothing follows it
    abbrev AreLone : List Part → Type 0
    AreLone [] = Unit {0}
    AreLone (p ∷ ps) = (is_several ≡ false → is_empty ps ≡ true) × AreLone ps

    cut_none : (cuts : List Part) → map cut_of cuts ≡ [] → cuts ≡ []
    cut_none [] h = refl
    cut_none (c ∷ cuts) h = absurd (let w : cut_of c ∷ map cut_of cuts ≡ [] = h in cc)

    -- a first chain and the others, by a first part
    then_again : (lead : Bool) (sign : ℕ) (r : Reading) (l : Chains) (c : IsChain inner is_nested is_several k good in_has r) (ts : List Bytes)
        → ((cuts : List Part) → map cut_of cuts ≡ later_cuts ts → ChainsRead cuts l)
        → (cuts : List Part) → map cut_of cuts ≡ record { sign = sign; text = space_if lead c.text } ∷ later_cuts ts → ChainsRead cuts (chains_then r l)
    then_again lead sign r l c ts more [] h = absurd (let w : [] ≡ record { sign = sign; text = space_if lead c.text } ∷ later_cuts ts = h in cc)
    then_again lead sign r l c ts more (p ∷ cuts) h =
        let e : cut_of p ∷ map cut_of cuts ≡ record { sign = sign; text = space_if lead c.text } ∷ later_cuts ts = h in
        let first : cut_of p ≡ record { sign = sign; text = space_if lead c.text } = cc in
        let rest : map cut_of cuts ≡ later_cuts ts = cc in
        let x = chain_again inner is_nested is_several k good in_has lead r c p (ap (λ (q : Cut). q.text) first) in
        let y = more cuts rest in
        record {
          read = chains_then x.read y.read;
          is = ap (λ (z : Result Reading Finding). z >>= λ a. read_chains cuts >>= λ b. Ok (chains_then a b)) x.is
              ∙ ap (λ (z : Result Chains Finding). z >>= λ b. Ok (chains_then x.read b)) y.is;
          same = then-same x.read r y.read l x.same y.same;
        }

    abbrev chain_of : Reading → Type 0
    chain_of r = IsChain inner is_nested is_several k good in_has r

    -- the text of a first chain and the others
    then_text : (ps : List Part) (r : Reading) (l : Chains) (c : chain_of r) (h : AreChains ps l) → (is_several ≡ false → is_empty ps ≡ true)
        → (chain_text in_has (map text_of_step r.steps) ++ behind_comma (map (chain_text in_has) (map (map text_of_step) l.chains))) ++ removes_text (r.notes.removes || l.notes.removes) ≡ c.text ++ behind_comma h.texts
    then_text ps r l c h lone =
        let a = chain_text in_has (map text_of_step r.steps) in
        let b = behind_comma (map (chain_text in_has) (map (map text_of_step) l.chains)) in
        text_join a b r.notes.removes l.notes.removes (λ (e : r.notes.removes ≡ true). (
        let f = h.none (lone (c.only e)) in
        (ap (λ (m : Chains). behind_comma (map (chain_text in_has) (map (map text_of_step) m.chains))) f, ap (λ (m : Chains). m.notes.removes) f)))
        ∙ ap₂ ◌++◌ c.is h.is

    then_sound : (c t rest : Bytes) → ((more : Bytes) → ends_piece more ≡ true → IsSound k c more) → IsSound k t rest → ends_piece (t ++ rest) ≡ true → IsSound k (c ++ t) rest
    then_sound c t rest h g ends = IsSound-append k c t rest (h (t ++ rest) ends) g

    more_chains : (p : Part) (ps : List Part) (r : Reading) (l : Chains) → chain_of r → AreChains ps l → (is_several ≡ false → is_empty ps ≡ true) → AreChains (p ∷ ps) (chains_then r l)
    more_chains p ps r l c h lone = record {
      texts = c.text ∷ h.texts;
      is = ap (λ (t : Bytes). 44 ∷ 32 ∷ t) (then_text ps r l c h lone);
      cut = λ sign. ap (λ (x : List Cut). record { sign = sign; text = [] } ∷ with_byte 44 32 x) (first_cut 44 c.text h.texts (c.uncut (behind_comma h.texts) (comma_end h.texts)) (h.cut 44));
      again = then_again true 44 r l c h.texts h.again;
      sound = λ rest ends. IsSound-append k (44 ∷ 32 ∷ []) (c.text ++ behind_comma h.texts) rest (record { sound = refl; ends = refl })
          (then_sound c.text (behind_comma h.texts) rest c.sound (h.sound rest ends) (comma_ends h.texts rest ends));
      count = refl;
      nested = λ e. or_from r.notes.removes l.notes.removes (c.nested e) (h.nested e);
      none = λ (e : false ≡ true). absurd (both_ways false refl e);
    }

    no_more : AreChains [] no_chains
    no_more = record {
      texts = [];
      is = refl;
      cut = λ sign. refl;
      again = λ cuts h. record { read = no_chains; is = ap read_chains (cut_none cuts h); same = refl };
      sound = λ rest ends. IsSound-nil k rest;
      count = refl;
      nested = λ e. refl;
      none = λ e. refl;
    }

    balanced_parts : (r : Reading) (l m : Chains) → chains_then r l ≡ m → are_balanced m.chains ≡ true → (list_all step_is_balanced r.steps ≡ true) × (are_balanced l.chains ≡ true)
    balanced_parts r l m e balanced = and_parts (list_all step_is_balanced r.steps) (are_balanced l.chains) (ap (λ (x : Chains). are_balanced x.chains) e ∙ balanced)

    chains_good : (ps : List Part) (l : Chains) → AreLone ps → read_chains ps ≡ Ok l → are_balanced l.chains ≡ true → AreChains ps l
    chains_good [] l lone h balanced = subst (AreChains []) (ok_same no_chains l h) no_more
    chains_good (p ∷ ps) l lone h balanced =
        let x = bound (chain inner is_nested is_several (items_of in_has p)) (λ r. read_chains ps >>= λ m. Ok (chains_then r m)) l h in
        let y = bound (read_chains ps) (λ m. Ok (chains_then x.value m)) l x.gives in
        let e : chains_then x.value y.value ≡ l = ok_same (chains_then x.value y.value) l y.gives in
        let q = balanced_parts x.value y.value l e balanced in
        subst (AreChains (p ∷ ps)) e (more_chains p ps x.value y.value (chain_good inner is_nested is_several k good in_has p x.value x.is q.0) (chains_good ps y.value lone.1 y.is q.1) lone.0)

  -- ---- a whole selector

  pub record WholeRead (place : ℕ) (text : Bytes) (l : Chains) : Type 0 where
    pub read : Chains
    pub is : selector inner is_nested in_has place text ≡ Ok read
    pub same : seen_chains read ≡ seen_chains l

  abbrev pub whole_text : Chains → Bytes
  whole_text l = chains_text in_has l.chains ++ removes_text l.notes.removes

  pub record IsWhole (l : Chains) : Type 0 where
    pub sound : (rest : Bytes) → ends_piece rest ≡ true → IsSound k (whole_text l) rest
    pub again : (place : ℕ) → WholeRead place (whole_text l) l
    pub starts : in_has ≡ false → Starts (whole_text l)
    pub nested : is_nested ≡ true → l.notes.removes ≡ false

  lone_true : (ps : List Part) → AreLone true ps
  lone_true [] = tt
  lone_true (p ∷ ps) = (λ (e : true ≡ false). absurd (both_ways true e refl), lone_true ps)

  lone_all : (p : Part) (ps : List Part) → AreLone (are_several (p ∷ ps)) (p ∷ ps)
  lone_all p [] = (λ e. refl, tt)
  lone_all p (q ∷ ps) = lone_true (p ∷ q ∷ ps)

  same_several : (p : Part) (ps : List Part) (t : Cut) (ts : List Bytes) (cuts : List Part) → is_empty ps ≡ is_empty ts → map cut_of cuts ≡ t ∷ later_cuts ts → are_several cuts ≡ are_several (p ∷ ps)
  same_several p ps t ts [] e h = absurd (let w : [] ≡ t ∷ later_cuts ts = h in cc)
  same_several p ps t ts (c ∷ cuts) e h =
      let f : cut_of c ∷ map cut_of cuts ≡ t ∷ later_cuts ts = h in
      let rest : map cut_of cuts ≡ later_cuts ts = cc in
      ap not (sym (empty_cuts cuts) ∙ ap is_empty rest ∙ empty_later ts ∙ sym e)

  whole_from : (p : Part) (ps : List Part) (r : Reading) (l : Chains) → chain_of (are_several (p ∷ ps)) r → AreChains (are_several (p ∷ ps)) ps l → (are_several (p ∷ ps) ≡ false → is_empty ps ≡ true) → IsWhole (chains_then r l)
  whole_from p ps r l c h lone =
      let many = are_several (p ∷ ps) in
      let text = c.text ++ behind_comma h.texts in
      let e : whole_text (chains_then r l) ≡ text = then_text many ps r l c h lone in
      record {
        sound = λ rest ends. subst (λ (t : Bytes). IsSound k t rest) (sym e) (then_sound many c.text (behind_comma h.texts) rest c.sound (h.sound rest ends) (comma_ends h.texts rest ends));
        again = λ place. (
            let cuts = parts is_comma place text in
            let f : map cut_of cuts ≡ record { sign = 0; text = c.text } ∷ later_cuts h.texts =
            parts-cuts is_comma bare 0 place text ∙ first_cut 0 c.text h.texts (c.uncut (behind_comma h.texts) (comma_end h.texts)) (h.cut 0) in
            let x = then_again many false 0 r l c h.texts h.again cuts f in
            let several : are_several cuts ≡ many = same_several p ps (record { sign = 0; text = c.text }) h.texts cuts h.count f in
            record {
              read = x.read;
              is = ap (λ (t : Bytes). selector inner is_nested in_has place t) e ∙ ap (λ (s : Bool). chains inner is_nested s in_has cuts) several ∙ x.is;
              same = x.same;
            });
        starts = λ s. subst Starts (sym e) (c.starts s (behind_comma h.texts));
        nested = λ s. or_from r.notes.removes l.notes.removes (c.nested s) (h.nested s);
      }

  whole_parts : (ps : List Part) (l : Chains) → IsSome ps → chains inner is_nested (are_several ps) in_has ps ≡ Ok l → are_balanced l.chains ≡ true → IsWhole l
  whole_parts [] l some h balanced = absurd some
  whole_parts (p ∷ ps) l some h balanced =
      let many = are_several (p ∷ ps) in
      let lone = lone_all p ps in
      let x = bound (chain inner is_nested many (items_of in_has p)) (λ r. chains inner is_nested many in_has ps >>= λ m. Ok (chains_then r m)) l h in
      let y = bound (chains inner is_nested many in_has ps) (λ m. Ok (chains_then x.value m)) l x.gives in
      let e : chains_then x.value y.value ≡ l = ok_same (chains_then x.value y.value) l y.gives in
      let q = balanced_parts many x.value y.value l e balanced in
      subst IsWhole e (whole_from p ps x.value y.value (chain_good inner is_nested many k good in_has p x.value x.is q.0) (chains_good many ps y.value lone.1 y.is q.1) lone.0)

  pub whole_good : (place : ℕ) (text : Bytes) (l : Chains) → selector inner is_nested in_has place text ≡ Ok l → are_balanced l.chains ≡ true → IsWhole l
  whole_good place text l h balanced = whole_parts (parts is_comma place text) l (parts_some is_comma bare 0 place text) h balanced

-- ---- arguments, level by level

nested_selector : (inner outer : Bool → ℕ → Bytes → Result Chains Finding) (k : ℕ)
    (good : (in_has : Bool) (place : ℕ) (text : Bytes) (l : Chains) → inner in_has place text ≡ Ok l → are_balanced l.chains ≡ true → IsSelector inner (k + 1) in_has l)
    (in_has : Bool) (l : Chains) → k ≤ 16 → ((place : ℕ) (text : Bytes) → outer in_has place text ≡ selector inner true in_has place text) → IsWhole inner k good true in_has l → IsSelector outer k in_has l
nested_selector inner outer k good in_has l room ties w =
    let hides = w.nested refl in
    let e : whole_text inner k good true in_has l ≡ chains_text in_has l.chains = ap (λ (c : Bool). chains_text in_has l.chains ++ removes_text c) hides ∙ append-nil (chains_text in_has l.chains) in
    record {
      room = room;
      sound = λ rest. subst (λ (t : Bytes). IsSound k t (41 ∷ rest)) e (w.sound (41 ∷ rest) refl);
      again = λ place. (
          let x = w.again place in
          record { read = x.read; is = ap (outer in_has place) (sym e) ∙ ties place (whole_text inner k good true in_has l) ∙ x.is; same = x.same });
      starts = λ s. subst Starts e (w.starts s);
      hides = hides;
    }

pub argument_good : (levels k : ℕ) → k + levels ≡ 17 → (in_has : Bool) (place : ℕ) (text : Bytes) (l : Chains) → argument levels in_has place text ≡ Ok l → are_balanced l.chains ≡ true → IsSelector (argument levels) k in_has l
argument_good zero k sum in_has place text l h balanced = absurd (let w : Err (Malformed cause.TooNested place) ≡ Ok l = h in cc)
argument_good (suc levels) k sum in_has place text l h balanced =
    let good = argument_good levels (k + 1) (omega arith) in
    nested_selector (argument levels) (argument (suc levels)) k good in_has l (omega arith) (λ there t. refl) (whole_good (argument levels) k good true in_has place text l h balanced)
