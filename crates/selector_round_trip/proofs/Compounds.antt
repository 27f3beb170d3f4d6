-- What is read as a compound is read again from its canonical text.
use Rattle.std.proofs.Common.{◌≡◌, ℕ, zero, suc, ◌+◌, ◌-◌, Bool, true, false, eqb, ◌&&◌, ◌||◌, [], ◌∷◌, ◌++◌, length, drop, Result, Ok, Err, refl, sym, ap, subst, ◌∙◌, append-nil, arith, inl, inr}
use Rattle.std.specs.List.{list_all}
use Rattle.std.proofs.lemmas.List.{drop_at}
use Rattle.std.proofs.lemmas.List.Folds.{list_all-append}
use Rattle.std.proofs.lemmas.Bool.{or_cases, or_from, both_ways, and_parts, eqb-true}
use Rattle.selector_spelling.specs.declared.finding.Finding.{Finding}
use Rattle.selector_spelling.specs.declared.reading.Reading.{Reading}
use Rattle.selector_spelling.specs.declared.reading.Chains.{Chains}
use Rattle.selector_spelling.specs.declared.reading.Setting.{Setting}
use Rattle.selector_spelling.specs.Bytes.{Bytes, is_empty}
use Rattle.selector_spelling.specs.Pieces.{◌>>=◌, nothing, both, Piece, piece, piece_length, then_others, pieces}
use Rattle.selector_round_trip.specs.Balanced.{step_is_balanced, are_balanced}
use Rattle.selector_round_trip.proofs.Scanned.{IsClosed, IsClosed-nil, IsClosed-append}
use Rattle.selector_round_trip.proofs.Seen.{seen, both-same, reading_text, both_text}
use Rattle.selector_round_trip.proofs.Operators.{is_end, ends_piece}
use Rattle.selector_round_trip.proofs.Pieces.{IsSelector, IsPiece, begins_piece}
use Rattle.selector_round_trip.proofs.PiecesRead.{OnPiece, piece_good}

-- a text that begins as a piece does
pub record Begun (first : Bool) (text : Bytes) : Type 0 where
  pub b : ℕ
  pub others : Bytes
  pub is : text ≡ b ∷ others
  pub begins : begins_piece first b ≡ true

-- further pieces may stand behind a piece
piece_ends : (b : ℕ) → begins_piece false b ≡ true → is_end b ≡ true
piece_ends b h =
    elim (or_cases (eqb b 35 || eqb b 46 || eqb b 91 || eqb b 58) false h) [
      | inr none ↦ absurd (both_ways false refl none)
      | inl h ↦ elim (or_cases (eqb b 35 || eqb b 46 || eqb b 91) (eqb b 58) h) [
        | inr is ↦ ap is_end (eqb-true b 58 is)
        | inl h ↦ elim (or_cases (eqb b 35 || eqb b 46) (eqb b 91) h) [
          | inr is ↦ ap is_end (eqb-true b 91 is)
          | inl h ↦ elim (or_cases (eqb b 35) (eqb b 46) h) [
            | inr is ↦ ap is_end (eqb-true b 46 is)
            | inl is ↦ ap is_end (eqb-true b 35 is)
          ]
        ]
      ]
    ]

-- the text of some pieces: nothing, or it begins as one
abbrev pub IsBegun : Bool → Bytes → Type 0
IsBegun first [] = Unit {0}
IsBegun first (b ∷ others) = begins_piece first b ≡ true

pub begun_ends : (text rest : Bytes) → IsBegun false text → ends_piece rest ≡ true → ends_piece (text ++ rest) ≡ true
begun_ends [] rest h ends = ends
begun_ends (b ∷ text) rest h ends = piece_ends b h

module _ (inner : Bool → ℕ → Bytes → Result Chains Finding) (setting : Setting) (k : ℕ)
    (good : (in_has : Bool) (place : ℕ) (text : Bytes) (l : Chains) → inner in_has place text ≡ Ok l → are_balanced l.chains ≡ true → IsSelector inner (k + 1) in_has l) where
  pub record PiecesRead (first : Bool) (place : ℕ) (r : Reading) : Type 0 where
    pub read : Reading
    pub is : pieces inner setting first place zero (reading_text r) ≡ Ok read
    pub same : seen read ≡ seen r

  -- what some pieces are read as is read again from its canonical text
  pub record ArePieces (first : Bool) (r : Reading) : Type 0 where
    pub begun : IsBegun first (reading_text r)
    pub closed : (rest : Bytes) → ends_piece rest ≡ true → IsClosed k (reading_text r) rest
    pub again : (place : ℕ) → PiecesRead first place r
    pub nested : setting.nested ≡ true → r.notes.removes ≡ false
    pub only : r.notes.removes ≡ true → (setting.last ≡ true) × (setting.several ≡ false)

  none : (first : Bool) → ArePieces first nothing
  none first = record {
    begun = tt;
    closed = λ rest ends. IsClosed-nil k rest;
    again = λ place. record { read = nothing; is = refl; same = refl };
    nested = λ e. refl;
    only = λ (e : false ≡ true). absurd (both_ways false refl e);
  }

  -- the number says how many bytes are passed over
  pieces-skip : (first : Bool) (place n : ℕ) (text : Bytes) → pieces inner setting first place n text ≡ pieces inner setting first (place + n) zero (drop n text)
  pieces-skip first place zero text = (let e : place ≡ place + 0 = omega arith in ap (λ (p : ℕ). pieces inner setting first p zero text) e)
  pieces-skip first place (suc n) [] = refl
  pieces-skip first place (suc n) (b ∷ text) =
      let e : place + 1 + n ≡ place + suc n = omega arith in
      pieces-skip first (place + 1) n text ∙ ap (λ (p : ℕ). pieces inner setting first p zero (drop n text)) e

  -- nothing stands behind the action
  nothing_left : (first : Bool) (place b n : ℕ) (text : Bytes) → drop n (b ∷ text) ≡ [] → pieces inner setting first place (n - 1) text ≡ Ok nothing
  nothing_left first place b zero text h = absurd (let w : b ∷ text ≡ [] = h in cc)
  nothing_left first place b (suc n) text h =
      let e : suc n - 1 ≡ n = omega arith in
      ap (λ (m : ℕ). pieces inner setting first place m text) e ∙ pieces-skip first place n text ∙ ap (pieces inner setting first (place + n) zero) h

  -- and it is not empty
  pub record SomePieces (first : Bool) (r : Reading) : Type 0 where
    pub are : ArePieces first r
    pub some : is_empty (reading_text r) ≡ false

  -- one piece, and the others
  joined : (first : Bool) (a c : Reading) → IsPiece inner setting k first a → ArePieces false c → (a.notes.removes ≡ true → c ≡ nothing)
      → (setting.nested ≡ true → a.notes.removes ≡ false) → (a.notes.removes ≡ true → (setting.last ≡ true) × (setting.several ≡ false)) → SomePieces first (both a c)
  joined first a c p q last nested only =
      let t = reading_text c in
      let e : reading_text (both a c) ≡ p.b ∷ (p.others ++ t) =
      both_text a c (λ (h : a.notes.removes ≡ true). (ap (λ (r : Reading). r.steps) (last h), ap (λ (r : Reading). r.notes.removes) (last h))) ∙ ap (λ (x : Bytes). x ++ t) p.is in
      record {
        some = ap is_empty e;
        are = record {
          begun = subst (IsBegun first) (sym e) p.begins;
          closed = λ rest ends. subst (λ (x : Bytes). IsClosed k x rest) (sym e) (IsClosed-append k (p.b ∷ p.others) t rest (p.closed (t ++ rest) (begun_ends t rest q.begun ends)) (q.closed rest ends));
          again = λ place. (
              let ends : ends_piece t ≡ true = ap ends_piece (sym (append-nil t)) ∙ begun_ends t [] q.begun refl in
              let x = p.again place t ends (λ (h : a.notes.removes ≡ true). ap reading_text (last h)) in
              let n = length p.others in
              let y = q.again (place + 1 + n) in
              let skip : x.read.length - 1 ≡ n = (let s = x.size in omega arith) in
              let behind : pieces inner setting false (place + 1) (piece_length (Ok x.read) - 1) (p.others ++ t) ≡ Ok y.read =
              ap (λ (m : ℕ). pieces inner setting false (place + 1) m (p.others ++ t)) skip ∙ pieces-skip false (place + 1) n (p.others ++ t)
              ∙ ap (pieces inner setting false (place + 1 + n) zero) (drop_at p.others t n refl) ∙ y.is in
              record {
                read = both x.read.reading y.read;
                is = ap (pieces inner setting first place zero) e
                    ∙ ap (λ (z : Result Piece Finding). then_others z (pieces inner setting false (place + 1) (piece_length z - 1) (p.others ++ t))) x.is
                    ∙ ap (then_others (Ok x.read)) behind;
                same = both-same x.read.reading y.read a c x.same y.same;
              });
          nested = λ h. or_from a.notes.removes c.notes.removes (nested h) (q.nested h);
          only = λ h. elim (or_cases a.notes.removes c.notes.removes h) [ inl here ↦ only here | inr there ↦ q.only there ];
        };
      }

  ok_same : (x y : Reading) → ◌≡◌ {A = Result Reading Finding} (Ok x) (Ok y) → x ≡ y
  ok_same x y h = cc

  behind_good : (first : Bool) (place b : ℕ) (text : Bytes) (p : Piece) (r : Reading) → OnPiece inner setting k good first (b ∷ text) (Ok p)
      → (others : Result Reading Finding) → pieces inner setting false (place + 1) (p.length - 1) text ≡ others → (others >>= λ c. Ok (both p.reading c)) ≡ Ok r
      → ((c : Reading) → pieces inner setting false (place + 1) (p.length - 1) text ≡ Ok c → list_all step_is_balanced c.steps ≡ true → ArePieces false c)
      → list_all step_is_balanced r.steps ≡ true → SomePieces first r
  behind_good first place b text p r on (Err f) others is more balanced = absurd (let w : Err f ≡ Ok r = is in cc)
  behind_good first place b text p r on (Ok c) others is more balanced =
      let e : both p.reading c ≡ r = ok_same (both p.reading c) r is in
      let split : (list_all step_is_balanced p.reading.steps && list_all step_is_balanced c.steps) ≡ true =
      sym (list_all-append step_is_balanced p.reading.steps c.steps) ∙ ap (λ (x : Reading). list_all step_is_balanced x.steps) e ∙ balanced in
      let q = and_parts (list_all step_is_balanced p.reading.steps) (list_all step_is_balanced c.steps) split in
      let g = on q.0 in
      subst (SomePieces first) e (joined first p.reading c g.piece (more c others q.1)
      (λ (h : p.reading.notes.removes ≡ true). ok_same c nothing (sym others ∙ nothing_left false (place + 1) b p.length text (g.last h))) g.nested g.only)

  then_good : (first : Bool) (place b : ℕ) (text : Bytes) (p : Result Piece Finding) (r : Reading) → OnPiece inner setting k good first (b ∷ text) p
      → then_others p (pieces inner setting false (place + 1) (piece_length p - 1) text) ≡ Ok r
      → ((c : Reading) → pieces inner setting false (place + 1) (piece_length p - 1) text ≡ Ok c → list_all step_is_balanced c.steps ≡ true → ArePieces false c)
      → list_all step_is_balanced r.steps ≡ true → SomePieces first r
  then_good first place b text (Err f) r on is more balanced = absurd (let w : Err f ≡ Ok r = is in cc)
  then_good first place b text (Ok p) r on is more balanced = behind_good first place b text p r on (pieces inner setting false (place + 1) (p.length - 1) text) refl is more balanced

  pub pieces_good : (first : Bool) (place n : ℕ) (text : Bytes) (r : Reading) → pieces inner setting first place n text ≡ Ok r → list_all step_is_balanced r.steps ≡ true → ArePieces first r
  pieces_good first place n [] r h balanced = subst (ArePieces first) (ok_same nothing r h) (none first)
  pieces_good first place (suc n) (b ∷ text) r h balanced = pieces_good first (place + 1) n text r h balanced
  pieces_good first place zero (b ∷ text) r h balanced =
      let p = piece inner setting first place b text in
      (then_good first place b text p r (piece_good inner setting k good first place b text) h (λ c e d. pieces_good false (place + 1) (piece_length p - 1) text c e d) balanced).are

  pub compound_good : (place : ℕ) (text : Bytes) (r : Reading) → is_empty text ≡ false → pieces inner setting true place zero text ≡ Ok r → list_all step_is_balanced r.steps ≡ true → SomePieces true r
  compound_good place [] r some h balanced = absurd (both_ways true some refl)
  compound_good place (b ∷ text) r some h balanced =
      let p = piece inner setting true place b text in
      then_good true place b text p r (piece_good inner setting k good true place b text) h (λ c e d. pieces_good false (place + 1) (piece_length p - 1) text c e d) balanced
