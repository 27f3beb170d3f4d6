-- Pieces by their first byte, and pseudo-classes.
use denote.Ref.{Bor}
use Rattle.std.specs.Prelude.{MatchResult}
use Rattle.std.proofs.Common.{◌≡◌, ℕ, zero, suc, ◌+◌, ◌-◌, Bool, true, false, List, [], ◌∷◌, length, drop, Option, Some, None, Result, Ok, Err, if◌then◌else◌, refl, sym, ap, subst, ◌∙◌, arith, inl, inr}
use Rattle.std.specs.Str.{str_to_ascii_lowercase}
use Rattle.std.proofs.lemmas.List.{drop-drop}
use Rattle.std.proofs.lemmas.Bool.{cases_Bool, false≢true, eqb-true}
use Rattle.selector_tree.specs.declared.selector.Step.{Step}
use Rattle.selector_spelling.specs.declared.finding.Cause.TheVariants as cause
use Rattle.selector_spelling.specs.declared.finding.Finding.{Finding}
use Rattle.selector_spelling.specs.declared.open.Open.{Open}
use Rattle.selector_spelling.specs.declared.operator.Operator.{Operator}
use Rattle.selector_spelling.specs.declared.reading.Notes.{Notes}
use Rattle.selector_spelling.specs.declared.reading.Reading.{Reading}
use Rattle.selector_spelling.specs.declared.reading.Chains.{Chains}
use Rattle.selector_spelling.specs.declared.reading.Setting.{Setting}
use Rattle.selector_spelling.specs.Bytes.{Bytes, front, behind, begins_with, is_pseudo_byte, is_empty, colon, round_open}
use Rattle.selector_spelling.specs.Names.{begins_name}
use Rattle.selector_spelling.specs.Operators.{operator_of}
use Rattle.selector_spelling.specs.Scan.{opens, standing, is_closed}
use Rattle.selector_spelling.specs.Pieces.{◌>>=◌, bad, keep, Piece, where_closed, pseudo, pseudo_class, behind_name, with_argument, without_argument, without_argument_reading, by_operator}
use Rattle.selector_spelling.specs.Texts.{argument, selector}
use Rattle.selector_lexer.specs.declared.stop.Stop.{Stop}
use Rattle.selector_lexer.specs.declared.stop.Stop.TheVariants as stop
use Rattle.selector_lexer.specs.Splits.{IsArgument}
use Rattle.selector_lexer.specs.Stops.{Fails}
use Rattle.spelling_reader.specs.Readings.{Inner, Reads, ReadsChains, ReadsPiece, ReadsTest, piece_at}
use Rattle.spelling_reader.proofs.ReadsLaws.{notes-nothing}

fails-same : {A : Type 0} (e : Stop) (a b : Result A Finding) → a ≡ b → Fails e b → Fails e a
fails-same stop.NoMemory a b e h = tt
fails-same (stop.Found f) a b e h = e ∙ h

closed-then : {A : Type 0} (at : ℕ) (opened : Open) (text : Bytes) (read : Result A Finding) → is_closed (standing (opened ∷ [])) text ≡ true → where_closed at opened text read ≡ read
closed-then at opened text read h = ap (λ (c : Bool). if c then read else bad cause.Unbalanced at) h

-- ---- arguments by their levels

argument-level : (levels : ℕ) (in_has : Bool) (at : ℕ) (text : Bytes) → (levels ≡ 0 → ⊥) → selector (argument (levels - 1)) true in_has at text ≡ argument levels in_has at text
argument-level zero in_has at text h = absurd (h refl)
argument-level (suc n) in_has at text h = let e : suc n - 1 ≡ n = omega arith in ap (λ (k : ℕ). selector (argument k) true in_has at text) e

pub argument_result : (levels : ℕ) (in_has : Bool) (at : ℕ) (text : Bytes) (n n' : Notes) (r : Result (List (List Step)) Stop) → (levels ≡ 0 → ⊥)
    → (let given = selector (argument (levels - 1)) true in_has at text in MatchResult r (λ chains. ReadsChains chains n n' given) (λ e. Fails e given))
    → (let given = argument levels in_has at text in MatchResult r (λ chains. ReadsChains chains n n' given) (λ e. Fails e given))
argument_result levels in_has at text n n' r h m =
    subst (λ (given : Result Chains Finding). MatchResult r (λ chains. ReadsChains chains n n' given) (λ e. Fails e given)) (argument-level levels in_has at text h) m

-- ---- pieces

pub test_result : (s s' : List Step) (n : Notes) (text : Bytes) (given : Result Piece Finding) (r : Result (Bor Bytes) Stop) → MatchResult r (λ rest. ReadsTest s s' text rest.now given) (λ e. Fails e given)
    → MatchResult r (λ rest. ReadsPiece s s' n n text rest.now given) (λ e. Fails e given)
test_result s s' n text given (Ok rest) t =
    record { read = record { length = t.length; reading = keep t.test }; is = t.is; some = t.some; rest_is = t.rest_is; steps_are = t.steps_are; notes_are = sym (notes-nothing n) }
test_result s s' n text given (Err e) h = h

begins-cons : (c : ℕ) (text more : Bytes) → begins_with c text ≡ true → more ≡ drop 1 text → text ≡ c ∷ more
begins-cons c [] more h e = absurd (false≢true h)
begins-cons c (b ∷ text) more h e = ap (λ (k : ℕ). k ∷ text) (eqb-true b c h) ∙ ap (λ (v : Bytes). c ∷ v) (sym e)

pub pseudo_result : (inner : Inner) (setting : Setting) (first : Bool) (at : ℕ) (text more : Bytes) (s s' : List Step) (n n' : Notes) (r : Result (Bor Bytes) Stop) → begins_with colon text ≡ true → more ≡ drop 1 text
    → (let given = pseudo inner setting first at more in MatchResult r (λ rest. ReadsPiece s s' n n' (colon ∷ more) rest.now given) (λ e. Fails e given))
    → (let given = piece_at inner setting first at text in MatchResult r (λ rest. ReadsPiece s s' n n' text rest.now given) (λ e. Fails e given))
pseudo_result inner setting first at text more s s' n n' r h e m =
    subst (λ (v : Bytes). MatchResult r (λ rest. ReadsPiece s s' n n' v rest.now (piece_at inner setting first at v)) (λ x. Fails x (piece_at inner setting first at v))) (sym (begins-cons colon text more h e)) m

-- ---- pseudo-classes

front-drop : (p : ℕ → Bool) (text : Bytes) → behind p text ≡ drop (length (front p text)) text
front-drop p [] = refl
front-drop p (b ∷ text) = elim (cases_Bool (p b)) [ inl h ↦ rw h (front-drop p text) | inr h ↦ rw h refl ]

module _ (inner : Inner) (setting : Setting) (first : Bool) (at : ℕ) (text name rest : Bytes) (other : begins_with colon text ≡ false) (name-is : name ≡ front is_pseudo_byte text) (rest-is : rest ≡ behind is_pseudo_byte text) where
  class-given : pseudo inner setting first at text ≡ pseudo_class inner setting first at text
  class-given = rw other refl

  pub no_name : begins_name name ≡ false → pseudo inner setting first at text ≡ bad cause.BadName at
  no_name h = let g : begins_name (front is_pseudo_byte text) ≡ false = ap begins_name (sym name-is) ∙ h in class-given ∙ rw g refl

  abbrev lower : Bytes
  lower = str_to_ascii_lowercase name

  named-given : begins_name name ≡ true → pseudo inner setting first at text ≡ behind_name inner setting first at lower (at + 1 + length name) rest
  named-given h =
      let g : begins_name (front is_pseudo_byte text) ≡ true = ap begins_name (sym name-is) ∙ h in
      let one : pseudo_class inner setting first at text ≡ behind_name inner setting first at (str_to_ascii_lowercase (front is_pseudo_byte text)) (at + 1 + length (front is_pseudo_byte text)) (behind is_pseudo_byte text) = rw g refl in
      class-given ∙ one ∙ ap (λ (v : Bytes). behind_name inner setting first at (str_to_ascii_lowercase v) (at + 1 + length v) (behind is_pseudo_byte text)) (sym name-is)
      ∙ ap (behind_name inner setting first at lower (at + 1 + length name)) (sym rest-is)

  rest-drop : rest ≡ drop (length name) text
  rest-drop = rest-is ∙ front-drop is_pseudo_byte text ∙ ap (λ (v : Bytes). drop (length v) text) (sym name-is)

  no-bracket : (v : Bytes) → begins_with round_open v ≡ false → behind_name inner setting first at lower (at + 1 + length name) v ≡ without_argument at lower (at + 1 + length name)
  no-bracket [] h = refl
  no-bracket (b ∷ v) h = rw h refl

  plain-given : begins_name name ≡ true → begins_with round_open rest ≡ false → pseudo inner setting first at text ≡ (without_argument_reading at lower >>= λ r. Ok (record { length = at + 1 + length name - at; reading = r }))
  plain-given h b = named-given h ∙ no-bracket rest b

  fails-then : {A B : Type 0} (e : Stop) (a : Result A Finding) (k : A → Result B Finding) → Fails e a → Fails e (a >>= k)
  fails-then stop.NoMemory a k h = tt
  fails-then (stop.Found f) a k h = ap (λ v. v >>= k) h

  pub plain_stop : (e : Stop) → begins_name name ≡ true → begins_with round_open rest ≡ false → Fails e (without_argument_reading at lower) → Fails e (pseudo inner setting first at text)
  plain_stop e h b f = fails-same e (pseudo inner setting first at text) _ (plain-given h b) (fails-then e (without_argument_reading at lower) (λ r. Ok (record { length = at + 1 + length name - at; reading = r })) f)

  pub plain_read : (s s' : List Step) (n n' : Notes) → begins_name name ≡ true → begins_with round_open rest ≡ false → Reads s s' n n' (without_argument_reading at lower)
      → ReadsPiece s s' n n' (colon ∷ text) rest (pseudo inner setting first at text)
  plain_read s s' n n' h b r =
      let k : at + 1 + length name - at ≡ suc (length name) = omega arith in
      record {
        read = record { length = at + 1 + length name - at; reading = r.reading };
        is = plain-given h b ∙ ap (λ (v : Result Reading Finding). v >>= λ x. Ok (record { length = at + 1 + length name - at; reading = x })) r.is;
        some = omega (arith, k);
        rest_is = rest-drop ∙ ap (λ (m : ℕ). drop m (colon ∷ text)) (sym k);
        steps_are = r.steps_are;
        notes_are = r.notes_are;
      }

  module _ (inside : Bytes) (h : begins_name name ≡ true) (b : begins_with round_open rest ≡ true) (inside-is : inside ≡ drop 1 rest) where
    bracket-given : pseudo inner setting first at text ≡ with_argument inner setting first at lower (at + 1 + length name + 1) inside
    bracket-given = named-given h ∙ ap (behind_name inner setting first at lower (at + 1 + length name)) (begins-cons round_open rest inside b inside-is)

    -- no bracket closes the argument
    pub open_stop : (e : Stop) → ((read : Result Piece Finding) → Fails e (where_closed at (opens lower inside) inside read)) → Fails e (pseudo inner setting first at text)
    open_stop e f = fails-same e (pseudo inner setting first at text) _ bracket-given (f _)

  module _ (inside argument' after : Bytes) (h : begins_name name ≡ true) (b : begins_with round_open rest ≡ true) (inside-is : inside ≡ drop 1 rest) (a : IsArgument (opens lower inside) inside argument' after) where
    abbrev by : ℕ → Option Operator → Result Reading Finding
    by from o = by_operator inner setting first (is_empty after) at from argument' o

    abbrev counted : Reading → Result Piece Finding
    counted r = Ok (record { length = at + 1 + length name + 1 - at + length argument' + 1; reading = r })

    argument-given : pseudo inner setting first at text ≡ (by (at + 1 + length name + 1) (operator_of lower) >>= counted)
    argument-given =
        bracket-given inside h b inside-is
        ∙ closed-then at (opens lower inside) inside _ a.closed
        ∙ ap (λ (v : Bytes). by_operator inner setting first (is_empty (drop (length v + 1) inside)) at (at + 1 + length name + 1) v (operator_of lower) >>= λ r. Ok (record { length = at + 1 + length name + 1 - at + length v + 1; reading = r })) (sym a.is)
        ∙ ap (λ (v : Bytes). by_operator inner setting first (is_empty v) at (at + 1 + length name + 1) argument' (operator_of lower) >>= counted) (sym a.rest_is)

    pub unknown_stop : operator_of lower ≡ None → pseudo inner setting first at text ≡ bad cause.UnknownPseudo at
    unknown_stop e = argument-given ∙ ap (λ (o : Option Operator). by (at + 1 + length name + 1) o >>= counted) e

    operator-given : (o : Operator) (from : ℕ) (ends : Bool) → operator_of lower ≡ Some o → from ≡ at + 2 + length name → ends ≡ is_empty after
        → pseudo inner setting first at text ≡ (by_operator inner setting first ends at from argument' (Some o) >>= counted)
    operator-given o from ends e f g =
        let k : at + 1 + length name + 1 ≡ from = omega (arith, f) in
        argument-given ∙ ap (λ (x : Option Operator). by (at + 1 + length name + 1) x >>= counted) e ∙ ap (λ (m : ℕ). by m (Some o) >>= counted) k
        ∙ ap (λ (x : Bool). by_operator inner setting first x at from argument' (Some o) >>= counted) (sym g)

    pub operator_stop : (e : Stop) (o : Operator) (from : ℕ) (ends : Bool) → operator_of lower ≡ Some o → from ≡ at + 2 + length name → ends ≡ is_empty after → Fails e (by_operator inner setting first ends at from argument' (Some o))
        → Fails e (pseudo inner setting first at text)
    operator_stop e o from ends o-is f g x = fails-same e (pseudo inner setting first at text) _ (operator-given o from ends o-is f g) (fails-then e (by_operator inner setting first ends at from argument' (Some o)) counted x)

    pub operator_read : (o : Operator) (from : ℕ) (ends : Bool) (s s' : List Step) (n n' : Notes) → operator_of lower ≡ Some o → from ≡ at + 2 + length name → ends ≡ is_empty after
        → Reads s s' n n' (by_operator inner setting first ends at from argument' (Some o)) → ReadsPiece s s' n n' (colon ∷ text) after (pseudo inner setting first at text)
    operator_read o from ends s s' n n' o-is f g r =
        let m = length argument' in
        let k : at + 1 + length name + 1 - at + m + 1 ≡ suc (length name + (1 + (m + 1))) = omega arith in
        record {
          read = record { length = at + 1 + length name + 1 - at + m + 1; reading = r.reading };
          is = operator-given o from ends o-is f g ∙ ap (λ (v : Result Reading Finding). v >>= counted) r.is;
          some = omega (arith, k);
          rest_is = a.rest_is ∙ ap (drop (m + 1)) (inside-is ∙ ap (drop 1) rest-drop ∙ drop-drop 1 (length name) text) ∙ drop-drop (m + 1) (length name + 1) text
              ∙ (let j : length name + 1 + (m + 1) ≡ length name + (1 + (m + 1)) = omega arith in ap (λ (i : ℕ). drop i text) j) ∙ ap (λ (i : ℕ). drop i (colon ∷ text)) (sym k);
          steps_are = r.steps_are;
          notes_are = r.notes_are;
        }
