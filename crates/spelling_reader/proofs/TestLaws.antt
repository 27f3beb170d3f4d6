-- Pieces that are tests of names and attributes.
use denote.Ref.{Bor}
use Rattle.std.specs.Prelude.{MatchResult}
use Rattle.std.proofs.Common.{subst, ◌≡◌, ℕ, suc, ◌+◌, ◌-◌, ◌<◌, Bool, true, false, eqb, List, [], ◌∷◌, ◌++◌, length, get_or, drop, Some, Result, Ok, Err, refl, sym, ap, ◌∙◌, arith}
use Rattle.std.proofs.lemmas.Bool.{ne_eqb}
use Rattle.selector_tree.specs.declared.selector.Step.{Step}
use Rattle.selector_tree.specs.declared.selector.Step.TheVariants as step
use Rattle.selector_tree.specs.declared.selector.Test.{Test}
use Rattle.selector_spelling.specs.declared.finding.Finding.{Finding}
use Rattle.selector_spelling.specs.declared.open.Open.TheVariants.{Square}
use Rattle.selector_spelling.specs.declared.reading.Setting.{Setting}
use Rattle.selector_spelling.specs.Bytes.{Bytes, begins_with, colon, hash, dot, star, square_open}
use Rattle.selector_spelling.specs.Names.{name}
use Rattle.selector_spelling.specs.Scan.{standing, within}
use Rattle.selector_spelling.specs.Attributes.{attribute}
use Rattle.selector_spelling.specs.Pieces.{Piece, keep, named, attributed, piece}
use Rattle.selector_lexer.specs.declared.stop.Stop.{Stop}
use Rattle.selector_lexer.specs.declared.stop.Stop.TheVariants as stop
use Rattle.spelling_reader.specs.declared.tests_of.Named.{Named}
use Rattle.spelling_reader.specs.declared.tests_of.Named.TheVariants as kind
use Rattle.spelling_reader.specs.Named.{of_name, NamesTest, FailsName}
use Rattle.selector_lexer.specs.Splits.{IsArgument}
use Rattle.selector_lexer.specs.Stops.{Fails}
use Rattle.spelling_reader.specs.Readings.{Inner, ReadsTest, piece_at}
use Rattle.spelling_reader.proofs.Suffixes.{IsBehind, name-behind, count-behind, behind-sign}

pub first-and-rest : (text : Bytes) → 0 < length text → text ≡ get_or text 0 0 ∷ drop 1 text
first-and-rest [] h = absurd (omega arith)
first-and-rest (b ∷ text) h = refl

module _ (at : ℕ) (steps steps' : List Step) (given : Result Piece Finding) where
  from-name : (kind : Named) (text more rest : Bytes) → given ≡ named at text (of_name kind) (name more) → NamesTest kind steps steps' more rest → IsBehind 1 text rest → ReadsTest steps steps' text rest given
  from-name kind text more rest e t s =
      let n = count-behind 1 text rest s in
      record {
        test = of_name kind t.value;
        length = length text - length rest;
        is = e ∙ ap (named at text (of_name kind)) t.is;
        some = n.0;
        rest_is = n.1;
        steps_are = t.steps_are;
      }

  pub from-sign : (kind : Named) (b : ℕ) (more rest : Bytes) → given ≡ named at (b ∷ more) (of_name kind) (name more) → NamesTest kind steps steps' more rest → ReadsTest steps steps' (b ∷ more) rest given
  from-sign kind b more rest e t = from-name kind (b ∷ more) more rest e t (behind-sign b more rest 1 (name-behind more t.value rest t.is))

  pub from-start : (kind : Named) (text rest : Bytes) → given ≡ named at text (of_name kind) (name text) → NamesTest kind steps steps' text rest → ReadsTest steps steps' text rest given
  from-start kind text rest e t = from-name kind text text rest e t (name-behind text t.value rest t.is)

  pub name-fails : (kind : Named) (s : Stop) (text more : Bytes) → given ≡ named at text (of_name kind) (name more) → FailsName at more s → Fails s given
  name-fails kind stop.NoMemory text more e f = tt
  name-fails kind (stop.Found finding) text more e f = e ∙ ap (named at text (of_name kind)) f.1 ∙ ap (λ (x : Finding). Err x) (sym f.0)

  pub attribute-read : (more rest inside : Bytes) (t : Test) → given ≡ attributed at more → IsArgument Square more inside rest → Some t ≡ attribute inside
      → steps' ≡ steps ++ step.Keep t ∷ [] → ReadsTest steps steps' (square_open ∷ more) rest given
  attribute-read more rest inside t e a t-is steps-are =
      let same : Some t ≡ attribute (within (standing (Square ∷ [])) more) = t-is ∙ ap attribute a.is in
      let one : attributed at more ≡ Ok (record { length = length (within (standing (Square ∷ [])) more) + 2; reading = keep t }) = rw (a.closed, ← same) refl in
      record {
        test = t;
        length = length inside + 2;
        is = e ∙ one ∙ ap (λ (v : Bytes). Ok (record { length = length v + 2; reading = keep t })) (sym a.is);
        some = omega arith;
        rest_is = a.rest_is ∙ (let k : length inside + 2 ≡ suc (length inside + 1) = omega arith in ap (λ (m : ℕ). drop m (square_open ∷ more)) (sym k));
        steps_are = steps-are;
      }

-- ---- by the first byte

module _ (inner : Inner) (setting : Setting) (first : Bool) (at : ℕ) where
  at-tag : (b : ℕ) (text : Bytes) → eqb b hash ≡ false → eqb b dot ≡ false → eqb b square_open ≡ false → eqb b colon ≡ false → first ≡ true → eqb b star ≡ false
      → piece inner setting first at b text ≡ named at (b ∷ text) (of_name kind.Tag) (name (b ∷ text))
  at-tag b text h d s c f k = rw (h, d, s, c, f, k) refl

-- ---- as results

pub cons-is : (text more bytes : Bytes) (b : ℕ) → 0 < length text → bytes ≡ text → get_or bytes 0 0 ≡ b → more ≡ drop 1 text → text ≡ b ∷ more
cons-is text more bytes b some same b-is more-is =
    first-and-rest text some ∙ ap (λ (k : ℕ). k ∷ drop 1 text) (ap (λ (v : Bytes). get_or v 0 0) (sym same) ∙ b-is) ∙ ap (λ (v : Bytes). b ∷ v) (sym more-is)

module _ (steps steps' : List Step) (at : ℕ) (given : Result Piece Finding) where
  pub sign-result : (kind : Named) (text more : Bytes) (b : ℕ) (r : Result (Bor Bytes) Stop) → text ≡ b ∷ more → given ≡ named at (b ∷ more) (of_name kind) (name more)
      → MatchResult r (λ rest. NamesTest kind steps steps' more rest.now) (FailsName at more) → MatchResult r (λ rest. ReadsTest steps steps' text rest.now given) (λ s. Fails s given)
  sign-result kind text more b (Ok rest) cons e t = subst (λ (v : Bytes). ReadsTest steps steps' v rest.now given) (sym cons) (from-sign at steps steps' given kind b more rest.now e t)
  sign-result kind text more b (Err s) cons e f = name-fails at steps steps' given kind s (b ∷ more) more e f

  pub start-result : (kind : Named) (text : Bytes) (r : Result (Bor Bytes) Stop) → given ≡ named at text (of_name kind) (name text)
      → MatchResult r (λ rest. NamesTest kind steps steps' text rest.now) (FailsName at text) → MatchResult r (λ rest. ReadsTest steps steps' text rest.now given) (λ s. Fails s given)
  start-result kind text (Ok rest) e t = from-start at steps steps' given kind text rest.now e t
  start-result kind text (Err s) e f = name-fails at steps steps' given kind s text text e f

  pub square-result : (text more : Bytes) (b : ℕ) (r : Result (Bor Bytes) Stop) → text ≡ square_open ∷ more → given ≡ attributed at more
      → ((g : Result Piece Finding) → g ≡ attributed at more → MatchResult r (λ rest. ReadsTest steps steps' (square_open ∷ more) rest.now g) (λ s. Fails s g))
      → MatchResult r (λ rest. ReadsTest steps steps' text rest.now given) (λ s. Fails s given)
  square-result text more b (Ok rest) cons e t = subst (λ (v : Bytes). ReadsTest steps steps' v rest.now given) (sym cons) (t given e)
  square-result text more b (Err s) cons e f = f given e

module _ (inner : Inner) (setting : Setting) (first : Bool) (at : ℕ) (text more : Bytes) where
  pub hash-is : text ≡ hash ∷ more → piece_at inner setting first at text ≡ named at (hash ∷ more) (of_name kind.Id) (name more)
  hash-is cons = ap (piece_at inner setting first at) cons

  pub dot-is : text ≡ dot ∷ more → piece_at inner setting first at text ≡ named at (dot ∷ more) (of_name kind.Class) (name more)
  dot-is cons = ap (piece_at inner setting first at) cons

  pub square-is : text ≡ square_open ∷ more → piece_at inner setting first at text ≡ attributed at more
  square-is cons = ap (piece_at inner setting first at) cons

  pub tag-is : (b : ℕ) → text ≡ b ∷ more → begins_with colon text ≡ false → (b ≡ hash → ⊥) → (b ≡ dot → ⊥) → (b ≡ square_open → ⊥) → first ≡ true → (b ≡ star → ⊥)
      → piece_at inner setting first at text ≡ named at text (of_name kind.Tag) (name text)
  tag-is b cons other h d s f k =
      let c : eqb b colon ≡ false = ap (begins_with colon) (sym cons) ∙ other in
      ap (piece_at inner setting first at) cons
      ∙ at-tag inner setting first at b more (ne_eqb b hash h) (ne_eqb b dot d) (ne_eqb b square_open s) c f (ne_eqb b star k)
      ∙ ap (λ (v : Bytes). named at v (of_name kind.Tag) (name v)) (sym cons)
