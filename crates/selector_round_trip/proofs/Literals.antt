-- Literals: their canonical text is read as the literal.
use Rattle.std.proofs.Common.{◌≡◌, ℕ, Bool, true, false, eqb, ◌||◌, [], ◌∷◌, ◌++◌, Option, Some, None, if◌then◌else◌, refl, sym, ap, subst, ◌∙◌, append_assoc, inl, inr}
use Rattle.std.proofs.lemmas.Bool.{both_ways, or_parts, or_cases, eq-eqb, eqb-true}
use Rattle.cos_source.specs.Spaces.{is_space, before_text, without_first_spaces, without_last_spaces, trimmed}
use Rattle.selector_tree.specs.declared.selector.Arg.TheVariants as arg
use Rattle.selector_tree.specs.declared.letters.Spelling.TheVariants.{Literal}
use Rattle.selector_tree.specs.Letters.{is_marked, letter, letters, literal_text}
use Rattle.selector_spelling.specs.Bytes.{Bytes}
use Rattle.selector_spelling.specs.Arguments.{last_is, without_last, unquoted, unescaped, pattern_form, up_to, Split, with_front}
use Rattle.selector_spelling.specs.Arguments as spelled
use Rattle.selector_round_trip.proofs.Names.{letter_cases}
use Rattle.selector_round_trip.proofs.Bodies.{up_to-plain, up_to-paired}

-- ---- trimming

last_kept : (text : Bytes) (c : ℕ) → is_space c ≡ false → without_last_spaces (text ++ c ∷ []) ≡ text ++ c ∷ []
last_kept [] c h = rw h refl
last_kept (b ∷ []) c h = ap (before_text b) (last_kept [] c h)
last_kept (b ∷ d ∷ text) c h = ap (before_text b) (last_kept (d ∷ text) c h)

-- a text that begins and ends with something else is not trimmed
pub trimmed_again : (b : ℕ) (text : Bytes) (c : ℕ) → is_space b ≡ false → is_space c ≡ false → trimmed (b ∷ (text ++ c ∷ [])) ≡ b ∷ (text ++ c ∷ [])
trimmed_again b text c h k =
    ap without_last_spaces (ap (λ (x : Bool). if x then without_first_spaces (text ++ c ∷ []) else b ∷ (text ++ c ∷ [])) h) ∙ last_kept (b ∷ text) c k

-- ---- quotes

pub last_again : (q : ℕ) (text : Bytes) → last_is q (text ++ q ∷ []) ≡ true
last_again q [] = eq-eqb q q refl
last_again q (b ∷ []) = last_again q []
last_again q (b ∷ c ∷ text) = last_again q (c ∷ text)

without_last_again : (q : ℕ) (text : Bytes) → without_last (text ++ q ∷ []) ≡ text
without_last_again q [] = refl
without_last_again q (b ∷ []) = refl
without_last_again q (b ∷ c ∷ text) = ap (λ (t : Bytes). b ∷ t) (without_last_again q (c ∷ text))

unquoted_again : (text : Bytes) → unquoted (34 ∷ (text ++ 34 ∷ [])) ≡ text
unquoted_again text = ap (λ (c : Bool). if c then without_last (text ++ 34 ∷ []) else 34 ∷ (text ++ 34 ∷ [])) (last_again 34 text) ∙ without_last_again 34 text

-- ---- marks

plain_parts : (b : ℕ) → is_marked Literal b ≡ false → (eqb b 92 ≡ false) × (eqb b 47 ≡ false) × (eqb b 34 ≡ false) × (eqb b 40 ≡ false) × (eqb b 41 ≡ false)
plain_parts b h =
    let p = or_parts (eqb b 92 || eqb b 47 || eqb b 34 || eqb b 40) (eqb b 41) h in
    let q = or_parts (eqb b 92 || eqb b 47 || eqb b 34) (eqb b 40) p.0 in
    let r = or_parts (eqb b 92 || eqb b 47) (eqb b 34) q.0 in
    let s = or_parts (eqb b 92) (eqb b 47) r.0 in
    (s.0, s.1, r.1, q.1, p.1)

-- a marked byte is one of five
pub marked_in : (P : ℕ → Type 0) → P 92 → P 47 → P 34 → P 40 → P 41 → (b : ℕ) → is_marked Literal b ≡ true → P b
marked_in P v w x y z b h =
    elim (or_cases (eqb b 92 || eqb b 47 || eqb b 34 || eqb b 40) (eqb b 41) h) [
      | inr is ↦ subst P (sym (eqb-true b 41 is)) z
      | inl h ↦ elim (or_cases (eqb b 92 || eqb b 47 || eqb b 34) (eqb b 40) h) [
        | inr is ↦ subst P (sym (eqb-true b 40 is)) y
        | inl h ↦ elim (or_cases (eqb b 92 || eqb b 47) (eqb b 34) h) [
          | inr is ↦ subst P (sym (eqb-true b 34 is)) x
          | inl h ↦ elim (or_cases (eqb b 92) (eqb b 47) h) [
            | inr is ↦ subst P (sym (eqb-true b 47 is)) w
            | inl is ↦ subst P (sym (eqb-true b 92 is)) v
          ]
        ]
      ]
    ]

-- a `\` is dropped before a marked byte
abbrev unmarked : Bool → Bytes → Bytes
unmarked = unescaped spelled.is_marked

-- a letter of a literal prints behind a `\`, or as it is
pub literal_cases : (P : Bytes → Type 0) (b : ℕ) → (is_marked Literal b ≡ true → P (92 ∷ b ∷ [])) → (is_marked Literal b ≡ false → P (b ∷ [])) → P (letter Literal b)
literal_cases P b marked plain = letter_cases Literal P b (λ h. absurd (both_ways false refl h)) (λ h k. marked k) (λ h k. plain k)

pub unmarked_again : (text : Bytes) → unmarked false (letters Literal text) ≡ text
unmarked_again [] = refl
unmarked_again (b ∷ text) =
    let rest = letters Literal text in
    let one : unmarked false (letter Literal b ++ rest) ≡ b ∷ unmarked false rest =
    literal_cases (λ v. unmarked false (v ++ rest) ≡ b ∷ unmarked false rest) b (marked_in (λ c. unmarked false (92 ∷ c ∷ rest) ≡ c ∷ unmarked false rest) refl refl refl refl refl b) (λ h. rw (plain_parts b h).0 refl) in
    one ∙ ap (λ (t : Bytes). b ∷ t) (unmarked_again text)

no_form : (text : Bytes) → pattern_form (letters Literal text) ≡ None
no_form [] = refl
no_form (b ∷ text) = literal_cases (λ v. pattern_form (v ++ letters Literal text) ≡ None) b (λ h. refl) (λ h. rw (plain_parts b h).1 refl)

-- the text of a literal is read as that literal
pub literal_again : (text : Bytes) → spelled.text_argument (literal_text text) ≡ arg.Literal text
literal_again text =
    let inner = letters Literal text in
    let e : unquoted (trimmed (literal_text text)) ≡ inner = ap unquoted (trimmed_again 34 inner 34 refl refl) ∙ unquoted_again inner in
    ap (λ (t : Bytes). spelled.slashed_or (pattern_form t) t) e ∙ ap (λ (o : Option spelled.Slashed). spelled.slashed_or o inner) (no_form text)
    ∙ ap (λ (t : Bytes). arg.Literal t) (unmarked_again text)

-- ---- its scan

-- ---- the name part of `:matches-attr` between quotes

abbrev split : Bytes → Bytes → Option Split
split front rest = Some (record { front = front; rest = rest })

up_to-letter : (b : ℕ) (text : Bytes) → up_to 34 false (letter Literal b ++ text) ≡ (if is_marked Literal b then with_front 92 (with_front b (up_to 34 false text)) else with_front b (up_to 34 false text))
up_to-letter b text =
    let more = up_to 34 false text in
    let both = λ (c : Bool). if c then with_front 92 (with_front b more) else with_front b more in
    literal_cases (λ v. up_to 34 false (v ++ text) ≡ both (is_marked Literal b)) b (λ h. ap (with_front 92) (up_to-paired 34 b text) ∙ ap both (sym h))
    (λ h. (let p = plain_parts b h in up_to-plain 34 b text p.2 ∙ ap (λ (c : Bool). with_front b (up_to 34 c text)) p.0 ∙ ap both (sym h)))

front_letter : (c : Bool) (b : ℕ) (text rest : Bytes) → (if c then with_front 92 (with_front b (split text rest)) else with_front b (split text rest)) ≡ split ((if c then 92 ∷ b ∷ [] else b ∷ []) ++ text) rest
front_letter true b text rest = refl
front_letter false b text rest = refl

pub up_to_quote : (text rest : Bytes) → up_to 34 false (letters Literal text ++ 34 ∷ rest) ≡ split (letters Literal text ++ 34 ∷ []) rest
up_to_quote [] rest = refl
up_to_quote (b ∷ text) rest =
    let inner = letters Literal text in
    ap (up_to 34 false) (append_assoc (letter Literal b) inner (34 ∷ rest))
    ∙ up_to-letter b (inner ++ 34 ∷ rest)
    ∙ ap (λ (o : Option Split). if is_marked Literal b then with_front 92 (with_front b o) else with_front b o) (up_to_quote text rest)
    ∙ front_letter (is_marked Literal b) b (inner ++ 34 ∷ []) rest
    ∙ ap (λ (t : Bytes). split t rest) (sym (append_assoc (letter Literal b) inner (34 ∷ [])))
