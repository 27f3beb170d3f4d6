-- What stands behind a name is an end of the text.
use Rattle.std.proofs.Common.{◌≡◌, ℕ, zero, suc, ◌-◌, ◌≤◌, Bool, true, false, eqb, if◌then◌else◌, [], ◌∷◌, ◌++◌, length, drop, Option, Some, None, refl, sym, ap, ◌∙◌, arith, inl, inr}
use Rattle.std.proofs.lemmas.Bool.{cases_Bool, false≢true, eqb-true, and_parts}
use Rattle.std.proofs.lemmas.List.{length-append, drop_at}
use Rattle.std.specs.Prelude.{is_some}
use Rattle.selector_tree.specs.Letters.{is_name_byte}
use Rattle.selector_spelling.specs.Bytes.{Bytes, minus}
use Rattle.selector_spelling.specs.Names.{Letter, Taken, letter, letter_length, joined, run, begins_letter, begins_name, name}

-- the end of a text behind a front of at least so many bytes
pub record IsBehind (n : ℕ) (text rest : Bytes) : Type 0 where
  pub front : Bytes
  pub is : text ≡ front ++ rest
  pub some : n ≤ length front

longer : (b : ℕ) (text rest : Bytes) (n : ℕ) → IsBehind n text rest → IsBehind (suc n) (b ∷ text) rest
longer b text rest n s = let k = s.some in record { front = b ∷ s.front; is = ap (λ (v : Bytes). b ∷ v) s.is; some = omega (arith, k) }

weaker : (text rest : Bytes) → IsBehind 1 text rest → IsBehind 0 text rest
weaker text rest s = record { front = s.front; is = s.is; some = omega arith }

all-left : (text : Bytes) → IsBehind 0 text text
all-left text = record { front = []; is = refl; some = omega arith }

joined-behind : (l : Option Letter) (b : ℕ) (text : Bytes) (more : Taken) → IsBehind 0 text more.rest → IsBehind 0 (b ∷ text) (joined l (b ∷ text) more).rest
joined-behind None b text more s = all-left (b ∷ text)
joined-behind (Some l) b text more s = weaker (b ∷ text) more.rest (longer b text more.rest 0 s)

run-behind : (k : ℕ) (text : Bytes) → IsBehind 0 text (run k text).rest
run-behind k [] = all-left []
run-behind (suc k) (b ∷ text) = weaker (b ∷ text) (run k text).rest (longer b text (run k text).rest 0 (run-behind k text))
run-behind zero (b ∷ text) =
    let l = letter is_name_byte b text in
    joined-behind l b text (run (letter_length l - 1) text) (run-behind (letter_length l - 1) text)

joined-some : (l : Option Letter) (b : ℕ) (text : Bytes) (more : Taken) → is_some l ≡ true → IsBehind 0 text more.rest → IsBehind 1 (b ∷ text) (joined l (b ∷ text) more).rest
joined-some None b text more h s = absurd (false≢true h)
joined-some (Some l) b text more h s = longer b text more.rest 0 s

run-some : (b : ℕ) (text : Bytes) → is_some (letter is_name_byte b text) ≡ true → IsBehind 1 (b ∷ text) (run zero (b ∷ text)).rest
run-some b text h =
    let l = letter is_name_byte b text in
    joined-some l b text (run (letter_length l - 1) text) h (run-behind (letter_length l - 1) text)

first-letter : (b : ℕ) (text : Bytes) → begins_name (b ∷ text) ≡ true → is_some (letter is_name_byte b text) ≡ true
first-letter b text h =
    elim (cases_Bool (eqb b minus)) [
      | inl is ↦ (let e : 45 ≡ b = sym (eqb-true b minus is) in ap (λ (k : ℕ). is_some (letter is_name_byte k text)) (sym e))
      | inr another ↦ (let f : begins_name (b ∷ text) ≡ begins_letter b text = rw another refl in (and_parts _ _ (sym f ∙ h)).1)
    ]

taken : (text : Bytes) (t : Taken) (b : Bool) → (if b then Some (run zero text) else None) ≡ Some t → (b ≡ true) × (run zero text ≡ t)
taken text t true e = (refl, cc)
taken text t false e = absurd (let f : None ≡ Some t = e in cc)

pub name-behind : (text value rest : Bytes) → name text ≡ Some (record { value = value; rest = rest }) → IsBehind 1 text rest
name-behind [] value rest e = absurd (false≢true (taken [] (record { value = value; rest = rest }) false e).0)
name-behind (b ∷ text) value rest e =
    let t = taken (b ∷ text) (record { value = value; rest = rest }) (begins_name (b ∷ text)) e in
    let r : (run zero (b ∷ text)).rest ≡ rest = ap (λ (x : Taken). x.rest) t.1 in
    let s = run-some b text (first-letter b text t.0) in
    record { front = s.front; is = s.is ∙ ap (λ (v : Bytes). s.front ++ v) r; some = s.some }

pub count-behind : (n : ℕ) (text rest : Bytes) → IsBehind n text rest → (n ≤ length text - length rest) × (rest ≡ drop (length text - length rest) text)
count-behind n text rest s =
    let k = s.some in
    let e : length text - length rest ≡ length s.front = omega (arith, ap length s.is, length-append s.front rest) in
    (omega (arith, e, k), sym (ap (λ (m : ℕ). drop m text) e ∙ ap (drop (length s.front)) s.is ∙ drop_at s.front rest (length s.front) refl))

pub behind-sign : (b : ℕ) (text rest : Bytes) (n : ℕ) → IsBehind n text rest → IsBehind 1 (b ∷ text) rest
behind-sign b text rest n s = record { front = b ∷ s.front; is = ap (λ (v : Bytes). b ∷ v) s.is; some = omega arith }
